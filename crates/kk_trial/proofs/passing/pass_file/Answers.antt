use Rattle.std.proofs.Common.{ℕ, List, ◌++◌, sym, ap, ◌∙◌}
use Rattle.kk_outside.specs.Generator.{word_at}
use Rattle.kk_code.specs.Codeword.{Parameters, codeword}
use Rattle.kk_frame.specs.FrameView.{pairs}
use Rattle.kk_trial.specs.Trial.{received_rows}
use Rattle.kk_trial.proofs.Passed.{own_frames, rows_passed, words_passed}
use Rattle.kk_trial.proofs.Ranges.{flat_map-range_more}
use Rattle.kk_trial.proofs.passing.pass_file.Goals as goal

pub loop-generation-preserved : goal.loop-generation-preserved
loop-generation-preserved g c =
    let t = c.args.ticket.now in
    let channel = c.args.channel in
    let n = c.loop-generation.generation in
    let so_far = c.loop-generation.invariant in
    record {
      frames = λ start at made.
          let rows = rows_passed t channel start _ n (so_far.words start at) c.args.file.now c.code-code.result c.cut-message.result _ _ made
          c.code-code.ensures.code c.cut-message.ensures.exact (c.encode-codeword.ensures.rows ∙ ap (λ (p : Parameters). codeword p c.cut-message.result) c.in_ok-encoder.ensures) (c.as_slice.ensures.rows ∙ c.pass_through-passed.ensures.rows) in
          let own : ℕ → List (ℕ × ℕ) = λ h. own_frames h (received_rows t channel (word_at start) h) in
          c.in_ok-push_rows.ensures
          ∙ ap (λ (l : List ℕ). pairs c.loop-generation.frames.items ++ own_frames n l) rows
          ∙ ap (λ (l : List (ℕ × ℕ)). l ++ own n) (so_far.frames start at made)
          ∙ sym (flat_map-range_more own n);
      words = λ start at.
          words_passed t channel start _ n (so_far.words start at) _ _ (ap (λ (p : Parameters). p.l) c.code-code.ensures.code) c.pass_through-passed.ensures.words;
    }
