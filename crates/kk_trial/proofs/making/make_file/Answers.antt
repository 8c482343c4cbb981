use Rattle.std.proofs.Common.{ℕ, List, ◌++◌, sym, ap, ◌∙◌}
use Rattle.std.specs.Int.{w64, to_be_bytes}
use Rattle.std.proofs.lemmas.List.{append-nil}
use Rattle.kk_outside.specs.Generator.{word_at}
use Rattle.kk_channel.proofs.Words.{drawn}
use Rattle.kk_trial.proofs.Files.{words_from-more}
use Rattle.kk_trial.proofs.making.make_file.Goals as goal

pub loop-preserved : goal.loop-preserved
loop-preserved g c =
    let start = g.R.Rng.stream c.args.rng.now in
    let word = word_at start in
    let n = c.loop.counter in
    let next = drawn start _ _ _ n c.next_u64.ensures c.loop.invariant.words in
    record {
      bytes =
          c.in_ok-extend_from_slice.ensures.items
          ∙ ap (λ (l : List ℕ). c.loop.file.items ++ l) (c.write_u64.ensures ∙ append-nil (to_be_bytes w64 c.next_u64.result) ∙ ap (to_be_bytes w64) next.0)
          ∙ ap (λ (l : List ℕ). l ++ to_be_bytes w64 (word n)) c.loop.invariant.bytes
          ∙ sym (words_from-more word n);
      words = next.1;
    }
