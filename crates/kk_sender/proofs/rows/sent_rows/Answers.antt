use Rattle.std.proofs.Common.{◌≡◌, ℕ, ◌+◌, List, ◌∷◌, ◌++◌, [], length, ap, sym, ◌∙◌, arith, length-append}
use Rattle.kk_rows.specs.Combination.{combination}
use Rattle.kk_outside.specs.Generator.{after_words, word_at}
use Rattle.kk_sender.specs.SentFrames.{with_combinations}
use Rattle.kk_sender.proofs.Frames.{with_combinations-none, with_combinations-more, drawn}
use Rattle.kk_sender.proofs.rows.sent_rows.Goals as goal

pub loop-init : goal.loop-init
loop-init g c = record {
  rows = λ start first is. c.plain_rows-rows.ensures.rows ∙ sym (with_combinations-none (word_at start) c.args.codeword.now first);
  stream = λ start first is. is ∙ ap (λ (n : ℕ). after_words n start) (omega arith);
  few = omega (arith, c.plain_rows-rows.ensures.few);
}

pub loop-preserved : goal.loop-preserved
loop-preserved g c =
    let loop = c.loop in
    record {
      rows = λ start first is.
          let next = drawn start _ _ _ (first + loop.counter) c.next_u64.ensures (loop.invariant.stream start first is) in
          c.push.ensures
          ∙ ap (λ (l : List ℕ). l ++ c.combination.result.0 ∷ []) (loop.invariant.rows start first is)
          ∙ ap (λ (r : ℕ). with_combinations (word_at start) c.args.codeword.now first loop.counter ++ r ∷ []) (
          c.combination.ensures
          ∙ ap (λ (l : List ℕ). combination l c.next_u64.result) c.as_slice.ensures.rows
          ∙ ap (combination c.args.codeword.now) next.0)
          ∙ sym (with_combinations-more (word_at start) c.args.codeword.now first loop.counter);
      stream = λ start first is.
          let next = drawn start _ _ _ (first + loop.counter) c.next_u64.ensures (loop.invariant.stream start first is) in
          let place : first + loop.counter + 1 ≡ first + (loop.counter + 1) = omega arith in
          next.1 ∙ ap (λ (n : ℕ). after_words n start) place;
      few = omega (arith, loop.invariant.few, ap length c.push.ensures, length-append loop.rows (c.combination.result.0 ∷ []));
    }
