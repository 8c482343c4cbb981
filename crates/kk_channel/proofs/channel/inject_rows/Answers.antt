use Rattle.std.proofs.Common.{◌≡◌, ℕ, ◌+◌, ◌*◌, List, ◌∷◌, ◌++◌, [], length, ap, sym, ◌∙◌, arith, append_assoc}
use Rattle.std.proofs.lemmas.List.{length_push, append-nil, length-map}
use Rattle.kk_rows.specs.Rows.{numbers}
use Rattle.kk_rows.specs.declared.rows.Row.{Row}
use Rattle.kk_outside.specs.Generator.{after_words, word_at}
use Rattle.kk_channel.specs.Channel.{foreign_row, injected_row, injected_rows}
use Rattle.kk_channel.proofs.Injecting.{injected_rows-more}
use Rattle.kk_channel.proofs.Words.{drawn}
use Rattle.kk_channel.proofs.channel.inject_rows.Goals as goal

pub loop-j-init : goal.loop-j-init
loop-j-init g c = record {
  rows = λ start at. sym (append-nil c.args.passed.now);
  words = λ start at. at ∙ ap (λ (n : ℕ). after_words n start) (omega arith);
  count = omega arith;
}

pub loop-j-preserved : goal.loop-j-preserved
loop-j-preserved g c =
    let rows = numbers c.args.rows.now in
    let l = length c.args.rows.now in
    let j = c.loop-j.j in
    let lower = c.next_u64-lower.result in
    let word = c.next_u64-word.result in
    let so_far = c.loop-j.passed in
    let count : l ≡ length rows = sym (length-map c.args.rows.now (λ (r : Row). r.0)) in
    record {
      rows = λ start at.
          let one = drawn start _ _ _ (l + 2 * j) c.next_u64-lower.ensures (c.loop-j.invariant.words start at) in
          let two = drawn start _ _ _ (l + 2 * j + 1) c.next_u64-word.ensures one.1 in
          let row : c.foreign_row.result.0 ≡ injected_row (word_at start) rows j =
          c.foreign_row.ensures
          ∙ ap (λ (w : ℕ). foreign_row rows j w word) one.0
          ∙ ap (λ (w : ℕ). foreign_row rows j (word_at start (l + 2 * j)) w) two.0
          ∙ ap (λ (n : ℕ). foreign_row rows j (word_at start (n + 2 * j)) (word_at start (n + 2 * j + 1))) count in
          c.push.ensures
          ∙ ap (λ (x : ℕ). so_far ++ x ∷ []) row
          ∙ ap (λ (xs : List ℕ). xs ++ injected_row (word_at start) rows j ∷ []) (c.loop-j.invariant.rows start at)
          ∙ append_assoc c.args.passed.now (injected_rows (word_at start) rows j) (injected_row (word_at start) rows j ∷ [])
          ∙ ap (λ (xs : List ℕ). c.args.passed.now ++ xs) (sym (injected_rows-more (word_at start) rows j));
      words = λ start at.
          let one = drawn start _ _ _ (l + 2 * j) c.next_u64-lower.ensures (c.loop-j.invariant.words start at) in
          let two = drawn start _ _ _ (l + 2 * j + 1) c.next_u64-word.ensures one.1 in
          let place : l + 2 * j + 1 + 1 ≡ l + 2 * (j + 1) = omega arith in
          two.1 ∙ ap (λ (n : ℕ). after_words n start) place;
      count = omega (arith, c.loop-j.invariant.count, ap length c.push.ensures, length_push so_far c.foreign_row.result.0);
    }
