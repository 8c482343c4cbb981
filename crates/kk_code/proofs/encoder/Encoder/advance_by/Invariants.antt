use Rattle.std.proofs.Common.{◌≡◌, ℕ, ◌<◌, ◌≤◌, length, slice_index}
use Rattle.kk_linpoly.specs.LinPoly.{xor_sum}
use Rattle.kk_code.specs.Encoder.{base, per_word, multiples, next_term}
use Rattle.kk_code.proofs.encoder.Encoder.advance_by.Given as goal

-- the terms before place j have gone on, and the word has the sums of their products
abbrev pub invariant-loop-j : goal.invariant-loop-j
invariant-loop-j l = record {
  long : length l.terms ≡ 64;
  word_is : l.word ≡ xor_sum (λ i. multiples l.self.field (base l.self i) (per_word l.self) (slice_index l.fn.terms i)) l.j;
  done : (i : ℕ) → i < l.j → slice_index l.terms i ≡ next_term l.self (slice_index l.fn.terms i) i;
  later : (i : ℕ) → l.j ≤ i → slice_index l.terms i ≡ slice_index l.fn.terms i;
}
