use Rattle.std.proofs.Common.{◌≡◌, ℕ, ◌<◌, length, slice_index}
use Rattle.kk_linpoly.specs.LinPoly.{xor_sum}
use Rattle.kk_code.proofs.terms.Terms.of.Given as goal

-- the symbols before place j, and their sum
abbrev pub invariant-loop-j : goal.invariant-loop-j
invariant-loop-j l = record {
  long : length l.at_last ≡ 64;
  copied : (i : ℕ) → i < l.j → slice_index l.at_last i ≡ slice_index l.u i;
  word_is : l.word ≡ xor_sum (slice_index l.u) l.j;
}
