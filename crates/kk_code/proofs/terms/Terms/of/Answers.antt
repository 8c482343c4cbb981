use Rattle.std.proofs.Common.{◌≡◌, ℕ, ◌^◌, ◌<◌, ◌≤◌, length, slice_index, refl, sym, ap, ap₂, bit_xor, ◌∙◌, subst, inl, inr, arith}
use Rattle.std.proofs.Math.Nat.{mod-eq_of_lt}
use Rattle.std.proofs.lemmas.Bool.{cases_lt}
use Rattle.std.proofs.lemmas.List.{get_or-set_same, get_or-set_other, length-set}
use Rattle.kk_linpoly.specs.LinPoly.{xor_sum}
use Rattle.kk_linpoly.proofs.XorSums.{xor_sum-none}
use Rattle.kk_code.specs.Encoder.{value_at}
use Rattle.kk_code.proofs.PackedMultiples.{part}
use Rattle.kk_linpoly.proofs.XorSums.{xor_sum-more}
use Rattle.kk_code.proofs.TermSums.{term_first, symbol_below, value_first, value_at-lt, part_first}
use Rattle.kk_code.proofs.terms.Terms.of.Goals as goal

pub loop-j-init : goal.loop-j-init
loop-j-init c = record {
  long = refl;
  copied = λ i less. absurd (omega (arith, less));
  word_is = sym (xor_sum-none (slice_index c.args.u.now) 0 (λ i less. absurd (omega (arith, less))));
}

pub loop-j-preserved : goal.loop-j-preserved
loop-j-preserved c =
    let j = c.loop-j.j in
    let inv = c.loop-j.invariant in
    let u = c.args.u.now in
    let symbols = c.symbols-symbols.result.now in
    let s = slice_index symbols j in
    let symbol : s ≡ slice_index u j = ap (λ xs. slice_index xs j) c.symbols-symbols.ensures.symbols in
    let few : length symbols ≤ 64 = omega (arith, ap length c.symbols-symbols.ensures.symbols, c.requires) in
    let room : j < length c.loop-j.at_last = omega (arith, inv.long, c.loop-j-test.true, few) in
    record {
      long = length-set c.loop-j.at_last j s ∙ inv.long;
      copied = λ i less. elim (cases_lt i j) [
        | inl before ↦ get_or-set_other c.loop-j.at_last j i s 0 (λ e. omega (arith, e, before)) ∙ inv.copied i before
        | inr here ↦ let e : i ≡ j = omega (arith, less, here) in rw e (get_or-set_same c.loop-j.at_last j s 0 room ∙ symbol)
      ];
      word_is = ap₂ bit_xor inv.word_is symbol ∙ xor_sum-more (slice_index u) j;
    }

pub returns : goal.returns
returns c p range message =
    let inv = c.loop-j.invariant in
    let u = c.args.u.now in
    let m = p.field.degree in
    let all : c.loop-j.j ≡ p.k = omega (arith, c.loop-j.auto.j-end, c.loop-j-test.false, ap length c.symbols-symbols.ensures.symbols, message.len) in
    let same : (j : ℕ) → j < p.k → slice_index c.loop-j.at_last j ≡ slice_index u j = λ j less. inv.copied j (omega (arith, less, all)) in
    let first : c.loop-j.word ≡ value_at p u 0 = inv.word_is ∙ ap (xor_sum (slice_index u)) all ∙ sym (value_first p range u message) in
    let below : c.loop-j.word < 2 ^ m = subst (λ x. x < 2 ^ m) (sym first) (value_at-lt p range u 0) in
    let only : part m 0 c.loop-j.word ≡ value_at p u 0 = part_first m c.loop-j.word ∙ mod-eq_of_lt below ∙ first in (
      record { long = inv.long; below = λ j less. subst (λ x. x < 2 ^ m) (sym (same j less)) (symbol_below p range u message j less) },
      record {
        some = omega arith;
        terms = λ j less. same j less ∙ sym (term_first p range u j (symbol_below p range u message j less));
        word = λ r less. let e : r ≡ 0 = omega (arith, less) in rw e only;
      },
    )
