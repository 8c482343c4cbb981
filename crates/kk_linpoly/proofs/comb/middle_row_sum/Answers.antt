use Rattle.std.proofs.Common.{◌≡◌, ℕ, ◌+◌, ◌-◌, ◌*◌, ◌^◌, ◌<◌, [], get_or, slice_index, bit_xor, arith, sym, ap, ap₂, subst, All, ◌∙◌}
use Rattle.std.proofs.Math.Nat.{mod-eq_of_lt, sub-zero}
use Rattle.kk_linpoly.specs.LinPoly.{IsOver, xor_sum}
use Rattle.kk_linpoly.specs.declared.comb.TheConstants.{BLOCK}
use Rattle.kk_linpoly.proofs.Coefficients.{coefficient-lt}
use Rattle.kk_linpoly.proofs.Combs.{IsOver-mono, digits_of-lt, from_place, at_place, place_next, from_none, from_all, from_lt, at_place-windows}
use Rattle.kk_linpoly.proofs.comb.middle_row_sum.Goals as goal

pub loop-d-init : goal.loop-d-init
loop-d-init c vector made over =
    let v : ℕ → ℕ = λ i. slice_index vector (c.args.first + i) in
    let e : ℕ → ℕ = λ i. slice_index c.args.row.now (c.args.first + i) in
    from_none v e BLOCK (4 * c.args.places) (λ i. coefficient-lt (4 * c.args.places) c.args.row.now c.requires.small (c.args.first + i))
    ∙ ap (λ n. from_place v e BLOCK (4 * n)) (sym (sub-zero c.args.places))

pub narrow_digit_sum-requires-clause-digits : goal.narrow_digit_sum-requires-clause-digits
narrow_digit_sum-requires-clause-digits c =
    subst (λ digits. All (λ x. x < 16) (get_or digits (c.args.places - 1 - c.loop-d.d) [])) (sym c.digits-digits.ensures.value)
    (digits_of-lt c.args.row.now (c.args.places - 1 - c.loop-d.d) (omega (arith, c.requires.few, c.loop-d-test.true)))

pub loop-d-preserved : goal.loop-d-preserved
loop-d-preserved c vector made over =
    let row = c.args.row.now in
    let first = c.args.first in
    let v : ℕ → ℕ = λ i. slice_index vector (first + i) in
    let e : ℕ → ℕ = λ i. slice_index row (first + i) in
    let d = c.args.places - 1 - c.loop-d.d in
    let s = 4 * d in
    let now : 4 * (c.args.places - c.loop-d.d) ≡ s + 4 = omega (arith, c.loop-d-test.true) in
    let then : s ≡ 4 * (c.args.places - (c.loop-d.d + 1)) = omega (arith, c.loop-d-test.true) in
    let small : IsOver 64 row = IsOver-mono (4 * c.args.places) 64 row (omega (arith, c.requires.few)) c.requires.small in
    let sum : c.loop-d.sum ≡ from_place v e BLOCK (s + 4) = c.loop-d.invariant vector made over ∙ ap (from_place v e BLOCK) now in
    let bound : c.loop-d.sum < 2 ^ 123 =
    rw sum (from_lt v e BLOCK 64 (s + 4) (omega arith) (λ i. coefficient-lt 64 vector over (first + i)) (λ i. coefficient-lt 64 row small (first + i)) (omega arith)) in
    let fits : c.loop-d.sum * 16 < 340282366920938463463374607431768211456 = omega (arith, bound) in
    let low : c.narrow_digit_sum.result ≡ at_place v e BLOCK s =
    c.narrow_digit_sum.ensures
    ∙ ap (λ digits. xor_sum (λ i. slice_index (get_or c.args.windows.now i []) (slice_index (get_or digits d []) (first + i))) BLOCK) c.digits-digits.ensures.value
    ∙ at_place-windows vector row c.args.windows.now first d made c.digits-digits.ensures.count c.requires.within (omega (arith, c.requires.few, c.loop-d-test.true)) in
    rw (mod-eq_of_lt fits) (ap₂ (λ x y. bit_xor (x * 16) y) sum (c.from-low.ensures ∙ low) ∙ place_next v e BLOCK s ∙ ap (from_place v e BLOCK) then)

pub returns : goal.returns
returns c vector made over =
    let all : 4 * (c.args.places - c.loop-d.d) ≡ 0 = omega (arith, c.loop-d.auto.d-end, c.loop-d-test.false) in
    c.loop-d.invariant vector made over
    ∙ from_all (λ i. slice_index vector (c.args.first + i)) (λ i. slice_index c.args.row.now (c.args.first + i)) BLOCK (4 * (c.args.places - c.loop-d.d)) all
