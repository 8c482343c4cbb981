use Rattle.std.proofs.Common.{◌≡◌, length, set, bit_xor, sym, ap, ◌∙◌, arith, inl, inr}
use Rattle.std.specs.Prelude.{slice_index}
use Rattle.std.proofs.lemmas.Bool.{cases_lt}
use Rattle.std.proofs.lemmas.List.{get_or-set_same, get_or-set_other}
use Rattle.kk_field.specs.Field.{field_product}
use Rattle.kk_linpoly.specs.LinPoly.{raised, squared_up}
use Rattle.kk_linpoly.proofs.Loops.{raised_within, raised_last, squared_next}
use Rattle.kk_linpoly.proofs.places.raise_each.Goals as goal

pub loop-c-preserved : goal.loop-c-preserved
loop-c-preserved g c =
    let f = c.args.ring.now in
    let d = c.args.d in
    let old = c.args.coefficients.now in
    let cs = c.loop-c.coefficients in
    let i = c.loop-c.c-index in
    let inv = c.loop-c.invariant in
    let here : slice_index cs i ≡ slice_index old i = inv.left i (omega arith) in
    let value = bit_xor c.loop-c.square c.mul.result in
    let value_is : value ≡ slice_index (raised f d old) i =
    ap (λ x. bit_xor x c.mul.result) inv.square_is
    ∙ ap (bit_xor (slice_index (squared_up f old) i)) (c.mul.ensures.value ∙ ap (field_product f d) here)
    ∙ sym (raised_within f d old i c.loop-c-test.true) in
    record {
      done = λ k less. elim (cases_lt k i) [
        | inl before ↦ get_or-set_other cs i k value 0 (λ e. omega (arith, e, before)) ∙ inv.done k before
        | inr at ↦
            let place : k ≡ i = omega (arith, less, at) in
            ap (slice_index (set cs i value)) place
            ∙ get_or-set_same cs i value 0 (omega (arith, c.loop-c.auto.coefficients, c.loop-c-test.true)) ∙ value_is
            ∙ ap (slice_index (raised f d old)) (sym place)
      ];
      left = λ k past. get_or-set_other cs i k value 0 (λ e. omega (arith, e, past)) ∙ inv.left k (omega (arith, past));
      square_is = c.square-next.ensures.value ∙ ap (λ x. field_product f x x) here ∙ sym (squared_next f old i c.loop-c-test.true);
      counted = omega (arith, inv.counted, c.square-next.ensures.cost, c.mul.ensures.cost);
    }

pub returns-clause-last : goal.returns-clause-last
returns-clause-last g c =
    let f = c.args.ring.now in
    let old = c.args.coefficients.now in
    let all : c.loop-c.c-index ≡ length old = omega (arith, c.loop-c-test.false, c.loop-c.auto.c-index-end) in
    c.loop-c.invariant.square_is ∙ ap (slice_index (squared_up f old)) all ∙ sym (raised_last f c.args.d old)
