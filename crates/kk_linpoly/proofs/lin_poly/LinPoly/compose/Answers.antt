use Rattle.std.proofs.Common.{◌≡◌, ◌+◌, ◌-◌, ◌*◌, ◌<◌, ◌≤◌, ◌^◌, List, ℕ, length, take, map, ap, ◌∙◌, sym, subst, arith}
use Rattle.std.specs.Prelude.{slice_index}
use Rattle.std.proofs.lemmas.List.{get_or_past, length-take, length-take-le, length-map}
use Rattle.kk_field.specs.Field.{Modulus, frobenius}
use Rattle.kk_field.proofs.Elimination.{slice_index-zeros}
use Rattle.kk_linpoly.specs.LinPoly.{IsOver, trimmed, composed, composition}
use Rattle.kk_linpoly.proofs.Coefficients.{composed-past, IsOver-composition, length-composition}
use Rattle.kk_linpoly.proofs.Stored.{count_of, IsOver-trimmed, length-trimmed_of}
use Rattle.kk_linpoly.proofs.ComposeLoop.{rounds_cost, composed-none, IsOver-powers, powers_started, next_powers, round, all_rounds}
use Rattle.kk_linpoly.proofs.lin_poly.LinPoly.compose.Given.{Over}
use Rattle.kk_linpoly.proofs.lin_poly.LinPoly.compose.Goals as goal
use Rattle.kk_linpoly.proofs.lin_poly.LinPoly.compose.Goals.{After-from_places}

pub loop-i-init : goal.loop-i-init
loop-i-init g c =
    let f = c.ring-ring.result.now in
    let low = c.ring-ring.ensures.irreducible.modulus.low_below in
    record {
      sum_is = λ n. slice_index-zeros 128 n ∙ sym (composed-none f low (slice_index c.args.g.now) n);
      powers_are = c.g.view_is ∙ powers_started f low c.args.g.now;
      counted = omega arith;
    }

-- the powers of g are of the field
powers_over : (f e : Modulus) → f ≡ e → f.low < 2 ^ f.degree → (ds powers : List ℕ) (i : ℕ) → IsOver e.degree ds → powers ≡ map (frobenius f i) ds
    → IsOver f.degree powers
powers_over f e same low ds powers i over powers_are =
    subst (IsOver f.degree) (sym powers_are) (IsOver-powers f low i ds (subst (λ f. IsOver f.degree ds) (sym same) over))

pub add_multiple-requires-clause-of_field : goal.add_multiple-requires-clause-of_field
add_multiple-requires-clause-of_field g c =
    powers_over c.ring-ring.result.now c.args.field.now c.ring-ring.ensures.value c.ring-ring.ensures.irreducible.modulus.low_below c.args.g.now
    (take c.g.inside.len c.loop-i.powers) c.loop-i.i c.requires.g_of_field c.loop-i.invariant.powers_are

pub square_each-requires : goal.square_each-requires
square_each-requires g c =
    powers_over c.ring-ring.result.now c.args.field.now c.ring-ring.ensures.value c.ring-ring.ensures.irreducible.modulus.low_below c.args.g.now
    (take c.g.inside.len c.loop-i.powers) c.loop-i.i c.requires.g_of_field c.loop-i.invariant.powers_are

pub loop-i-preserved : goal.loop-i-preserved
loop-i-preserved g c =
    let f = c.ring-ring.result.now in
    let low = c.ring-ring.ensures.irreducible.modulus.low_below in
    let cs = c.coeffs-c-items.result.now in
    let ds = c.args.g.now in
    let i = c.loop-i.i in
    let len = c.g.inside.len in
    let inv = c.loop-i.invariant in
    let whole = c.loop-i-test.array_long in
    let short : length cs ≤ 128 = omega (arith, ap length c.coeffs-c-items.ensures.value, c.coeffs-c-items.ensures.fits) in
    let count : length ds ≡ len = ap length (sym c.g.view_is) ∙ length-take-le len c.g.inside.coefficients (omega (arith, c.g.invariant.fits, c.g.invariant.whole)) in
    let places : length (take len c.loop-i.powers) ≡ length ds = ap length inv.powers_are ∙ length-map ds (frobenius f i) in
    record {
      sum_is = λ n. round f low cs ds c.loop-i.sum (take len c.loop-i.powers) c.add_multiple.new.sum i (128 - i) n
          c.loop-i-test.true (omega (arith, whole, short, c.loop-i-test.true)) (omega (arith, whole)) inv.sum_is inv.powers_are c.add_multiple.ensures.value;
      powers_are = next_powers f low i len c.loop-i.powers c.square_each.new.coefficients ds inv.powers_are count c.square_each.ensures.value;
      counted = omega (arith, inv.counted, c.add_multiple.ensures.cost, c.square_each.ensures.cost, places);
    }

-- there is nothing past the end of the composition
past_end : (f : Modulus) → f.low < 2 ^ f.degree → (cs ds sum : List ℕ) (i n : ℕ)
    → ((n : ℕ) → slice_index sum n ≡ composed f (slice_index (take i cs)) (slice_index ds) n) → length cs + length ds - 1 ≤ n → slice_index sum n ≡ 0
past_end f low cs ds sum i n sum_is past =
    sum_is n
    ∙ composed-past f low (slice_index (take i cs)) (slice_index ds) (length cs) (length ds) n
    (λ j from. get_or_past (take i cs) j 0 (omega (arith, from, length-take i cs))) (λ j. get_or_past ds j 0) past

pub from_places-requires-clause-ends : goal.from_places-requires-clause-ends
from_places-requires-clause-ends g c n past =
    let cs = c.coeffs-c-items.result.now in
    let ds = c.args.g.now in
    let count = count_of c.self.inside.len c.self.inside.coefficients c.args.self.now c.self.invariant c.self.view_is in
    let g_count = count_of c.g.inside.len c.g.inside.coefficients ds c.g.invariant c.g.view_is in
    let end : length cs + length ds - 1 ≤ n =
    omega (arith, past, c.saturating_sub.ensures, ap length c.coeffs-c-items.ensures.value, count, g_count) in
    past_end c.ring-ring.result.now c.ring-ring.ensures.irreducible.modulus.low_below cs ds c.loop-i.sum c.loop-i.i n c.loop-i.invariant.sum_is end

value_is : (g : Over) (c : After-from_places g) → c.from_places.result ≡ trimmed (composition c.args.field.now c.args.self.now c.args.g.now)
value_is g c =
    let f = c.ring-ring.result.now in
    let cs = c.coeffs-c-items.result.now in
    let ds = c.args.g.now in
    c.from_places.ensures
    ∙ all_rounds f c.ring-ring.ensures.irreducible.modulus.low_below cs ds c.loop-i.sum c.loop-i.i c.loop-i-test.false c.loop-i.invariant.sum_is
    ∙ ap (λ f. trimmed (composition f cs ds)) c.ring-ring.ensures.value
    ∙ ap (λ l. trimmed (composition c.args.field.now l ds)) c.coeffs-c-items.ensures.value

pub returns-clause-value : goal.returns-clause-value
returns-clause-value g c = value_is g (goal.at.returns-clause-value g c).After-from_places

pub returns-clause-of_field : goal.returns-clause-of_field
returns-clause-of_field g c =
    let f = c.args.field.now in
    let low = subst (λ f. f.low < 2 ^ f.degree) c.ring-ring.ensures.value c.ring-ring.ensures.irreducible.modulus.low_below in
    IsOver-trimmed f.degree c.from_places.result (composition f c.args.self.now c.args.g.now)
    (value_is g (goal.at.returns-clause-of_field g c).After-from_places) (IsOver-composition f low c.args.self.now c.args.g.now)

pub returns-clause-cost : goal.returns-clause-cost
returns-clause-cost g c =
    let cs = c.coeffs-c-items.result.now in
    let n : c.loop-i.i ≡ length c.args.self.now = omega (arith, c.loop-i.auto.i-end, c.loop-i-test.false, ap length c.coeffs-c-items.ensures.value) in
    let rounds : c.loop-i.i * (2 * length c.args.g.now) ≡ length c.args.self.now * (2 * length c.args.g.now) = ap (λ k. k * (2 * length c.args.g.now)) n in
    omega (arith, c.loop-i.invariant.counted, rounds, rounds_cost (length c.args.self.now) (length c.args.g.now))

pub returns-clause-len : goal.returns-clause-len
returns-clause-len g c =
    let f = c.args.field.now in
    omega (
      arith,
      length-composition f c.args.self.now c.args.g.now,
      length-trimmed_of c.from_places.result (composition f c.args.self.now c.args.g.now) (value_is g (goal.at.returns-clause-len g c).After-from_places),
    )
