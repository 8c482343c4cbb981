use Rattle.std.proofs.Common.{◌≡◌, ◌≤◌, List, [], ◌∷◌, ℕ, Some, length, ap, ◌∙◌, subst, arith}
use Rattle.std.proofs.lemmas.List.{take_all}
use Rattle.kk_field.specs.Field.{Modulus}
use Rattle.kk_field.proofs.Residues.{one_small}
use Rattle.kk_linpoly.specs.LinPoly.{trimmed}
use Rattle.kk_linpoly.specs.Laws.{VanishesAt}
use Rattle.kk_linpoly.proofs.Vanishings.{Vanishes, Vanishes-none, Vanishes-more, trimmed-one, zeros_hold_span, zeros_in_span}
use Rattle.kk_linpoly.proofs.lin_poly.LinPoly.vanishing.Goals as goal

pub loop-p-init : goal.loop-p-init
loop-p-init g c =
    let is = c.one.ensures.irreducible in
    record {
      so_far = Vanishes-none c.args.field.now (one_small c.args.field.now.degree is.modulus.at_least_one) c.args.points.now c.from_slice-v.result
          (c.from_slice-v.ensures.value ∙ ap (λ x. trimmed (x ∷ [])) c.one.ensures.value ∙ trimmed-one);
      counted = omega arith;
    }

pub loop-p-preserved : goal.loop-p-preserved
loop-p-preserved g c =
    let is = c.one.ensures.irreducible in
    let f = c.args.field.now in
    let inv = c.loop-p.invariant in
    record {
      so_far = Vanishes-more f is.modulus.low_below (one_small f.degree is.modulus.at_least_one) c.args.points.now c.loop-p.p-index c.eval-at.result
          c.loop-p.v c.raise.new.self c.loop-p-test.true inv.so_far c.eval-at.ensures.value c.raise.ensures.value;
      counted = omega (arith, inv.counted, inv.so_far.count, c.eval-at.ensures.cost, c.raise.ensures.cost);
    }

-- the loop is through
all_points : (f : Modulus) (points v : List ℕ) (i : ℕ) → Vanishes f points i v → length points ≤ i → VanishesAt f v points
all_points f points v i h all = subst (VanishesAt f v) (take_all i points all) h.zeros

pub returns-clause-zeros : goal.returns-clause-zeros
returns-clause-zeros g c = all_points c.args.field.now c.args.points.now c.loop-p.v c.loop-p.p-index c.loop-p.invariant.so_far c.loop-p-test.false

pub returns-clause-no_others : goal.returns-clause-no_others
returns-clause-no_others g c = λ independent x below.
    let is = c.one.ensures.irreducible in
    let f = c.args.field.now in
    let points = c.args.points.now in
    let h = c.loop-p.invariant.so_far in
    let zeros = all_points f points c.loop-p.v c.loop-p.p-index h c.loop-p-test.false in
    let all : c.loop-p.p-index ≡ length points = omega (arith, c.loop-p-test.false, c.loop-p.auto.p-index-end) in (
      zeros_in_span f is.modulus.low_below is.irreducible c.loop-p.v points h.over (h.monic.degree_is ∙ ap Some all) c.requires.points_below independent zeros x below,
      zeros_hold_span f is.modulus.low_below c.loop-p.v points zeros x,
    )
