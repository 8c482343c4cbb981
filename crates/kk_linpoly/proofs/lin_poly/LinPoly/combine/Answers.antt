use Rattle.std.proofs.Common.{◌≡◌, ◌<◌, ◌^◌, ◌++◌, length, length-append, length-drop, drop, max, ap, ◌∙◌, subst, arith}
use Rattle.std.proofs.lemmas.List.{length-map}
use Rattle.kk_field.specs.Field.{field_product}
use Rattle.kk_linpoly.specs.LinPoly.{SamePolynomial, sum_of, scaled}
use Rattle.kk_linpoly.proofs.Trimmed.{SamePolynomial-trans, SamePolynomial-from}
use Rattle.kk_linpoly.proofs.Coefficients.{length-sum_of_max, IsOver-sum_of, IsOver-scaled}
use Rattle.kk_linpoly.proofs.Stored.{count_of, SamePolynomial-sum_of, SamePolynomial-replaced, IsStoredAs, stored_as, ends_of, ends_stored, IsOver-trimmed, length-trimmed_of}
use Rattle.kk_linpoly.proofs.lin_poly.LinPoly.combine.Given.{Over}
use Rattle.kk_linpoly.proofs.lin_poly.LinPoly.combine.Goals as goal
use Rattle.kk_linpoly.proofs.lin_poly.LinPoly.combine.Goals.{After-trimmed_len-self-inside}

-- how many coefficients the sum has, before the zeros at its end go
length-sum : (g : Over) (c : After-trimmed_len-self-inside g)
    → length (sum_of (scaled c.args.field.now c.args.a c.args.self.now) (scaled c.args.field.now c.args.b c.args.other.now))
    ≡ max (length c.args.self.now) (length c.args.other.now)
length-sum g c =
    let f = c.args.field.now in
    let cs = c.args.self.now in
    let ds = c.args.other.now in
    omega (
      arith,
      length-map cs (field_product f c.args.a),
      length-map ds (field_product f c.args.b),
      length-sum_of_max (scaled f c.args.a cs) (scaled f c.args.b ds),
    )

stored : (g : Over) (c : After-trimmed_len-self-inside g)
    → IsStoredAs c.trimmed_len-self-inside.result c.add_multiple.new.sum
    (sum_of (scaled c.args.field.now c.args.a c.args.self.now) (scaled c.args.field.now c.args.b c.args.other.now))
stored g c =
    let i = c.self.inside in
    let a = c.args.a in
    let b = c.args.b in
    let f = c.args.field.now in
    let cs = c.args.self.now in
    let ds = c.args.other.now in
    let multiple = scaled c.ring-ring.result.now b c.coeffs.result.now in
    let new = c.scale_each.new.coefficients in
    let made = new ++ drop i.len i.coefficients in
    let sum = sum_of (scaled f a cs) (scaled f b ds) in
    let count = count_of i.len i.coefficients cs c.self.invariant c.self.view_is in
    let d_count = count_of c.other.inside.len c.other.inside.coefficients ds c.other.invariant c.other.view_is in
    let new_is : new ≡ scaled f a cs =
    c.scale_each.ensures.value ∙ ap (scaled c.ring-ring.result.now a) c.self.view_is ∙ ap (λ f. scaled f a cs) c.ring-ring.ensures.value in
    let multiple_is : multiple ≡ scaled f b ds =
    ap (λ f. scaled f b c.coeffs.result.now) c.ring-ring.ensures.value ∙ ap (scaled f b) c.coeffs.ensures.value in
    let scaled_is : SamePolynomial made (scaled f a cs) =
    SamePolynomial-trans made new (scaled f a cs)
    (SamePolynomial-replaced i.len new i.coefficients (ends_stored i.len i.coefficients c.self.invariant))
    (SamePolynomial-from new (scaled f a cs) new_is) in
    let same : SamePolynomial c.add_multiple.new.sum sum =
    SamePolynomial-trans c.add_multiple.new.sum (sum_of made multiple) sum (SamePolynomial-from _ _ c.add_multiple.ensures.value)
    (SamePolynomial-sum_of made (scaled f a cs) multiple (scaled f b ds) scaled_is (SamePolynomial-from multiple (scaled f b ds) multiple_is)) in
    let whole : length c.add_multiple.new.sum ≡ 128 =
    c.add_multiple.auto.sum ∙ length-append new (drop i.len i.coefficients)
    ∙ omega (
      arith,
      ap length new_is,
      length-map cs (field_product f a),
      count,
      length-drop i.len i.coefficients,
      c.self.invariant.whole,
      c.self.invariant.fits,
    ) in
    let end : c.max.result ≡ max i.len c.other.inside.len = c.max.ensures in
    stored_as c.trimmed_len-self-inside.result c.max.result c.add_multiple.new.sum sum whole
    (omega (arith, end, c.self.invariant.fits, c.other.invariant.fits)) c.trimmed_len-self-inside.ensures.within c.trimmed_len-self-inside.ensures.front
    (ends_of c.add_multiple.new.sum sum c.max.result same (omega (arith, end, count, d_count, length-sum g c))) same

pub invariant_of-self : goal.invariant_of-self
invariant_of-self g c = (stored g (goal.at.invariant_of-self g c).After-trimmed_len-self-inside).stored

pub returns-clause-value : goal.returns-clause-value
returns-clause-value g c = (stored g (goal.at.returns-clause-value g c).After-trimmed_len-self-inside).value

pub returns-clause-of_field : goal.returns-clause-of_field
returns-clause-of_field g c =
    let f = c.args.field.now in
    let low = subst (λ f. f.low < 2 ^ f.degree) c.ring-ring.ensures.value c.ring-ring.ensures.irreducible.modulus.low_below in
    let cs = scaled f c.args.a c.args.self.now in
    let ds = scaled f c.args.b c.args.other.now in
    IsOver-trimmed f.degree _ (sum_of cs ds) (stored g (goal.at.returns-clause-of_field g c).After-trimmed_len-self-inside).value
    (IsOver-sum_of f.degree cs ds (IsOver-scaled f low c.args.a c.args.self.now) (IsOver-scaled f low c.args.b c.args.other.now))

pub returns-clause-len : goal.returns-clause-len
returns-clause-len g c =
    let after = (goal.at.returns-clause-len g c).After-trimmed_len-self-inside in
    omega (arith, length-sum g after, length-trimmed_of _ _ (stored g after).value)
