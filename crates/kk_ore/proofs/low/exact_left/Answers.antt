use Rattle.std.proofs.Common.{◌≡◌, ◌<◌, ◌^◌, ◌++◌, ℕ, List, length, take, drop, replicate, sym, ◌∙◌, subst}
use Rattle.std.proofs.lemmas.List.Elements.{All-take}
use Rattle.kk_field.proofs.Elimination.{slice_index-zeros}
use Rattle.kk_linpoly.specs.LinPoly.{SamePolynomial, composition}
use Rattle.kk_linpoly.proofs.Trimmed.{SamePolynomial-sym, SamePolynomial-trans, SamePolynomial-from, trimmed-same}
use Rattle.kk_linpoly.proofs.Coefficients.{IsOver-same}
use Rattle.kk_linpoly.proofs.Stored.{SamePolynomial-replaced}
use Rattle.kk_ore.proofs.Exact.{same_front}
use Rattle.kk_ore.proofs.low.exact_left.Goals as goal

-- a and zeros after it
padded : (a new : List ℕ) (n : ℕ) → new ≡ a → SamePolynomial (new ++ drop n (replicate 128 0)) a
padded a new n copied =
    SamePolynomial-trans (new ++ drop n (replicate 128 0)) new a (SamePolynomial-replaced n new (replicate 128 0) (λ i past. slice_index-zeros 128 i))
    (SamePolynomial-from new a copied)

pub cancel-requires-clause-remainder_of_field : goal.cancel-requires-clause-remainder_of_field
cancel-requires-clause-remainder_of_field g c =
    let a = c.args.a.now in
    let new = c.copy_from_slice.new.self in
    let n = length c.coeffs-a.result.now in
    IsOver-same c.args.field.now.degree a _
    (SamePolynomial-sym (new ++ drop n (replicate 128 0)) a (padded a new n (c.copy_from_slice.ensures.after ∙ c.coeffs-a.ensures.value)))
    c.requires.of_field

pub returns-clause-of_field : goal.returns-clause-of_field
returns-clause-of_field g c =
    let m = c.args.field.now.degree in
    c.from_slice.ensures.of_field m (All-take (λ x. x < 2 ^ m) c.args.places c.cancel.new.remainder c.cancel.ensures.of_field)

pub returns-clause-only : goal.returns-clause-only
returns-clause-only g c u over few exact =
    let f = c.args.field.now in
    let a = c.args.a.now in
    let new = c.copy_from_slice.new.self in
    let n = length c.coeffs-a.result.now in
    let there =
    SamePolynomial-trans (new ++ drop n (replicate 128 0)) a (composition f c.coeffs.result.now u)
    (padded a new n (c.copy_from_slice.ensures.after ∙ c.coeffs-a.ensures.value))
    (subst (λ b. SamePolynomial a (composition f b u)) (sym c.coeffs.ensures.value) exact) in
    c.from_slice.ensures.value
    ∙ trimmed-same (take c.args.places c.cancel.new.remainder) u
    (same_front c.cancel.new.remainder u c.args.places few (c.cancel.ensures.only u over there))
