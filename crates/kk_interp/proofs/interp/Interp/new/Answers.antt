use Rattle.std.proofs.Common.{◌≡◌, ℕ, List, [], ◌∷◌, refl, subst}
use Rattle.kk_linpoly.specs.LinPoly.{trimmed}
use Rattle.kk_interp.proofs.States.{IsKept-first}
use Rattle.kk_interp.proofs.interp.Interp.new.Goals as goal

pub invariant_of-result : goal.invariant_of-result
invariant_of-result c =
    let is_one : (cs : List ℕ) → cs ≡ trimmed (c.one-one.result ∷ []) → cs ≡ trimmed (1 ∷ []) =
    λ cs is. subst (λ o. cs ≡ trimmed (o ∷ [])) c.one-one.ensures.value is in (
      refl,
      IsKept-first c.args.field c.args.k c.one-one.ensures.irreducible
          c.requires.k_at_least c.requires.k_at_most _ refl _ _ _ _
          (is_one c.from_slice.result c.from_slice.ensures.value) c.from_slice-2.ensures.value
          c.from_slice-3.ensures.value (is_one c.from_slice-4.result c.from_slice-4.ensures.value),
    )
