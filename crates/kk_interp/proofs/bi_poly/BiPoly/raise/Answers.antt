use Rattle.std.proofs.Common.{List, ℕ, ◌≡◌, sym, subst}
use Rattle.kk_linpoly.specs.LinPoly.{trimmed, raised}
use Rattle.kk_interp.specs.BiPoly.{IsPart}
use Rattle.kk_interp.specs.Steps.{IsRaisedPart}
use Rattle.kk_interp.proofs.PartSums.{IsRaisedPart-raised}
use Rattle.kk_interp.proofs.Pairs.{IsRaised-parts}
use Rattle.kk_interp.proofs.bi_poly.BiPoly.raise.Goals as goal

pub returns-clause-raised : goal.returns-clause-raised
returns-clause-raised g c =
    let f = c.args.field.now in
    let d = c.args.d in
    let q = c.args.self.now in
    let low = c.requires.field.modulus.low_below in
    let part : (cs new : List ℕ) → IsPart f.degree cs → new ≡ trimmed (raised f d cs) → IsRaisedPart f d cs new =
    λ cs new over is. subst (IsRaisedPart f d cs) (sym is) (IsRaisedPart-raised f low c.requires.field.irreducible d cs over) in
    IsRaised-parts f low d q _ (part q.qx c.raise.new.self c.requires.of_field.x c.raise.ensures.value)
    (part q.qy c.raise-2.new.self c.requires.of_field.y c.raise-2.ensures.value)
