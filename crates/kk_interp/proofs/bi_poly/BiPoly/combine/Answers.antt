use Rattle.std.proofs.Common.{List, ℕ, ◌≡◌, sym, subst}
use Rattle.kk_linpoly.specs.LinPoly.{trimmed, sum_of, scaled}
use Rattle.kk_interp.specs.BiPoly.{IsPart}
use Rattle.kk_interp.specs.Steps.{IsCombinedPart}
use Rattle.kk_interp.proofs.PartSums.{IsCombinedPart-combined}
use Rattle.kk_interp.proofs.bi_poly.BiPoly.combine.Goals as goal

pub returns-clause-combined : goal.returns-clause-combined
returns-clause-combined g c =
    let f = c.args.field.now in
    let a = c.args.a in
    let b = c.args.b in
    let q = c.args.self.now in
    let h = c.args.other.now in
    let part : (cs ds new : List ℕ) → IsPart f.degree cs → IsPart f.degree ds → new ≡ trimmed (sum_of (scaled f a cs) (scaled f b ds)) → IsCombinedPart f a cs b ds new =
    λ cs ds new c_part d_part is. subst (IsCombinedPart f a cs b ds) (sym is)
    (IsCombinedPart-combined f c.requires.field.modulus.low_below c.requires.field.irreducible a b cs ds
    c.requires.a_below c.requires.a_some c.requires.b_below c.requires.b_some c_part d_part) in
    record {
      x = part q.qx h.qx c.combine.new.self c.requires.of_field.x c.requires.other_of_field.x c.combine.ensures.value;
      y = part q.qy h.qy c.combine-2.new.self c.requires.of_field.y c.requires.other_of_field.y c.combine-2.ensures.value;
    }
