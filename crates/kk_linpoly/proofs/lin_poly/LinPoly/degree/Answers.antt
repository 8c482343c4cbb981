use Rattle.std.proofs.Common.{◌≡◌, ℕ, ◌-◌, List, length, take, sym, ap, ◌∙◌, subst, arith}
use Rattle.std.proofs.lemmas.List.{length-take-le}
use Rattle.kk_linpoly.specs.LinPoly.{trimmed}
use Rattle.kk_linpoly.specs.Storage.{IsStored}
use Rattle.kk_linpoly.proofs.Trimmed.{trimmed-trimmed, degree-some, degree-none}
use Rattle.kk_linpoly.proofs.lin_poly.LinPoly.degree.Goals as goal

length_of : (len : ℕ) (coefficients cs : List ℕ) → IsStored len coefficients → take len coefficients ≡ cs → length (trimmed cs) ≡ len
length_of len coefficients cs h e =
    let same : trimmed cs ≡ cs = subst (λ l. trimmed l ≡ l) (sym h.front ∙ e) (trimmed-trimmed coefficients) in
    ap length (same ∙ sym e) ∙ length-take-le len coefficients (omega (arith, h.fits, h.whole))

pub returns-then-self-eq0 : goal.returns-then-self-eq0
returns-then-self-eq0 c =
    let i = c.self.inside in
    let n = length_of i.len i.coefficients c.args.self.now c.self.invariant c.self.view_is in
    sym (degree-none c.args.self.now (omega (arith, n, c.if-self-eq0.true)))

pub returns-else-self-eq0 : goal.returns-else-self-eq0
returns-else-self-eq0 c =
    let i = c.self.inside in
    let n = length_of i.len i.coefficients c.args.self.now c.self.invariant c.self.view_is in
    sym (degree-some c.args.self.now (i.len - 1) (omega (arith, n, c.if-self-eq0.false)))
