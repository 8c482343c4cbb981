use Rattle.std.proofs.Common.{◌≡◌, ◌+◌, ◌-◌, ◌≤◌, length, ap, ◌∙◌, subst}
use Rattle.kk_interp.specs.BiPoly.{weight}
use Rattle.kk_interp.proofs.States.{state}
use Rattle.kk_interp.proofs.Pairs.{at_least_from_false}
use Rattle.kk_interp.proofs.States.{weight-lesser-x, weight-lesser-y}
use Rattle.kk_interp.proofs.interp.Interp.weight.Goals as goal

pub returns-then-x_is_least : goal.returns-then-x_is_least
returns-then-x_is_least c =
    let s = state c.self.inside in
    ap (λ l. length l - 1) c.coeffs.ensures.value
    ∙ subst (λ t. length s.x_leading.qx - 1 ≡ weight t.k t.least.qx t.least.qy) c.self.view_is
    (weight-lesser-x s c.self.invariant.1 (c.x_is_least.ensures.0 c.if-x_is_least.true))

pub returns-else-x_is_least : goal.returns-else-x_is_least
returns-else-x_is_least c =
    let s = state c.self.inside in
    let more : length s.y_leading.qy + s.k ≤ length s.x_leading.qx =
    at_least_from_false (length s.x_leading.qx) (length s.y_leading.qy + s.k) c.x_is_least.result c.x_is_least.ensures c.if-x_is_least.false in
    ap (λ l. length l + s.k - 2) c.coeffs-else-x_is_least.ensures.value
    ∙ subst (λ t. length s.y_leading.qy + s.k - 2 ≡ weight t.k t.least.qx t.least.qy) c.self.view_is
    (weight-lesser-y s c.self.invariant.1 more)
