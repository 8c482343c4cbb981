use Rattle.std.proofs.Common.{◌+◌, ◌≤◌, length, sym, subst}
use Rattle.kk_interp.proofs.States.{state}
use Rattle.kk_interp.proofs.Pairs.{at_least_from_false}
use Rattle.kk_interp.proofs.States.{IsLeast, IsLeast-x, IsLeast-y}
use Rattle.kk_interp.proofs.interp.Interp.least.Goals as goal

pub returns-then-x_is_least : goal.returns-then-x_is_least
returns-then-x_is_least c =
    let s = state c.self.inside in
    let less = c.x_is_least.ensures.0 c.if-x_is_least.true in
    let h : IsLeast s c.copy.result = subst (IsLeast s) (sym c.copy.ensures) (IsLeast-x s c.self.invariant.1 less) in
    rw (← c.self.view_is) (record {
      value = h.value;
      of_field = h.of_field;
      not_zero = h.not_zero;
      starts = h.starts;
      zero_at_points = h.zero_at_points;
      weight_at_most = h.weight_at_most;
    })

pub returns-else-x_is_least : goal.returns-else-x_is_least
returns-else-x_is_least c =
    let s = state c.self.inside in
    let more : length s.y_leading.qy + s.k ≤ length s.x_leading.qx =
    at_least_from_false (length s.x_leading.qx) (length s.y_leading.qy + s.k) c.x_is_least.result c.x_is_least.ensures c.if-x_is_least.false in
    let h : IsLeast s c.copy-else-x_is_least.result = subst (IsLeast s) (sym c.copy-else-x_is_least.ensures) (IsLeast-y s c.self.invariant.1 more) in
    rw (← c.self.view_is) (record {
      value = h.value;
      of_field = h.of_field;
      not_zero = h.not_zero;
      starts = h.starts;
      zero_at_points = h.zero_at_points;
      weight_at_most = h.weight_at_most;
    })
