use Rattle.std.proofs.Common.{◌∙◌, refl, sym, true, false, None, Some}
use Rattle.kk_order.specs.Order.{bound_of, order_form_of}
use Rattle.kk_order.proofs.Orders.{bound_seen, first_is}
use Rattle.kk_order.proofs.order_form.OrderForm.first_broken.Goals as goal

pub returns-then-lacks_seed : goal.returns-then-lacks_seed
returns-then-lacks_seed c =
    sym (first_is (order_form_of c.args.self.now) c.args.order.now true _ _ (sym c.lacks_seed.ensures ∙ c.if-lacks_seed.true) refl refl)

pub returns-in-Some : goal.returns-in-Some
returns-in-Some c =
    let found = bound_seen c.args.order.now c.args.self.now.bounds.now (Some c.in-Some.bound) c.in-Some.ensures in
    sym (first_is (order_form_of c.args.self.now) c.args.order.now false _ (Some (bound_of c.in-Some.bound.now)) (sym c.lacks_seed.ensures ∙ c.if-lacks_seed.false) found refl)

pub returns-then-has_too_many : goal.returns-then-has_too_many
returns-then-has_too_many c =
    let found = bound_seen c.args.order.now c.args.self.now.bounds.now None c.in_default.ensures in
    sym (first_is (order_form_of c.args.self.now) c.args.order.now false true None (sym c.lacks_seed.ensures ∙ c.if-lacks_seed.false) found (sym c.has_too_many.ensures ∙ c.if-has_too_many.true))

pub returns : goal.returns
returns c =
    let found = bound_seen c.args.order.now c.args.self.now.bounds.now None c.in_default.ensures in
    sym (first_is (order_form_of c.args.self.now) c.args.order.now false false None (sym c.lacks_seed.ensures ∙ c.if-lacks_seed.false) found (sym c.has_too_many.ensures ∙ c.if-has_too_many.false))
