use Rattle.std.proofs.Common.{rules, ◌≡◌, ◌∙◌, ◌&&◌, not, true, false, ap, sym}
use Rattle.std.specs.Prelude.{is_some}
use Rattle.kk_forms.specs.Form.{argument_of, form_of}
use Rattle.kk_forms.specs.Request.{has_option, is_option}
use Rattle.kk_order.specs.Order.{seed_name}
use Rattle.kk_order.proofs.Orders.{any_seen}
use Rattle.kk_order.proofs.order_form.OrderForm.lacks_seed.Goals as goal

pub returns-then-has_seed : goal.returns-then-has_seed
returns-then-has_seed c =
    let has : has_option (form_of c.args.self.now.words) seed_name ≡ true =
    sym (any_seen argument_of (is_option seed_name) c.args.self.now.words.arguments.now) ∙ sym c.has_seed.ensures ∙ c.if-has_seed.true in
    let none : c.is_none.result ≡ not (is_some c.args.order.now.seed) = search (rules, c.is_none.ensures, c.seed.ensures) in
    none ∙ sym (ap (λ b. b && not (is_some c.args.order.now.seed)) has)

pub returns-else-has_seed : goal.returns-else-has_seed
returns-else-has_seed c =
    let has : has_option (form_of c.args.self.now.words) seed_name ≡ false =
    sym (any_seen argument_of (is_option seed_name) c.args.self.now.words.arguments.now) ∙ sym c.has_seed.ensures ∙ c.if-has_seed.false in
    c.if-has_seed.false ∙ sym (ap (λ b. b && not (is_some c.args.order.now.seed)) has)
