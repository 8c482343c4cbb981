use Rattle.std.proofs.Common.{◌∙◌, subst, sym, ap, inl, inr, map, None, Some, Ok, Err}
use Rattle.std.specs.Prelude.{string_bytes}
use Rattle.kk_forms.specs.Form.{form_of}
use Rattle.kk_order.specs.Seed.{seed_of}
use Rattle.kk_order.specs.Order.{FitsLine, cause_of, first_broken, order_form_of}
use Rattle.kk_order.proofs.Orders.{bounds_kept, broken_fits, by_broken, found_named, listeners_kept, no_ticket, not_of_form, order_made, seed_kept}
use Rattle.kk_order.proofs.order_form.OrderForm.read.Goals as goal

pub returns-in-Err-Words-clause-refused : goal.returns-in-Err-Words-clause-refused
returns-in-Err-Words-clause-refused c =
    inr (not_of_form (order_form_of c.args.self.now) (map string_bytes c.args.words.now) (c.in-Err-Words.ensures.refused (ap Err c.in-Err-Words.field-0-is)))

pub returns-in-Err-Alloc-clause-memory : goal.returns-in-Err-Alloc-clause-memory
returns-in-Err-Alloc-clause-memory c = λ _. c.in-Err-Alloc.ensures.memory (ap Err c.in-Err-Alloc.field-0-is)

pub returns-in-Err-clause-memory : goal.returns-in-Err-clause-memory
returns-in-Err-clause-memory c = λ _. found_named (form_of c.args.self.now.words) (map string_bytes c.args.words.now) c.in-Ok.request c.in-Ok.ensures.given

pub returns-in-Some-clause-memory : goal.returns-in-Some-clause-memory
returns-in-Some-clause-memory c = λ _. found_named (form_of c.args.self.now.words) (map string_bytes c.args.words.now) c.in-Ok.request c.in-Ok.ensures.given

pub returns-in-Err-clause-refused : goal.returns-in-Err-clause-refused
returns-in-Err-clause-refused c =
    let form = order_form_of c.args.self.now in
    let words = map string_bytes c.args.words.now in
    elim c.in-Err.ensures.refused [
      | inl memory ↦ inl (ap cause_of memory)
      | inr wrong ↦ inr (no_ticket form words c.in-Ok.request wrong.0 c.in-Ok.ensures.given wrong.2 ∙ ap (λ f. Err (cause_of f)) (sym wrong.1))
    ]

pub returns-in-Some-clause-refused : goal.returns-in-Some-clause-refused
returns-in-Some-clause-refused c =
    let form = order_form_of c.args.self.now in
    let words = map string_bytes c.args.words.now in
    let made = order_made c.in-Ok-ticket_in.ticket c.in-Ok.request _ c.new-order.result c.new-order.ensures (c.seed_in-seed.ensures ∙ ap seed_of c.option.ensures) in
    inr (by_broken form words c.in-Ok.request c.in-Ok-ticket_in.ticket (Some (cause_of c.in-Some.fault)) c.in-Ok.ensures.given c.in-Ok-ticket_in.ensures.read
    (c.in-Some.ensures ∙ ap (first_broken form) made))

pub returns-in-None-clause-ordered : goal.returns-in-None-clause-ordered
returns-in-None-clause-ordered c =
    let form = order_form_of c.args.self.now in
    let words = map string_bytes c.args.words.now in
    let made = order_made c.in-Ok-ticket_in.ticket c.in-Ok.request _ c.new-order.result c.new-order.ensures (c.seed_in-seed.ensures ∙ ap seed_of c.option.ensures) in
    by_broken form words c.in-Ok.request c.in-Ok-ticket_in.ticket None c.in-Ok.ensures.given c.in-Ok-ticket_in.ensures.read
    (c.in-None.ensures ∙ ap (first_broken form) made) ∙ ap Ok (sym made)

pub returns-in-None-clause-listeners : goal.returns-in-None-clause-listeners
returns-in-None-clause-listeners c = listeners_kept (order_form_of c.args.self.now) c.new-order.result (sym c.in-None.ensures)

pub returns-in-None-clause-seed : goal.returns-in-None-clause-seed
returns-in-None-clause-seed c = seed_kept (order_form_of c.args.self.now) c.new-order.result (sym c.in-None.ensures)

pub returns-in-None-clause-bounds : goal.returns-in-None-clause-bounds
returns-in-None-clause-bounds c = bounds_kept (order_form_of c.args.self.now) c.new-order.result (sym c.in-None.ensures)

pub returns-in-Err-clause-line : goal.returns-in-Err-clause-line
returns-in-Err-clause-line c = elim c.in-Err.ensures.refused [
  | inl memory ↦ subst (λ f. FitsLine (cause_of f)) (sym memory) (record {})
  | inr wrong ↦ subst (λ f. FitsLine (cause_of f)) (sym wrong.1) (record {})
]

pub returns-in-Some-clause-line : goal.returns-in-Some-clause-line
returns-in-Some-clause-line c =
    broken_fits (order_form_of c.args.self.now) c.new-order.result (cause_of c.in-Some.fault) c.requires c.in-Some.ensures
