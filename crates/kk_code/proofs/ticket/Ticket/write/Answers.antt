use Rattle.std.proofs.Common.{◌≡◌, ◌++◌, codes, sym, ap, subst, ◌∙◌}
use Rattle.kk_code.specs.Ticket.{ticket_text}
use Rattle.kk_code.specs.TicketText.{IsTicketText}
use Rattle.kk_code.proofs.Texts.{text_pushed, text_of_ticket}
use Rattle.kk_code.proofs.ticket.Ticket.write.Goals as goal

written : (c : goal.After-push_decimal-4) → c.push_decimal-4.new.text.bytes ≡ ticket_text c.args.self.now
written c =
    let field = ap (λ p. p.field) c.code-code.ensures.code in
    text_pushed c.args.self.now _ _ _ _ _ _ _ _ _ _ _ _ _
    (c.from.ensures ∙ c.session.ensures.session) (c.m.ensures.degree ∙ ap (λ f. f.degree) field)
    (c.low.ensures.value ∙ ap (λ f. f.low) (c.ring.ensures.value ∙ c.field.ensures.field ∙ field))
    (c.l.ensures.points ∙ ap (λ p. p.l) c.code-code.ensures.code) (c.k.ensures.symbols ∙ ap (λ p. p.k) c.code-code.ensures.code)
    c.length.ensures.length (c.push_str.ensures.bytes ∙ ap (λ b. b ++ codes "kk1") c.new-text.ensures)
    c.push_hex.ensures.bytes c.push_decimal.ensures.bytes c.push_hex-2.ensures.bytes c.push_decimal-2.ensures.bytes
    c.push_decimal-3.ensures.bytes c.push_decimal-4.ensures.bytes

pub returns-clause-text : goal.returns-clause-text
returns-clause-text c = written c

pub returns-clause-read : goal.returns-clause-read
returns-clause-read c = subst (λ text. IsTicketText text c.args.self.now) (sym (written c)) (text_of_ticket c.args.self.now c.length.ensures.ticket)
