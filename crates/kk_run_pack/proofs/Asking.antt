-- The ticket in the words of `pack`, and why they are refused.
use Rattle.std.proofs.Common.{◌≡◌, ℕ, List, inl, inr, Option, Some, None, Result, Ok, Err, refl, subst, sym, arith}
use Rattle.kk_outside.specs.Change.{Change}
use Rattle.kk_outside.specs.Sink.{SinkTold}
use Rattle.kk_code.specs.Ticket.{TicketFields}
use Rattle.kk_code.specs.TicketText.{ticket_of}
use Rattle.kk_code.specs.declared.fault.TicketFault.{TicketFault}
use Rattle.kk_forms.specs.Request.{Request, request_by}
use Rattle.kk_report.specs.Command.{IsRefusalOfWords}
use Rattle.kk_order.specs.declared.order_form.TicketPlace.TheVariants.{First}
use Rattle.kk_order.specs.Order.{Cause, IsRefusedFor, Order, first_broken, order_found, order_of, order_under, order_unless, order_with, ticket_text_in}
use Rattle.kk_order.specs.Refuses.{IsRange, Refuses, status_of}
use Rattle.kk_order.proofs.Refusals.{same_order}
use Rattle.kk_run_pack.specs.Pack.{IsPackStatus, NamesTicket, pack_form}

-- what is said of the ticket that the words name holds by their order
pub named_once : (words : List (List ℕ)) (P : TicketFields → Type 0) (t : TicketFields) (order : Order) → NamesTicket words t
    → order_of pack_form words ≡ Ok order → P t → P order.ticket
named_once words P t order named ordered holds =
    subst (λ (o : Order). P o.ticket) (same_order (order_of pack_form words) named.order order named.ordered ordered) (subst P named.ticket holds)

-- ---- why words are refused

-- words that have an order are refused for want of memory alone
pub only_memory : (answer : Result Order Cause) (order : Order) (cause : Cause) (status : ℕ) → answer ≡ Ok order → IsRefusedFor answer cause → status ≡ status_of cause → status ≡ 8
only_memory answer order cause status some (inl memory) is = subst (λ c. status ≡ status_of c) memory is
only_memory answer order cause status some (inr none) is = absurd (cc)

-- an order to pack breaks nothing
unbroken : (order : Order) → first_broken pack_form order ≡ None
unfolding first_broken
unbroken order = refl

same_cause : {one other : Cause} → ◌≡◌ {A = Result Order Cause} (Err one) (Err other) → one ≡ other
same_cause e = cc

not_range_under : (order : Order) (broken : Option Cause) (cause : Cause) → broken ≡ None → order_unless order broken ≡ Err cause → ⊥
not_range_under order None cause none e = cc
not_range_under order (Some other) cause none e = cc

not_range_with : (found : Request) (ticket : Result TicketFields TicketFault) (cause : Cause) → order_with pack_form found ticket ≡ Err cause → IsRange cause → ⊥
not_range_with found (Ok t) cause e is = not_range_under (order_under t found) (first_broken pack_form (order_under t found)) cause (unbroken (order_under t found)) e
not_range_with found (Err fault) cause e is = subst IsRange (sym (same_cause e)) is

not_range_found : (found : Option Request) (cause : Cause) → order_found pack_form found ≡ Err cause → IsRange cause → ⊥
not_range_found None cause e is = subst IsRange (sym (same_cause e)) is
not_range_found (Some found) cause e is = not_range_with found (ticket_of (ticket_text_in First found.texts)) cause e is

-- no words are refused for a range
not_range : (words : List (List ℕ)) (cause : Cause) → order_of pack_form words ≡ Err cause → IsRange cause → ⊥
unfolding order_of
not_range words cause e is = not_range_found (request_by pack_form.words words) cause e is

-- the statuses of refused words
pub refused_alone : (words : List (List ℕ)) (status : ℕ) (report : Change SinkTold) → Refuses (order_of pack_form words) status report → IsRefusalOfWords status → IsPackStatus status
refused_alone words status report refuses (inl one) = inl one
refused_alone words status report refuses (inr (inl two)) = inr (inl two)
refused_alone words status report refuses (inr (inr (inl eight))) = inr (inr (inr (inl eight)))
refused_alone words status report refuses (inr (inr (inr eleven))) =
    let why = (refuses.range_refused (λ eight. omega (arith, eight, eleven))).0 eleven in
    absurd (not_range words why.0 why.2 why.1)
