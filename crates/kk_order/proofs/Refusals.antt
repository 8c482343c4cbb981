-- What a status tells of words that are refused, and of words that are not.
use Rattle.std.proofs.Common.{◌≡◌, ◌∙◌, ℕ, Bool, true, false, inl, inr, refl, ap, sym, arith, Result, Ok, Err, true≢false}
use Rattle.kk_outside.specs.Change.{Change}
use Rattle.kk_outside.specs.Sink.{SinkTold, WasGiven}
use Rattle.kk_code.specs.declared.fault.TicketFault.{TicketFault}
use Rattle.kk_report.specs.Command.{IsRefusalOfWords}
use Rattle.kk_order.specs.Order.{Cause, IsRefusedFor, Order, Words, Ticket, Seed, Range, Listen, Memory}
use Rattle.kk_order.specs.Refuses.{IsRange, Refuses, refused_text, status_of}

-- an answer has one order
pub same_order : (answer : Result Order Cause) (one other : Order) → answer ≡ Ok one → answer ≡ Ok other → one ≡ other
same_order answer one other a b = cc

-- or one cause
abbrev is_order : Result Order Cause → Bool
is_order (Ok order) = true
is_order (Err cause) = false

pub order_or_none : (answer : Result Order Cause) (order : Order) (cause : Cause) → answer ≡ Ok order → answer ≡ Err cause → ⊥
order_or_none answer order cause a b = true≢false (sym (ap is_order a) ∙ ap is_order b)

same_cause : (answer : Result Order Cause) (one other : Cause) → answer ≡ Err one → answer ≡ Err other → one ≡ other
same_cause answer one other a b = cc

-- ---- the cause by the status

only_words : (cause : Cause) (status : ℕ) → status ≡ status_of cause → status ≡ 1 → cause ≡ Words
only_words Words status is one = refl
only_words (Ticket fault) status is one = absurd (omega (arith, is, one))
only_words Seed status is one = absurd (omega (arith, is, one))
only_words (Range name) status is one = absurd (omega (arith, is, one))
only_words Listen status is one = absurd (omega (arith, is, one))
only_words Memory status is one = absurd (omega (arith, is, one))

only_ticket : (cause : Cause) (status : ℕ) → status ≡ status_of cause → status ≡ 2 → (fault : TicketFault) × (cause ≡ Ticket fault)
only_ticket (Ticket fault) status is two = (fault, refl)
only_ticket Words status is two = absurd (omega (arith, is, two))
only_ticket Seed status is two = absurd (omega (arith, is, two))
only_ticket (Range name) status is two = absurd (omega (arith, is, two))
only_ticket Listen status is two = absurd (omega (arith, is, two))
only_ticket Memory status is two = absurd (omega (arith, is, two))

only_range : (cause : Cause) (status : ℕ) → status ≡ status_of cause → status ≡ 11 → IsRange cause
only_range Seed status is eleven = record {}
only_range (Range name) status is eleven = record {}
only_range Listen status is eleven = record {}
only_range Words status is eleven = absurd (omega (arith, is, eleven))
only_range (Ticket fault) status is eleven = absurd (omega (arith, is, eleven))
only_range Memory status is eleven = absurd (omega (arith, is, eleven))

range_eleven : (cause : Cause) → IsRange cause → status_of cause ≡ 11
range_eleven Seed is = refl
range_eleven (Range name) is = refl
range_eleven Listen is = refl
range_eleven Words is = absurd is
range_eleven (Ticket fault) is = absurd is
range_eleven Memory is = absurd is

-- the statuses of the causes
pub refusal_status : (cause : Cause) (status : ℕ) → status ≡ status_of cause → IsRefusalOfWords status
refusal_status Words status is = inl is
refusal_status (Ticket fault) status is = inr (inl is)
refusal_status Seed status is = inr (inr (inr is))
refusal_status (Range name) status is = inr (inr (inr is))
refusal_status Listen status is = inr (inr (inr is))
refusal_status Memory status is = inr (inr (inl is))

-- ---- the promise of a refusal, at each end of a run

-- there is a cause other than want of memory, where the status is not 8
why_refused : (answer : Result Order Cause) (cause : Cause) (status : ℕ) → IsRefusedFor answer cause → status ≡ status_of cause → (status ≡ 8 → ⊥)
    → answer ≡ Err cause
why_refused answer cause status (inl memory) is other = absurd (other (is ∙ ap status_of memory))
why_refused answer cause status (inr why) is other = why

pub words_refused : (answer : Result Order Cause) (cause : Cause) (status : ℕ) (report : Change SinkTold) → IsRefusedFor answer cause
    → status ≡ status_of cause → WasGiven (refused_text cause) report → Refuses answer status report
words_refused answer cause status report why is given = record {
  words_refused = λ other. let none = why_refused answer cause status why is other in
      (λ one. none ∙ ap Err (only_words cause status is one), λ e. is ∙ ap status_of (same_cause answer cause Words none e));
  ticket_refused = λ other. let none = why_refused answer cause status why is other in (
    λ two. let ticket = only_ticket cause status is two in (ticket.0, none ∙ ap Err ticket.1),
    λ h. is ∙ ap status_of (same_cause answer cause (Ticket h.0) none h.1),
  );
  range_refused = λ other. let none = why_refused answer cause status why is other in (
    λ eleven. (cause, only_range cause status is eleven, none),
    λ h. is ∙ ap status_of (same_cause answer cause h.0 none h.2) ∙ range_eleven h.0 h.1,
  );
  refused = λ _. (cause, why, is, given);
}

pub words_accepted : (answer : Result Order Cause) (order : Order) (status : ℕ) (report : Change SinkTold) → answer ≡ Ok order
    → (IsRefusalOfWords status → ⊥) → Refuses answer status report
words_accepted answer order status report some accepted = record {
  words_refused = λ other. (λ one. absurd (accepted (inl one)), λ e. absurd (order_or_none answer order Words some e));
  ticket_refused = λ other. (λ two. absurd (accepted (inr (inl two))), λ h. absurd (order_or_none answer order (Ticket h.0) some h.1));
  range_refused = λ other. (λ eleven. absurd (accepted (inr (inr (inr eleven)))), λ h. absurd (order_or_none answer order h.0 some h.2));
  refused = λ is. absurd (accepted is);
}
