-- The ticket in the words of `plan`, and why a plan is refused.
use Rattle.std.proofs.Common.{◌≡◌, ◌⊎◌, ◌∙◌, ℕ, ◌<◌, true, false, List, length, inl, inr, Option, Some, None, Result, Ok, Err, ap, cond, nat_lt, refl, subst, sym, arith}
use Rattle.std.proofs.lemmas.Bool.Decides.{nat_tests}
use Rattle.kk_outside.specs.Change.{Change}
use Rattle.kk_outside.specs.Sink.{SinkTold}
use Rattle.kk_code.specs.Ticket.{TicketFields, generations, for_length}
use Rattle.kk_code.specs.TicketText.{ticket_of}
use Rattle.kk_code.specs.declared.ticket.TheConstants.{MAX_GENERATIONS}
use Rattle.kk_code.specs.declared.fault.TicketFault.{TicketFault}
use Rattle.kk_code.specs.declared.fault.TicketFault.TheVariants.{TooMany}
use Rattle.kk_forms.specs.Request.{Request, request_by}
use Rattle.kk_report.specs.Command.{IsRefusalOfWords, RanThrough}
use Rattle.kk_order.specs.declared.order_form.TicketPlace.TheVariants.{Parts}
use Rattle.kk_order.specs.Order.{Cause, IsRefusedFor, Order, Ticket, first_broken, order_found, order_of, order_under, order_unless, order_with, ticket_text_in}
use Rattle.kk_order.specs.Refuses.{IsRange, Refuses, status_of}
use Rattle.kk_order.proofs.Refusals.{same_order}
use Rattle.kk_run_plan.specs.Plan.{IsPlanStatus, IsTooLong, NamesTicket, answer_by, answer_of, order_unless_many, plan_form}

-- what is said of the ticket that the words name holds by their order
pub named_once : (words : List (List ℕ)) (P : TicketFields → Type 0) (t : TicketFields) (order : Order) → NamesTicket words t
    → order_of plan_form words ≡ Ok order → P t → P order.ticket
named_once words P t order named ordered holds =
    subst (λ (o : Order). P o.ticket) (same_order (order_of plan_form words) named.order order named.ordered ordered) (subst P named.ticket holds)

-- ---- by how many bytes there are

-- what words are refused for, a plan of any bytes is refused for
pub refused_for : (bytes : List ℕ) (answer : Result Order Cause) (cause : Cause) → IsRefusedFor answer cause → IsRefusedFor (answer_by bytes answer) cause
refused_for bytes answer cause (inl memory) = inl memory
refused_for bytes answer cause (inr why) = inr (ap (answer_by bytes) why)

many : (order : Order) (count : ℕ) → MAX_GENERATIONS < count → order_unless_many order count ≡ Err (Ticket (TooMany count))
many order count long =
    let is : nat_lt MAX_GENERATIONS count ≡ true = grind (arith, nat_tests) in
    ap (λ b. cond b (Err (Ticket (TooMany count))) (Ok order)) is

few : (order : Order) (count : ℕ) → (MAX_GENERATIONS < count → ⊥) → order_unless_many order count ≡ Ok order
few order count short =
    let is : nat_lt MAX_GENERATIONS count ≡ false = grind (arith, nat_tests) in
    ap (λ b. cond b (Err (Ticket (TooMany count))) (Ok order)) is

-- a plan of too many bytes is refused for its ticket
pub refused_long : (words : List (List ℕ)) (t : TicketFields) (bytes : List ℕ) → NamesTicket words t → IsTooLong t bytes
    → answer_of words bytes ≡ Err (Ticket (TooMany (generations (for_length t (length bytes)))))
refused_long words t bytes named long =
    ap (answer_by bytes) named.ordered
    ∙ many named.order (generations (for_length named.order.ticket (length bytes))) (subst (λ u. IsTooLong u bytes) named.ticket long)
    ∙ ap (λ (u : TicketFields). Err (Ticket (TooMany (generations (for_length u (length bytes)))))) (sym named.ticket)

-- and one of fewer has its order
pub accepted_short : (words : List (List ℕ)) (t : TicketFields) (bytes : List ℕ) (named : NamesTicket words t) → (IsTooLong t bytes → ⊥)
    → answer_of words bytes ≡ Ok named.order
accepted_short words t bytes named short =
    ap (answer_by bytes) named.ordered
    ∙ few named.order (generations (for_length named.order.ticket (length bytes))) (subst (λ u. IsTooLong u bytes → ⊥) named.ticket short)

-- ---- why words are refused

-- words that have an order are refused for want of memory alone
pub only_memory : (answer : Result Order Cause) (order : Order) (cause : Cause) (status : ℕ) → answer ≡ Ok order → IsRefusedFor answer cause → status ≡ status_of cause → status ≡ 8
only_memory answer order cause status some (inl memory) is = subst (λ c. status ≡ status_of c) memory is
only_memory answer order cause status some (inr none) is = absurd (cc)

-- an order to plan breaks nothing
unbroken : (order : Order) → first_broken plan_form order ≡ None
unfolding first_broken
unbroken order = refl

same_cause : {one other : Cause} → ◌≡◌ {A = Result Order Cause} (Err one) (Err other) → one ≡ other
same_cause e = cc

not_range_under : (order : Order) (broken : Option Cause) (cause : Cause) → broken ≡ None → order_unless order broken ≡ Err cause → ⊥
not_range_under order None cause none e = cc
not_range_under order (Some other) cause none e = cc

not_range_with : (found : Request) (ticket : Result TicketFields TicketFault) (cause : Cause) → order_with plan_form found ticket ≡ Err cause → IsRange cause → ⊥
not_range_with found (Ok t) cause e is = not_range_under (order_under t found) (first_broken plan_form (order_under t found)) cause (unbroken (order_under t found)) e
not_range_with found (Err fault) cause e is = subst IsRange (sym (same_cause e)) is

not_range_found : (found : Option Request) (cause : Cause) → order_found plan_form found ≡ Err cause → IsRange cause → ⊥
not_range_found None cause e is = subst IsRange (sym (same_cause e)) is
not_range_found (Some found) cause e is = not_range_with found (ticket_of (ticket_text_in Parts found.texts)) cause e is

-- no words are refused for a range
not_range : (words : List (List ℕ)) (cause : Cause) → order_of plan_form words ≡ Err cause → IsRange cause → ⊥
unfolding order_of
not_range words cause e is = not_range_found (request_by plan_form.words words) cause e is

-- the statuses of refused words
pub refused_alone : (words : List (List ℕ)) (status : ℕ) (report : Change SinkTold) → Refuses (order_of plan_form words) status report → IsRefusalOfWords status → IsPlanStatus status
refused_alone words status report refuses (inl one) = inl one
refused_alone words status report refuses (inr (inl two)) = inr (inl two)
refused_alone words status report refuses (inr (inr (inl eight))) = inr (inr (inr (inl eight)))
refused_alone words status report refuses (inr (inr (inr eleven))) =
    let why = (refuses.range_refused (λ eight. omega (arith, eight, eleven))).0 eleven in
    absurd (not_range words why.0 why.2 why.1)

-- the ticket that the words name is that of an order
pub was_accepted : (words : List (List ℕ)) (t : TicketFields) (status : ℕ) → NamesTicket words t → ((status ≡ 1) ⊎ ((status ≡ 8) ⊎ (status ≡ 11)) → ⊥)
    → (status ≡ 1) ⊎ ((status ≡ 8) ⊎ ((other : Order) → order_of plan_form words ≡ Ok other → ⊥)) → ⊥
was_accepted words t status named accepted (inl one) = accepted (inl one)
was_accepted words t status named accepted (inr (inl eight)) = accepted (inr (inl eight))
was_accepted words t status named accepted (inr (inr none)) = none named.order named.ordered

-- the statuses of a run
pub run_alone : (status : ℕ) → (status ≡ 2) ⊎ ((status ≡ 4) ⊎ RanThrough status) → (status ≡ 1) ⊎ ((status ≡ 8) ⊎ (status ≡ 11)) → ⊥
run_alone status is other = grind arith
