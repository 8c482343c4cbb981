-- What `relay` promises, at each of its ends.
use Rattle.std.proofs.Common.{◌≡◌, ◌⊎◌, inl, inr, ℕ, ◌==◌, Bool, true, false, List, [], ◌∷◌, length, map, Option, Some, Result, Ok, Err, refl, ap, sym, subst, codes, ◌∙◌, arith}
use Rattle.std.specs.Prelude.{slice_index_or, slice_set}
use Rattle.std.proofs.lemmas.Bool.Decides.{nat_tests}
use Rattle.std.proofs.lemmas.List.{length-map}
use Rattle.std.proofs.Math.ListN.{length-set}
use Rattle.kk_outside.specs.Change.{Change, change}
use Rattle.kk_outside.specs.Gate.{GateTold}
use Rattle.kk_outside.specs.Outlet.{OutletTold}
use Rattle.kk_outside.specs.Sink.{SinkTold, WasGiven}
use Rattle.kk_report.specs.Command.{IsRefusalOfWords, RanThrough}
use Rattle.kk_code.specs.Ticket.{TicketFields}
use Rattle.kk_order.specs.Order.{Cause, IsRefusedFor, Listen, Order, number_of, order_of}
use Rattle.kk_order.specs.Refuses.{refused_text, status_of}
use Rattle.kk_order.proofs.Refusals.{order_or_none, same_order, words_accepted, words_refused}
use Rattle.kk_run_relay.specs.Relay.{AsksFor, FirstIs, Relaying, Relays, RelaysBy, answer_by, answer_of, relay_form, relaying_of}

-- ---- by how many gates there are

some_gates : (n : ℕ) → (n ≡ 0 → ⊥) → (n == 0) ≡ false
some_gates n some = grind (arith, nat_tests)

-- no gate is there
pub unheard : (words : List (List ℕ)) (order : Order) (gates : ℕ) → order_of relay_form words ≡ Ok order → gates ≡ 0 → answer_of words gates ≡ Err Listen
unheard words order gates ordered none = ap (λ n. answer_by (n == 0) (order_of relay_form words)) none ∙ ap (answer_by true) ordered

-- some gate is there
pub heard : (words : List (List ℕ)) (order : Order) (gates : ℕ) → order_of relay_form words ≡ Ok order → (gates ≡ 0 → ⊥) → answer_of words gates ≡ Ok order
heard words order gates ordered some = ap (λ b. answer_by b (order_of relay_form words)) (some_gates gates some) ∙ ordered

-- an order that is answered is that of the words
ordered_by : (none : Bool) (answer : Result Order Cause) (order : Order) → answer_by none answer ≡ Ok order → answer ≡ Ok order
ordered_by false answer order is = is
ordered_by true (Ok other) order is = absurd (cc)
ordered_by true (Err cause) order is = absurd (cc)

same_refusal : (none : Bool) (cause : Cause) → answer_by none (Err cause) ≡ Err cause
same_refusal true cause = refl
same_refusal false cause = refl

-- what refuses the words refuses them whatever the gates are
pub refused_by : (words : List (List ℕ)) (gates : ℕ) (cause : Cause) → IsRefusedFor (order_of relay_form words) cause → IsRefusedFor (answer_of words gates) cause
refused_by words gates cause (inl memory) = inl memory
refused_by words gates cause (inr why) = inr (ap (answer_by (gates == 0)) why ∙ same_refusal (gates == 0) cause)

-- ---- refused before any call on a gate

-- an order is refused for want of memory alone
only_memory : (answer : Result Order Cause) (order : Order) (cause : Cause) (status : ℕ) → IsRefusedFor answer cause → status ≡ status_of cause → answer ≡ Ok order → status ≡ 8
only_memory answer order cause status (inl memory) is ordered = is ∙ ap status_of memory
only_memory answer order cause status (inr why) is ordered = absurd (order_or_none answer order cause ordered why)

pub relays_refused : (words : List (List ℕ)) (cause : Cause) (status : ℕ) (gates : List GateTold) (report : Change SinkTold) (outlet : OutletTold)
    → IsRefusedFor (answer_of words (length gates)) cause → status ≡ status_of cause → WasGiven (refused_text cause) report
    → Relays words (change gates gates) report (change outlet outlet) status
relays_refused words cause status gates report outlet why is given =
    let answer = answer_of words (length gates) in
    record {
      refusals = words_refused answer cause status report why is given;
      runs = λ order ordered some other. absurd (other (only_memory answer order cause status why is (heard words order (length gates) ordered (λ none. omega (arith, some, none)))));
      same_gates = refl;
    }

-- ---- over a gate

ran_before : (status : ℕ) → (status ≡ 4) ⊎ ((status ≡ 7) ⊎ RanThrough status) → IsRefusalOfWords status → ⊥
ran_before status is before = grind arith

pub relays_ran : (words : List (List ℕ)) (relaying : Relaying) (status : ℕ) (gates : Change (List GateTold)) (gate : Change GateTold) (report : Change SinkTold) (outlet : Change OutletTold)
    → AsksFor words (length gates.old) relaying → FirstIs gates gate → length gates.new ≡ length gates.old
    → RelaysBy relaying gate report outlet status → Relays words gates report outlet status
relays_ran words relaying status gates gate report outlet asks first same by =
    let ordered = ordered_by (length gates.old == 0) (order_of relay_form words) asks.order asks.ordered in
    record {
      refusals = words_accepted (answer_of words (length gates.old)) asks.order status report asks.ordered (ran_before status by.no_other_status);
      runs = λ other others _ _.
          let own = asks.same ∙ ap relaying_of (same_order (order_of relay_form words) asks.order other ordered others) in
          (gate, first, subst (λ (r : Relaying). RelaysBy r gate report outlet status) own by);
      same_gates = same;
    }

-- what a relay goes by, from what the numbers of its order are
pub goes_by : (order : Order) (t : TicketFields) (seed : Option (List ℕ)) (rate idle most : ℕ) → t ≡ order.ticket → seed ≡ order.seed
    → rate ≡ number_of order (codes "rate") → idle ≡ number_of order (codes "idle") → most ≡ number_of order (codes "most")
    → ◌≡◌ {A = Relaying} (record { ticket = t; seed = seed; rate = rate; limits = record { idle = idle; most = most } }) (relaying_of order)
goes_by order t seed rate idle most a b c d e =
    λ i. record { ticket = a i; seed = b i; rate = c i; limits = record { idle = d i; most = e i } }

-- the first of some gates, and what is put in its place
pub first_is : {A : Type 0} (told : A → GateTold) (items : List A) (old new : A) → (length items ≡ 0 → ⊥) → old ≡ slice_index_or items 0 old
    → FirstIs (change (map told items) (map told (slice_set items 0 new))) (change (told old) (told new))
first_is told [] old new some was = absurd (some refl)
first_is told (one ∷ items) old new some was = (ap Some (ap told (sym was)), refl)

-- there are as many then
pub as_many : {A : Type 0} (told : A → GateTold) (items : List A) (new : A) → length (map told (slice_set items 0 new)) ≡ length (map told items)
as_many told items new = length-map (slice_set items 0 new) told ∙ length-set items 0 new ∙ sym (length-map items told)
