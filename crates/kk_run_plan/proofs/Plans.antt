-- What `plan` promises, at each of its ends.
use Rattle.std.proofs.Common.{◌≡◌, inl, inr, ℕ, zero, suc, ◌*◌, ◌/◌, ◌+◌, ◌-◌, ◌<◌, ◌≤◌, min, List, [], ◌∷◌, length, take, Option, None, Ok, Err, refl, ap, sym, subst, ◌∙◌, arith}
use Rattle.std.specs.Prelude.{◌↔◌, Some, IfSome}
use Rattle.std.proofs.Math.Nat.{div-le_of_le-mul}
use Rattle.std.proofs.lemmas.List.{length-take-le, take_all}
use Rattle.kk_outside.specs.Causes.{CanCount}
use Rattle.kk_outside.specs.Change.{Change, change}
use Rattle.kk_outside.specs.Source.{AtEnd, Failed, SourceTold, SourceFailed, bytes_read, FillsFrom}
use Rattle.kk_outside.specs.Sink.{SinkTold, SinkFailed, WasGiven}
use Rattle.kk_outside.proofs.Known.{bytes_read-took, Took-same, filled, filled_short}
use Rattle.kk_code.specs.declared.ticket.TheConstants.{MAX_GENERATIONS}
use Rattle.kk_code.specs.Ticket.{TicketFields, message_bits, generations, for_length}
use Rattle.kk_code.specs.declared.fault.TicketFault.{TicketFault}
use Rattle.kk_code.specs.declared.fault.TicketFault.TheVariants.{TooMany}
use Rattle.kk_report.specs.declared.refusal.Refusal.TheVariants.{Input}
use Rattle.kk_report.specs.Command.{RanThrough}
use Rattle.kk_report.specs.Refusal.{refusal_text}
use Rattle.kk_report.specs.Report.{concluded_text}
use Rattle.kk_order.specs.Order.{Cause, IsRefusedFor, Ticket, order_of}
use Rattle.kk_order.specs.Refuses.{refused_text, status_of}
use Rattle.kk_order.proofs.Refusals.{refusal_status, words_accepted, words_refused}
use Rattle.kk_run_plan.specs.Plan.{ReadsToEnd, StopsAtLimit, FailsBeforeEnd, IsFirstTooLong, NamesTicket, answer_of, plan_form, planned, Plans}
use Rattle.kk_run_plan.proofs.Asking.{accepted_short, named_once, only_memory, refused_alone, refused_for, refused_long}
use Rattle.kk_report.proofs.Statuses.{IsStatusOf, not_through, once_or_through, once_not_four, through_told, sinks_failed}

-- the words or the ticket were refused, or there was no memory
pub plans_refused : (words : List (List ℕ)) (cause : Cause) (status : ℕ) (source : SourceTold) (file : SinkTold) (report : Change SinkTold)
    → IsRefusedFor (order_of plan_form words) cause → status ≡ status_of cause → WasGiven (refused_text cause) report
    → Plans words (change source source) (change file file) report status
plans_refused words cause status source file report why is given =
    let answer = order_of plan_form words in
    let bytes = bytes_read (change source source) in
    let once = refusal_status cause status is in
    record {
      refusals = words_refused (answer_of words bytes) cause status report (refused_for bytes answer cause why) is given;
      input_fault = λ can. (λ four. absurd (once_not_four status once four), λ rose. absurd (omega (arith, rose)));
      output_fault = λ can can_report touched. absurd (once_or_through status once touched);
      no_other_status = refused_alone words status report (words_refused answer cause status report why is given) once;
      read_to_end = λ order ordered touched. absurd (once_or_through status once touched);
      stopped = λ order ordered two. absurd (omega (arith, two, only_memory answer order cause status ordered why is));
      failed_before_end = λ order ordered four. absurd (once_not_four status once four);
      written = λ order ordered touched. absurd (once_or_through status once touched);
      source_refused = λ four. absurd (once_not_four status once four);
      reported = λ order ordered touched. absurd (once_or_through status once touched);
    }

-- a read failed
pub plans_failed : (words : List (List ℕ)) (t : TicketFields) (status : ℕ) (source : Change SourceTold) (file : SinkTold) (report : Change SinkTold)
    → NamesTicket words t → status ≡ 4 → (CanCount source.old.faults → SourceFailed source) → FailsBeforeEnd t source → WasGiven (refusal_text Input) report
    → Plans words source (change file file) report status
plans_failed words t status source file report named is rose before given =
    let bytes = bytes_read source in
    let ordered = accepted_short words t bytes named before.few in
    record {
      refusals = words_accepted (answer_of words bytes) named.order status report ordered (λ once. once_not_four status once is);
      input_fault = λ can. (λ _. rose can, λ _. is);
      output_fault = λ can can_report touched. absurd (not_through 4 status refl is touched);
      no_other_status = inr (inr (inl is));
      read_to_end = λ order of touched. absurd (not_through 4 status refl is touched);
      stopped = λ order of two. absurd (omega (arith, two, is));
      failed_before_end = λ order of _. named_once words (λ u. FailsBeforeEnd u source) t order named of before;
      written = λ order of touched. absurd (not_through 4 status refl is touched);
      source_refused = λ _. record {
        order = named.order;
        ordered = named.ordered;
        failed = subst (λ u. FailsBeforeEnd u source) named.ticket before;
        refused = record { tells = is; given = given };
      };
      reported = λ order of touched. absurd (not_through 4 status refl is touched);
    }

-- the source has too many bytes
pub plans_stopped : (words : List (List ℕ)) (t : TicketFields) (status : ℕ) (fault : TicketFault) (source : Change SourceTold) (file : SinkTold) (report : Change SinkTold)
    → NamesTicket words t → status ≡ 2 → source.new.faults ≡ source.old.faults → StopsAtLimit t source
    → fault ≡ TooMany (generations (for_length t (length (bytes_read source)))) → WasGiven (refused_text (Ticket fault)) report
    → Plans words source (change file file) report status
plans_stopped words t status fault source file report named is kept stops told given =
    let bytes = bytes_read source in
    let why = refused_long words t bytes named stops.many ∙ ap (λ f. Err (Ticket f)) (sym told) in
    record {
      refusals = words_refused (answer_of words bytes) (Ticket fault) status report (inr why) is given;
      input_fault = λ can. (λ e. absurd (omega (arith, e, is)), λ rose. absurd (omega (arith, rose, kept)));
      output_fault = λ can can_report touched. absurd (not_through 2 status refl is touched);
      no_other_status = inr (inl is);
      read_to_end = λ order of touched. absurd (not_through 2 status refl is touched);
      stopped = λ order of _. named_once words (λ u. StopsAtLimit u source) t order named of stops;
      failed_before_end = λ order of four. absurd (omega (arith, four, is));
      written = λ order of touched. absurd (not_through 2 status refl is touched);
      source_refused = λ four. absurd (omega (arith, four, is));
      reported = λ order of touched. absurd (not_through 2 status refl is touched);
    }

-- the ticket went out
pub plans_done : (words : List (List ℕ)) (t : TicketFields) (told status : ℕ) (source : Change SourceTold) (file report : Change SinkTold)
    → NamesTicket words t → source.new.faults ≡ source.old.faults → ReadsToEnd t source
    → RanThrough told → (CanCount file.old.faults → (told ≡ 5) ↔ SinkFailed file) → WasGiven (planned t (bytes_read source)) file
    → WasGiven (concluded_text told []) report → IsStatusOf told status → (CanCount report.old.faults → told ≡ 0 → (status ≡ 5) ↔ SinkFailed report)
    → Plans words source file report status
plans_done words t told status source file report named kept ends tells five written given same report_five =
    let bytes = bytes_read source in
    let ordered = accepted_short words t bytes named ends.few in
    let touched = through_told told status tells same in
    record {
      refusals = words_accepted (answer_of words bytes) named.order status report ordered (λ once. once_or_through status once touched);
      input_fault = λ can. (λ e. absurd (not_through 4 status refl e touched), λ rose. absurd (omega (arith, rose, kept)));
      output_fault = λ can can_report _. sinks_failed told status file report tells same five report_five can can_report;
      no_other_status = inr (inr (inr (inr touched)));
      read_to_end = λ order of _. named_once words (λ u. ReadsToEnd u source) t order named of ends;
      stopped = λ order of e. absurd (not_through 2 status refl e touched);
      failed_before_end = λ order of e. absurd (not_through 4 status refl e touched);
      written = λ order of _. named_once words (λ u. WasGiven (planned u (bytes_read source)) file) t order named of written;
      source_refused = λ e. absurd (not_through 4 status refl e touched);
      reported = λ order of _. record { told = told; same_or_five = same; five = five; given = given };
    }

-- ---- the reads of a plan: into room for the longest file and one byte more

pub plan_failed : {E : Type 0} (t : TicketFields) (source : Change SourceTold) (e : E) (buf : List ℕ) → IsFirstTooLong t (length buf) → FillsFrom source (Err e) buf → FailsBeforeEnd t source
plan_failed t source e buf room fills =
    let bytes = fills.lost.0 in
    let read : bytes_read source ≡ bytes = bytes_read-took bytes (Failed ∷ []) source fills.lost.2 refl in
    record {
      took = Took-same bytes (bytes_read source) (Failed ∷ []) source (sym read) fills.lost.2;
      few = λ long. omega (arith, rw read at long, (room (length bytes)).0 fills.lost.1);
    }

pub plan_ended : {E : Type 0} (t : TicketFields) (n : ℕ) (source : Change SourceTold) (buf : List ℕ) → IsFirstTooLong t (length buf) → FillsFrom {E = E} source (Ok n) buf → generations (for_length t n) ≤ MAX_GENERATIONS → ReadsToEnd t source × (length (bytes_read source) ≡ n)
plan_ended t n source buf room fills few =
    let short : n < length buf = (room n).1 few in
    let took = filled_short source n buf fills short in
    let read : bytes_read source ≡ take n buf = bytes_read-took (take n buf) (AtEnd ∷ []) source took refl in
    let size : length (bytes_read source) ≡ n = ap length read ∙ length-take-le n buf (omega (arith, short)) in (
      record {
        took = Took-same (take n buf) (bytes_read source) (AtEnd ∷ []) source (sym read) took;
        few = λ long. omega (arith, rw size at long, few);
        whole = whole_of source.old.left n buf (bytes_read source) read short fills.count fills.given;
      },
      size,
    )
  where
    whole_of : (left : Option (List ℕ)) (k : ℕ) (all read : List ℕ) → read ≡ take k all → k < length all → IfSome left (λ xs. k ≡ min (length all) (length xs)) → IfSome left (λ xs. take k all ≡ take (length all) xs) → IfSome left (λ bytes. read ≡ bytes)
    whole_of None k all read is within count given = tt
    whole_of (Some xs) k all read is within count given = is ∙ given ∙ take_all (length all) xs (omega (arith, count, within))

-- a file of no bytes takes no generation
no_bytes : (t : TicketFields) → generations (for_length t 0) ≤ MAX_GENERATIONS
no_bytes t = none (message_bits t.code)
  where
    none : (bits : ℕ) → (8 * 0 + (bits - 1)) / bits ≤ MAX_GENERATIONS
    none zero = omega arith
    none (suc b) = div-le_of_le-mul (suc b) (omega arith)

pub plan_stopped : {E : Type 0} (t : TicketFields) (n : ℕ) (source : Change SourceTold) (buf : List ℕ) → IsFirstTooLong t (length buf) → FillsFrom {E = E} source (Ok n) buf → MAX_GENERATIONS < generations (for_length t n) → StopsAtLimit t source × (length (bytes_read source) ≡ n)
plan_stopped t n source buf room fills many =
    let whole : n < length buf → ⊥ = λ short. omega (arith, (room n).0 short, many) in
    let full : n ≡ length buf = omega (arith, fills.bounded) in
    let some : 0 < length buf = (room 0).1 (no_bytes t) in
    let took = filled source n buf fills full in
    let read : bytes_read source ≡ buf = bytes_read-took buf [] source took refl in
    let size : length (bytes_read source) ≡ n = ap length read ∙ sym full in (
      record {
        took = Took-same buf (bytes_read source) [] source (sym read) took;
        many = rw size many;
        first = rw size ((room (n - 1)).0 (omega (arith, full, some)));
      },
      size,
    )
