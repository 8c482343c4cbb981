-- What `unpack` promises, at each of its ends.
use Rattle.std.proofs.Common.{◌≡◌, ◌⊎◌, inl, inr, ℕ, ◌<◌, List, [], ◌∷◌, length, Option, Some, None, refl, arith}
use Rattle.std.specs.Prelude.{◌↔◌, IfSome}
use Rattle.std.specs.Io.KnownBytes.{prepend_known}
use Rattle.kk_outside.specs.Causes.{CanCount}
use Rattle.kk_outside.specs.Change.{Change, change}
use Rattle.kk_outside.specs.Source.{SourceTold, SourceFailed, bytes_read}
use Rattle.kk_outside.specs.Sink.{SinkTold, SinkFailed, WasGiven}
use Rattle.kk_code.specs.Ticket.{TicketFields}
use Rattle.kk_report.specs.declared.refusal.Refusal.TheVariants.{Input}
use Rattle.kk_report.specs.Command.{IsRefusalOfWords, RanThrough}
use Rattle.kk_outcome.specs.Delivery.{IsDelivered}
use Rattle.kk_report.specs.Refusal.{refusal_text}
use Rattle.kk_order.specs.Order.{Cause, IsRefusedFor, Order, order_of}
use Rattle.kk_order.specs.Refuses.{refused_text, status_of}
use Rattle.kk_order.proofs.Refusals.{refusal_status, words_accepted, words_refused}
use Rattle.kk_run_unpack.specs.Unpack.{UnpacksBy, max_pieces, unpack_form, FailsBeforeStop, IsBeforeStop, read_length, LeavesMore, Unpacks}
use Rattle.kk_run_unpack.proofs.Asking.{NamesTicket, named_once}
use Rattle.kk_run_unpack.proofs.Reporting.{IsRun}
use Rattle.kk_report.proofs.Statuses.{IsStatusOf, not_through, once_or_through, once_not_four, three_not_through, decoded_or_through, at_once_alone, four_alone, sinks_failed}

-- the words, the ticket or a number were refused, or there was no memory
pub unpacks_refused : (words : List (List ℕ)) (cause : Cause) (status : ℕ) (source : SourceTold) (file : SinkTold) (report : Change SinkTold)
    → IsRefusedFor (order_of unpack_form words) cause → status ≡ status_of cause → WasGiven (refused_text cause) report
    → Unpacks words (change source source) (change file file) report status
unpacks_refused words cause status source file report why is given =
    let once = refusal_status cause status is in
    record {
      refusals = words_refused (order_of unpack_form words) cause status report why is given;
      not_decoded = λ order under. absurd (under.accepted once);
      input_fault = λ can. (λ four. absurd (once_not_four status once four), λ rose. absurd (omega (arith, rose)));
      output_fault = λ can can_report touched. absurd (once_or_through status once touched);
      no_other_status = inl once;
      read_to_stop = λ order under. absurd (under.accepted once);
      failed_before_stop = λ order under. absurd (under.accepted once);
      remainder = λ order under. absurd (under.accepted once);
      more_left = λ order under. absurd (under.accepted once);
      written = λ order under. absurd (under.accepted once);
      reported = λ order under. absurd (under.accepted once);
    }

-- fewer bytes were taken than up to the stop, or all that there were
leaves_more : (t : TicketFields) (most : ℕ) (taken : List ℕ) (old new : Option (List ℕ)) → IsBeforeStop t most taken → old ≡ prepend_known taken new
    → IfSome old (λ bytes. (length taken < read_length t most bytes) ⊎ (new ≡ Some []))
leaves_more t most taken old None before left = rw left (record {})
leaves_more t most taken old (Some []) before left = rw left (inr refl)
leaves_more t most taken old (Some (byte ∷ more)) before left = rw left (inl (before (byte ∷ more) (omega arith)))

-- a read failed
pub unpacks_failed : (words : List (List ℕ)) (t : TicketFields) (most status : ℕ) (source : Change SourceTold) (file : SinkTold) (report : Change SinkTold)
    → NamesTicket words t most → status ≡ 4 → (CanCount source.old.faults → SourceFailed source) → FailsBeforeStop t most source
    → WasGiven (refusal_text Input) report
    → Unpacks words source (change file file) report status
unpacks_failed words t most status source file report named four rose before given =
    let left = leaves_more t most (bytes_read source) source.old.left source.new.left before.before before.took.left in
    let once : IsRefusalOfWords status → ⊥ = λ is. once_not_four status is four in
    record {
      refusals = words_accepted (order_of unpack_form words) named.order status report named.ordered once;
      not_decoded = λ order under not. absurd (not four);
      input_fault = λ can. (λ _. rose can, λ _. four);
      output_fault = λ can can_report touched. absurd (not_through 4 status refl four touched);
      no_other_status = inr (inr (inl four));
      read_to_stop = λ order under not. absurd (not four);
      failed_before_stop = λ order under _. named_once words (λ u n. FailsBeforeStop u n source) t most order named under.ordered before;
      remainder = λ order under not. absurd (not four);
      more_left = λ order under _. named_once words (λ u n. IfSome source.old.left (λ bytes. LeavesMore u n bytes source)) t most order named under.ordered left;
      written = λ order under touched. absurd (not_through 4 status refl four touched);
      reported = λ order under. record { told = 4; same_or_five = inl four; five = λ can touched. absurd (not_through 4 status refl four touched); given = given };
    }

-- the status is 5 exactly where a sink failed
delivered_five : (told status : ℕ) (text : Option (List ℕ)) (file report : Change SinkTold) → IsDelivered text told file → IsStatusOf told status
    → (CanCount report.old.faults → told ≡ 0 → (status ≡ 5) ↔ SinkFailed report)
    → CanCount file.old.faults → CanCount report.old.faults → RanThrough status → (status ≡ 5) ↔ (SinkFailed file ⊎ SinkFailed report)
delivered_five told status text file report delivered same five can can_report touched = elim delivered.no_other [
  | inl three ↦ absurd (three_not_through told status three same touched)
  | inr through ↦ sinks_failed told status file report through same (λ kept. delivered.output_fault kept through) five can can_report
]

-- the capture was read up to the stop
pub unpacks_received : (words : List (List ℕ)) (t : TicketFields) (most told status : ℕ) (text : Option (List ℕ)) (source : Change SourceTold) (file report : Change SinkTold)
    → NamesTicket words t most → IsRun t most status source file report → source.new.faults ≡ source.old.faults → IsDelivered text told file → IsStatusOf told status
    → (CanCount report.old.faults → told ≡ 0 → (status ≡ 5) ↔ SinkFailed report)
    → Unpacks words source file report status
unpacks_received words t most told status text source file report named run kept delivered same five =
    let no_other : (status ≡ 3) ⊎ RanThrough status = decoded_or_through told status delivered.no_other same in
    let once : IsRefusalOfWords status → ⊥ = λ once. at_once_alone status once no_other in
    let four : status ≡ 4 → ⊥ = λ four. four_alone status four no_other in
    record {
      refusals = words_accepted (order_of unpack_form words) named.order status report named.ordered once;
      not_decoded = λ order under. (run_of under).not_decoded;
      input_fault = λ can. (λ e. absurd (four e), λ rose. absurd (omega (arith, rose, kept)));
      output_fault = delivered_five told status text file report delivered same five;
      no_other_status = inr (elim no_other [ inl three ↦ inl three | inr touched ↦ inr (inr touched) ]);
      read_to_stop = λ order under. (run_of under).read_to_stop;
      failed_before_stop = λ order under. (run_of under).failed_before_stop;
      remainder = λ order under. (run_of under).remainder;
      more_left = λ order under. (run_of under).more_left;
      written = λ order under. (run_of under).written;
      reported = λ order under. (run_of under).reported;
    }
  where
    run_of : {order : Order} → UnpacksBy order words status → IsRun order.ticket (max_pieces order) status source file report
    run_of {order} under = named_once words (λ u n. IsRun u n status source file report) t most order named under.ordered run
