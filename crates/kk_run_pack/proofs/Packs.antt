-- What `pack` promises, at each of its ends.
use Rattle.std.proofs.Common.{◌≡◌, ◌⊎◌, inl, inr, ℕ, Bool, List, length, Some, Result, Ok, Err, refl, ap, sym, subst, ◌∙◌, arith}
use Rattle.std.specs.Prelude.{◌↔◌, IfSome, is_some}
use Rattle.std.proofs.lemmas.Bool.{false≢true}
use Rattle.kk_outside.specs.Causes.{CanCount}
use Rattle.kk_outside.specs.Change.{Change, change}
use Rattle.kk_outside.specs.Source.{SourceTold, SourceFailed, bytes_read}
use Rattle.kk_outside.specs.Sink.{SinkTold, SinkFailed, WasGiven}
use Rattle.kk_code.specs.Ticket.{TicketFields}
use Rattle.kk_sender.specs.declared.fault.FileFault.{FileFault}
use Rattle.kk_sender.specs.declared.fault.FileFault.TheVariants as file_fault
use Rattle.kk_sender.specs.LengthRule.{wrong_length, ReadsToLength, FailsWithinLength, LeavesAfterLength}
use Rattle.kk_sender.specs.SentFrames.{packed}
use Rattle.kk_sender.proofs.Lengths.{right-told}
use Rattle.kk_report.specs.declared.refusal.Refusal.TheVariants.{Input, Length}
use Rattle.kk_report.specs.declared.status.Status.{Status}
use Rattle.kk_report.specs.declared.status.Status.TheVariants.{Done, OutputFault}
use Rattle.kk_report.specs.Status.{code_of}
use Rattle.kk_report.specs.Command.{IsRefusalOfWords, RanThrough}
use Rattle.kk_report.specs.Refusal.{status_of as refusal_status_of, refusal_text}
use Rattle.kk_report.specs.Report.{concluded_text, IsConcluded}
use Rattle.kk_order.specs.Order.{Cause, IsRefusedFor, Order, order_of}
use Rattle.kk_order.specs.Refuses.{refused_text, status_of}
use Rattle.kk_order.proofs.Refusals.{refusal_status, words_accepted, words_refused}
use Rattle.kk_run_pack.specs.Pack.{NamesTicket, frames_line, pack_form, Packs, refusal_of}
use Rattle.kk_run_pack.proofs.Asking.{named_once, only_memory, refused_alone}
use Rattle.kk_report.proofs.Statuses.{IsStatusOf, not_through, once_or_through, once_not_four, through_told, sinks_failed}

-- a run that was refused while it read neither ended at once nor ran through
once_or_late : (status : ℕ) → IsRefusalOfWords status → (status ≡ 4) ⊎ (status ≡ 9) → ⊥
once_or_late status once late = grind arith

late_or_through : (status : ℕ) → (status ≡ 4) ⊎ (status ≡ 9) → RanThrough status → ⊥
late_or_through status late touched = grind arith

-- the words or the ticket were refused, or there was no memory
pub packs_refused : (words : List (List ℕ)) (cause : Cause) (status : ℕ) (source : SourceTold) (file : SinkTold) (report : Change SinkTold)
    → IsRefusedFor (order_of pack_form words) cause → status ≡ status_of cause → WasGiven (refused_text cause) report
    → Packs words (change source source) (change file file) report status
packs_refused words cause status source file report why is given =
    let once = refusal_status cause status is in
    let refusals = words_refused (order_of pack_form words) cause status report why is given in
    let eight : (order : Order) → order_of pack_form words ≡ Ok order → status ≡ 8 = λ order ordered. only_memory (order_of pack_form words) order cause status ordered why is in
    record {
      refusals = refusals;
      input_fault = λ can. (λ four. absurd (once_not_four status once four), λ rose. absurd (omega (arith, rose)));
      wrong_length = λ order ordered other. absurd (other (eight order ordered));
      output_fault = λ can can_report touched. absurd (once_or_through status once touched);
      no_other_status = refused_alone words status report refusals once;
      read_to_length = λ order ordered other. absurd (other (eight order ordered));
      failed_within_length = λ order ordered four. absurd (once_not_four status once four);
      remainder = λ order ordered other. absurd (other (eight order ordered));
      written = λ order ordered touched. absurd (once_or_through status once touched);
      source_refused = λ late. absurd (once_or_late status once late);
      reported = λ order ordered touched. absurd (once_or_through status once touched);
    }

-- a read failed
pub packs_failed : (words : List (List ℕ)) (t : TicketFields) (status : ℕ) (source : Change SourceTold) (file : SinkTold) (report : Change SinkTold)
    → NamesTicket words t → status ≡ 4 → (CanCount source.old.faults → SourceFailed source) → FailsWithinLength t.length source → WasGiven (refusal_text Input) report
    → Packs words source (change file file) report status
packs_failed words t status source file report named is rose before given =
    let accepted : IsRefusalOfWords status → ⊥ = λ once. once_or_late status once (inl is) in
    record {
      refusals = words_accepted (order_of pack_form words) named.order status report named.ordered accepted;
      input_fault = λ can. (λ _. rose can, λ _. is);
      wrong_length = λ order ordered _ four. absurd (four is);
      output_fault = λ can can_report touched. absurd (not_through 4 status refl is touched);
      no_other_status = inr (inr (inl is));
      read_to_length = λ order ordered _ four. absurd (four is);
      failed_within_length = λ order ordered _. named_once words (λ (u : TicketFields). FailsWithinLength u.length source) t order named ordered before;
      remainder = λ order ordered _ four. absurd (four is);
      written = λ order ordered touched. absurd (not_through 4 status refl is touched);
      source_refused = λ _. record {
        order = named.order;
        ordered = named.ordered;
        fault = file_fault.Read;
        wrong = subst (λ (u : TicketFields). FailsWithinLength u.length source) named.ticket before;
        refused = record { tells = is; given = given };
      };
      reported = λ order ordered touched. absurd (not_through 4 status refl is touched);
    }

-- the source has another number of bytes
pub packs_wrong_length : (words : List (List ℕ)) (t : TicketFields) (got : ℕ) (more : Bool) (status : ℕ) (source : Change SourceTold) (file : SinkTold) (report : Change SinkTold)
    → NamesTicket words t → status ≡ 9 → (CanCount source.old.faults → SourceFailed source → ⊥) → ReadsToLength t.length source
    → IfSome source.old.left (λ bytes. LeavesAfterLength t.length bytes source)
    → wrong_length t.length (length (bytes_read source)) ≡ Some (got, more) → WasGiven (refusal_text (Length got more)) report
    → Packs words source (change file file) report status
packs_wrong_length words t got more status source file report named is kept read left wrong given =
    let other_length : length (bytes_read source) ≡ t.length → ⊥ = λ same. false≢true (ap is_some (sym (right-told t.length (length (bytes_read source)) same) ∙ wrong)) in
    let accepted : IsRefusalOfWords status → ⊥ = λ once. once_or_late status once (inr is) in
    record {
      refusals = words_accepted (order_of pack_form words) named.order status report named.ordered accepted;
      input_fault = λ can. (λ e. absurd (omega (arith, e, is)), λ rose. absurd (kept can rose));
      wrong_length = λ order ordered _ _. (λ _. named_once words (λ (u : TicketFields). length (bytes_read source) ≡ u.length → ⊥) t order named ordered other_length, λ _. is);
      output_fault = λ can can_report touched. absurd (not_through 9 status refl is touched);
      no_other_status = inr (inr (inr (inr (inl is))));
      read_to_length = λ order ordered _ _. named_once words (λ (u : TicketFields). ReadsToLength u.length source) t order named ordered read;
      failed_within_length = λ order ordered four. absurd (omega (arith, four, is));
      remainder = λ order ordered _ _. named_once words (λ (u : TicketFields). IfSome source.old.left (λ bytes. LeavesAfterLength u.length bytes source)) t order named ordered left;
      written = λ order ordered touched. absurd (not_through 9 status refl is touched);
      source_refused = λ _. record {
        order = named.order;
        ordered = named.ordered;
        fault = file_fault.Length got more;
        wrong = subst (λ (u : TicketFields). ReadsToLength u.length source × (wrong_length u.length (length (bytes_read source)) ≡ Some (got, more))) named.ticket (read, wrong);
        refused = record { tells = is; given = given };
      };
      reported = λ order ordered touched. absurd (not_through 9 status refl is touched);
    }

-- the capture went out
pub packs_done : (words : List (List ℕ)) (t : TicketFields) (told status : ℕ) (source : Change SourceTold) (file report : Change SinkTold)
    → NamesTicket words t → (CanCount source.old.faults → SourceFailed source → ⊥) → ReadsToLength t.length source
    → IfSome source.old.left (λ bytes. LeavesAfterLength t.length bytes source) → length (bytes_read source) ≡ t.length
    → RanThrough told → (CanCount file.old.faults → (told ≡ 5) ↔ SinkFailed file) → WasGiven (packed t (bytes_read source)) file
    → WasGiven (concluded_text told (frames_line t (bytes_read source))) report → IsStatusOf told status → (CanCount report.old.faults → told ≡ 0 → (status ≡ 5) ↔ SinkFailed report)
    → Packs words source file report status
packs_done words t told status source file report named kept read left whole tells five written given same report_five =
    let touched = through_told told status tells same in
    record {
      refusals = words_accepted (order_of pack_form words) named.order status report named.ordered (λ once. once_or_through status once touched);
      input_fault = λ can. (λ e. absurd (not_through 4 status refl e touched), λ rose. absurd (kept can rose));
      wrong_length = λ order ordered _ _. (
        λ e. absurd (not_through 9 status refl e touched),
        λ wrong. absurd (wrong (named_once words (λ (u : TicketFields). length (bytes_read source) ≡ u.length) t order named ordered whole)),
      );
      output_fault = λ can can_report _. sinks_failed told status file report tells same five report_five can can_report;
      no_other_status = inr (inr (inr (inr (inr touched))));
      read_to_length = λ order ordered _ _. named_once words (λ (u : TicketFields). ReadsToLength u.length source) t order named ordered read;
      failed_within_length = λ order ordered e. absurd (not_through 4 status refl e touched);
      remainder = λ order ordered _ _. named_once words (λ (u : TicketFields). IfSome source.old.left (λ bytes. LeavesAfterLength u.length bytes source)) t order named ordered left;
      written = λ order ordered _. named_once words (λ u. WasGiven (packed u (bytes_read source)) file) t order named ordered written;
      source_refused = λ late. absurd (late_or_through status late touched);
      reported = λ order ordered _. named_once words (λ u. IsConcluded (frames_line u (bytes_read source)) status file report) t order named ordered (record { told = told; same_or_five = same; five = five; given = given });
    }

-- ---- by what the reading of the file answers

-- what reading a file of `len` bytes says of its answer
pub record IsReading (len : ℕ) (source : Change SourceTold) (result : Result (Unit {0}) FileFault) : Type 0 where
  pub wrong : (got : ℕ) (more : Bool) → (result ≡ Err file_fault.Read → ⊥) → ((result ≡ Err (file_fault.Length got more)) ↔ (wrong_length len (length (bytes_read source)) ≡ Some (got, more)))
  pub failed : CanCount source.old.faults → ((result ≡ Err file_fault.Read) ↔ SourceFailed source)
  pub read : (result ≡ Err file_fault.Read → ⊥) → ReadsToLength len source
  pub before : result ≡ Err file_fault.Read → FailsWithinLength len source
  pub left : (result ≡ Err file_fault.Read → ⊥) → IfSome source.old.left (λ bytes. LeavesAfterLength len bytes source)

not_read : (got : ℕ) (more : Bool) → ◌≡◌ {A = Result (Unit {0}) FileFault} (Err (file_fault.Length got more)) (Err file_fault.Read) → ⊥
not_read got more e = cc

-- the file wasn't read
pub packs_unread : (words : List (List ℕ)) (t : TicketFields) (len : ℕ) (fault : FileFault) (status : ℕ) (source : Change SourceTold) (file : SinkTold) (report : Change SinkTold)
    → NamesTicket words t → len ≡ t.length → IsReading len source (Err fault) → status ≡ refusal_status_of (refusal_of fault) → WasGiven (refusal_text (refusal_of fault)) report
    → Packs words source (change file file) report status
packs_unread words t len file_fault.Read status source file report named same reading is given =
    packs_failed words t status source file report named is (λ can. (reading.failed can).0 refl) (subst (λ n. FailsWithinLength n source) same (reading.before refl)) given
packs_unread words t len (file_fault.Length got more) status source file report named same reading is given =
    let other = not_read got more in
    packs_wrong_length words t got more status source file report named is (λ can rose. other ((reading.failed can).1 rose)) (subst (λ n. ReadsToLength n source) same (reading.read other))
    (subst (λ n. IfSome source.old.left (λ bytes. LeavesAfterLength n bytes source)) same (reading.left other))
    (subst (λ n. wrong_length n (length (bytes_read source)) ≡ Some (got, more)) same ((reading.wrong got more other).0 refl)) given

pub was_read : ◌≡◌ {A = Result (Unit {0}) FileFault} (Ok tt) (Err file_fault.Read) → ⊥
was_read e = cc

-- a run that went by an order doesn't end with the status of a refusal of its words
pub unread_alone : (fault : FileFault) (status : ℕ) → status ≡ refusal_status_of (refusal_of fault) → IsRefusalOfWords status → ⊥
unread_alone file_fault.Read status is once = once_or_late status once (inl is)
unread_alone (file_fault.Length got more) status is once = once_or_late status once (inr is)

touches : (told : Status) → (told ≡ Done) ⊎ (told ≡ OutputFault) → RanThrough (code_of told)
touches told (inl done) = inl (ap code_of done)
touches told (inr fault) = inr (ap code_of fault)

pub read_alone : (told : Status) (status : ℕ) → (told ≡ Done) ⊎ (told ≡ OutputFault) → IsStatusOf (code_of told) status → IsRefusalOfWords status → ⊥
read_alone told status tells same once = once_or_through status once (through_told (code_of told) status (touches told tells) same)

-- it was read, and its capture went to the file's sink
pub packs_read : (words : List (List ℕ)) (t : TicketFields) (len : ℕ) (told : Status) (status : ℕ) (bytes : List ℕ) (source : Change SourceTold) (file report : Change SinkTold)
    → NamesTicket words t → len ≡ t.length → IsReading len source (Ok tt) → length (bytes_read source) ≡ len → bytes ≡ bytes_read source
    → (told ≡ Done) ⊎ (told ≡ OutputFault) → (CanCount file.old.faults → (told ≡ OutputFault) ↔ SinkFailed file) → WasGiven (packed t bytes) file
    → WasGiven (concluded_text (code_of told) (frames_line t bytes)) report → IsStatusOf (code_of told) status → (CanCount report.old.faults → code_of told ≡ 0 → (status ≡ 5) ↔ SinkFailed report)
    → Packs words source file report status
packs_read words t len told status bytes source file report named same reading whole are tells five written given outcome report_five =
    packs_done words t (code_of told) status source file report named (λ can rose. was_read ((reading.failed can).1 rose)) (subst (λ n. ReadsToLength n source) same (reading.read was_read))
    (subst (λ n. IfSome source.old.left (λ bytes. LeavesAfterLength n bytes source)) same (reading.left was_read)) (whole ∙ same)
    (touches told tells) (λ can. five_is told file tells (five can)) (subst (λ b. WasGiven (packed t b) file) are written)
    (subst (λ b. WasGiven (concluded_text (code_of told) (frames_line t b)) report) are given) outcome report_five
  where
    five_is : (s : Status) (sink : Change SinkTold) → (s ≡ Done) ⊎ (s ≡ OutputFault) → (s ≡ OutputFault) ↔ SinkFailed sink → (code_of s ≡ 5) ↔ SinkFailed sink
    five_is s sink (inl done) h = (λ e. absurd (omega (arith, e, ap code_of done)), λ rose. ap code_of (h.1 rose))
    five_is s sink (inr fault) h = (λ _. h.0 fault, λ _. ap code_of fault)
