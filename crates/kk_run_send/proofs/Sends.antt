-- What `send` promises, at each of its ends.
use Rattle.std.proofs.Common.{◌≡◌, inl, inr, ℕ, ◌+◌, ◌++◌, Bool, true, false, ltb, eqb, List, length, Option, Some, Result, Ok, Err, codes, refl, ap, sym, subst, ◌∙◌, arith}
use Rattle.std.specs.Prelude.{◌↔◌, IfSome, is_some}
use Rattle.std.specs.Fmt.{decimal}
use Rattle.std.proofs.lemmas.Bool.{false≢true, eqb-true}
use Rattle.kk_outside.specs.Causes.{CanCount}
use Rattle.kk_outside.specs.Change.{Change, change}
use Rattle.rand_core.specs.Steps.{stream_of, steps_u32}
use Rattle.rand_chacha.specs.ChaCha.{ChaCha, of_seed, next_word}
use Rattle.kk_outside.specs.Generator.{word_at}
use Rattle.kk_outside.specs.Source.{SourceTold, SourceFailed, bytes_read}
use Rattle.kk_outside.specs.Sink.{SinkTold, SinkFailed, WasGiven}
use Rattle.kk_outside.specs.Outlet.{OutletTold, OutletFailed, IsCutShort, append_datagrams}
use Rattle.kk_code.specs.Ticket.{TicketFields, generations}
use Rattle.kk_sender.specs.declared.send.Sent.{Sent}
use Rattle.kk_sender.specs.declared.fault.SendFault.{SendFault}
use Rattle.kk_sender.specs.declared.fault.SendFault.TheVariants as fault
use Rattle.kk_sender.specs.LengthRule.{wrong_length, ReadsToLength, FailsWithinLength, LeavesAfterLength}
use Rattle.kk_sender.specs.SentFrames.{sent_rows, data_frames, sent_datagrams}
use Rattle.kk_sender.proofs.Lengths.{right-told}
use Rattle.kk_report.specs.declared.refusal.Refusal.TheVariants.{Input, Length, Outlet}
use Rattle.kk_report.specs.Command.{IsRefusalOfWords}
use Rattle.kk_report.specs.Refusal.{refusal_text, status_of as refusal_status_of}
use Rattle.kk_report.specs.Report.{concluded_text}
use Rattle.kk_report.proofs.Statuses.{IsStatusOf, not_through, once_not_four, once_or_through, through_told}
use Rattle.kk_order.specs.Order.{Cause, IsRefusedFor, Order, order_of}
use Rattle.kk_order.specs.Refuses.{refused_text, status_of}
use Rattle.kk_order.specs.Seed.{words_of}
use Rattle.kk_order.proofs.Refusals.{refusal_status, same_order, words_accepted, words_refused}
use Rattle.kk_run_send.specs.Send.{AsksFor, Sending, send_form, sending_of, combinations, datagram_frames, ordered_datagrams, ordered_frames, sent_line, Sends, refusal_of}

-- what is said of one order in the words is said of each
by_order : (words : List (List ℕ)) (P : Order → Type 0) (a b : Order) → order_of send_form words ≡ Ok a → order_of send_form words ≡ Ok b → P a → P b
by_order words P a b one other h = subst P (same_order (order_of send_form words) a b one other) h

-- ---- refused at once

once_not_seven : (status : ℕ) → IsRefusalOfWords status → status ≡ 7 → ⊥
once_not_seven status once seven = grind arith

-- the words are refused, or there is no memory
pub sends_refused : (words : List (List ℕ)) (cause : Cause) (status : ℕ) (source : SourceTold) (outlet : OutletTold) (report : Change SinkTold)
    → IsRefusedFor (order_of send_form words) cause → status ≡ status_of cause → WasGiven (refused_text cause) report
    → Sends words (change source source) report (change outlet outlet) status
sends_refused words cause status source outlet report why is given =
    let once = refusal_status cause status is in
    record {
      refusals = words_refused (order_of send_form words) cause status report why is given;
      input_fault = λ can. (λ four. absurd (once_not_four status once four), λ rose. absurd (omega (arith, rose)));
      wrong_length = λ order by. absurd (by.accepted once);
      outlet_fault = λ can. (λ seven. absurd (once_not_seven status once seven), λ rose. absurd (omega (arith, rose)));
      output_fault = λ can through. absurd (once_or_through status once through);
      no_other_status = inl once;
      read_to_length = λ order by. absurd (by.accepted once);
      failed_within_length = λ order by. absurd (by.accepted once);
      remainder = λ order by. absurd (by.accepted once);
      sent = λ order by. absurd (by.accepted once);
      prefix = λ order by. absurd (by.accepted once);
      refused = λ accepted. absurd (accepted once);
      reported = λ order by. absurd (by.accepted once);
    }

-- ---- by what `send_all` answers

-- what sending under a ticket says of its answer, where this list is sent of the bytes that were read
pub record IsSending (t : TicketFields) (list : List (List ℕ)) (source : Change SourceTold) (outlet : Change OutletTold) (result : Result Sent SendFault) : Type 0 where
  pub wrong : (got : ℕ) (more : Bool) → (result ≡ Err fault.Read → ⊥)
      → ((result ≡ Err (fault.Length got more)) ↔ (wrong_length t.length (length (bytes_read source)) ≡ Some (got, more)))
  pub source_failed : CanCount source.old.faults → ((result ≡ Err fault.Read) ↔ SourceFailed source)
  pub outlet_failed : CanCount outlet.old.faults → ((result ≡ Err fault.Outlet) ↔ OutletFailed outlet)
  pub read : (result ≡ Err fault.Read → ⊥) → ReadsToLength t.length source
  pub before : result ≡ Err fault.Read → FailsWithinLength t.length source
  pub left : (result ≡ Err fault.Read → ⊥) → IfSome source.old.left (λ bytes. LeavesAfterLength t.length bytes source)
  pub prefix : result ≡ Err fault.Outlet → IsCutShort outlet list

-- what sending by an order says of its answer
abbrev pub IsSendingBy : Order → Change SourceTold → Change OutletTold → Result Sent SendFault → Type 0
IsSendingBy order source outlet result = IsSending order.ticket (ordered_datagrams order (bytes_read source)) source outlet result

-- the answers differ
abbrev Answer : Type 0
Answer = Result Sent SendFault

read_outlet : ◌≡◌ {A = Answer} (Err fault.Read) (Err fault.Outlet) → ⊥
read_outlet e = cc

length_read : (got : ℕ) (more : Bool) → ◌≡◌ {A = Answer} (Err (fault.Length got more)) (Err fault.Read) → ⊥
length_read got more e = cc

length_outlet : (got : ℕ) (more : Bool) → ◌≡◌ {A = Answer} (Err (fault.Length got more)) (Err fault.Outlet) → ⊥
length_outlet got more e = cc

outlet_read : ◌≡◌ {A = Answer} (Err fault.Outlet) (Err fault.Read) → ⊥
outlet_read e = cc

outlet_length : (got : ℕ) (more : Bool) → ◌≡◌ {A = Answer} (Err fault.Outlet) (Err (fault.Length got more)) → ⊥
outlet_length got more e = cc

pub sent_err : (sent : Sent) (f : SendFault) → ◌≡◌ {A = Answer} (Ok sent) (Err f) → ⊥
sent_err sent f e = cc

-- an answer that is no fault of the length comes of a source with the file's length
right_length : (len n : ℕ) → ((got : ℕ) (more : Bool) → wrong_length len n ≡ Some (got, more) → ⊥) → n ≡ len
right_length len n never = go (eqb n len) refl
  where
    go : (b : Bool) → eqb n len ≡ b → n ≡ len
    go true is = eqb-true n len is
    go false is = absurd (never n (ltb len n) (rw is refl))

-- the source failed
sends_unread : (words : List (List ℕ)) (order : Order) (status : ℕ) (source : Change SourceTold) (outlet : Change OutletTold) (report : Change SinkTold)
    → order_of send_form words ≡ Ok order → IsSendingBy order source outlet (Err fault.Read) → status ≡ 4 → WasGiven (refusal_text Input) report → Sends words source report outlet status
sends_unread words order status source outlet report ordered sending is given =
    let before = sending.before refl in
    let once : IsRefusalOfWords status → ⊥ = λ once. once_not_four status once is in
    record {
      refusals = words_accepted (order_of send_form words) order status report ordered once;
      input_fault = λ can. (λ _. (sending.source_failed can).0 refl, λ _. is);
      wrong_length = λ other by four. absurd (four is);
      outlet_fault = λ can. (λ e. absurd (omega (arith, e, is)), λ rose. absurd (read_outlet ((sending.outlet_failed can).1 rose)));
      output_fault = λ can sent. absurd (not_through 4 status refl is sent);
      no_other_status = inr (inl is);
      read_to_length = λ other by four. absurd (four is);
      failed_within_length = λ other by _. by_order words (λ o. FailsWithinLength o.ticket.length source) order other ordered by.ordered before;
      remainder = λ other by four. absurd (four is);
      sent = λ other by sent. absurd (not_through 4 status refl is sent);
      prefix = λ other by seven. absurd (omega (arith, seven, is));
      refused = λ _ _. (order, ordered, (Input, before, record { tells = is; given = given }));
      reported = λ other by sent. absurd (not_through 4 status refl is sent);
    }

once_not_nine : (status : ℕ) → IsRefusalOfWords status → status ≡ 9 → ⊥
once_not_nine status once nine = grind arith

-- the source has another number of bytes
sends_wrong_length : (words : List (List ℕ)) (order : Order) (got : ℕ) (more : Bool) (status : ℕ) (source : Change SourceTold) (outlet : Change OutletTold) (report : Change SinkTold)
    → order_of send_form words ≡ Ok order → IsSendingBy order source outlet (Err (fault.Length got more)) → status ≡ 9 → WasGiven (refusal_text (Length got more)) report → Sends words source report outlet status
sends_wrong_length words order got more status source outlet report ordered sending is given =
    let no_read = length_read got more in
    let wrong = (sending.wrong got more no_read).0 refl in
    let read = sending.read no_read in
    let n = length (bytes_read source) in
    let other_length : n ≡ order.ticket.length → ⊥ = λ same. false≢true (ap is_some (sym (right-told order.ticket.length n same) ∙ wrong)) in
    let once : IsRefusalOfWords status → ⊥ = λ once. once_not_nine status once is in
    record {
      refusals = words_accepted (order_of send_form words) order status report ordered once;
      input_fault = λ can. (λ e. absurd (omega (arith, e, is)), λ rose. absurd (no_read ((sending.source_failed can).1 rose)));
      wrong_length = λ other by _. (λ _. by_order words (λ o. length (bytes_read source) ≡ o.ticket.length → ⊥) order other ordered by.ordered other_length, λ _. is);
      outlet_fault = λ can. (λ e. absurd (omega (arith, e, is)), λ rose. absurd (length_outlet got more ((sending.outlet_failed can).1 rose)));
      output_fault = λ can sent. absurd (not_through 9 status refl is sent);
      no_other_status = inr (inr (inr (inl is)));
      read_to_length = λ other by _. by_order words (λ o. ReadsToLength o.ticket.length source) order other ordered by.ordered read;
      failed_within_length = λ other by four. absurd (omega (arith, four, is));
      remainder = λ other by _. by_order words (λ o. IfSome source.old.left (λ bytes. LeavesAfterLength o.ticket.length bytes source)) order other ordered by.ordered (sending.left no_read);
      sent = λ other by sent. absurd (not_through 9 status refl is sent);
      prefix = λ other by seven. absurd (omega (arith, seven, is));
      refused = λ _ _. (order, ordered, (Length got more, (read, wrong), record { tells = is; given = given }));
      reported = λ other by sent. absurd (not_through 9 status refl is sent);
    }

-- the outlet failed
sends_cut : (words : List (List ℕ)) (order : Order) (status : ℕ) (source : Change SourceTold) (outlet : Change OutletTold) (report : Change SinkTold)
    → order_of send_form words ≡ Ok order → IsSendingBy order source outlet (Err fault.Outlet) → status ≡ 7 → WasGiven (refusal_text Outlet) report → Sends words source report outlet status
sends_cut words order status source outlet report ordered sending is given =
    let whole = right_length order.ticket.length (length (bytes_read source)) (λ got more wrong. outlet_length got more ((sending.wrong got more outlet_read).1 wrong)) in
    let prefix = sending.prefix refl in
    let once : IsRefusalOfWords status → ⊥ = λ once. once_not_seven status once is in
    record {
      refusals = words_accepted (order_of send_form words) order status report ordered once;
      input_fault = λ can. (λ e. absurd (omega (arith, e, is)), λ rose. absurd (outlet_read ((sending.source_failed can).1 rose)));
      wrong_length = λ other by _. (λ e. absurd (omega (arith, e, is)), λ wrong. absurd (wrong (by_order words (λ o. length (bytes_read source) ≡ o.ticket.length) order other ordered by.ordered whole)));
      outlet_fault = λ can. (λ _. (sending.outlet_failed can).0 refl, λ _. is);
      output_fault = λ can sent. absurd (not_through 7 status refl is sent);
      no_other_status = inr (inr (inl is));
      read_to_length = λ other by _. by_order words (λ o. ReadsToLength o.ticket.length source) order other ordered by.ordered (sending.read outlet_read);
      failed_within_length = λ other by four. absurd (omega (arith, four, is));
      remainder = λ other by _. by_order words (λ o. IfSome source.old.left (λ bytes. LeavesAfterLength o.ticket.length bytes source)) order other ordered by.ordered (sending.left outlet_read);
      sent = λ other by sent. absurd (not_through 7 status refl is sent);
      prefix = λ other by _. by_order words (λ o. IsCutShort outlet (ordered_datagrams o (bytes_read source))) order other ordered by.ordered prefix;
      refused = λ _ _. (order, ordered, (Outlet, prefix, record { tells = is; given = given }));
      reported = λ other by sent. absurd (not_through 7 status refl is sent);
    }

-- it wasn't sent, for whichever fault
pub sends_failed : (words : List (List ℕ)) (order : Order) (f : SendFault) (status : ℕ) (source : Change SourceTold) (outlet : Change OutletTold) (report : Change SinkTold)
    → order_of send_form words ≡ Ok order → IsSendingBy order source outlet (Err f) → status ≡ refusal_status_of (refusal_of f) → WasGiven (refusal_text (refusal_of f)) report
    → Sends words source report outlet status
sends_failed words order fault.Read status source outlet report ordered sending is given = sends_unread words order status source outlet report ordered sending is given
sends_failed words order (fault.Length got more) status source outlet report ordered sending is given = sends_wrong_length words order got more status source outlet report ordered sending is given
sends_failed words order fault.Outlet status source outlet report ordered sending is given = sends_cut words order status source outlet report ordered sending is given

-- a run that went by an order doesn't end with the status of a refusal of its words
pub failed_alone : (f : SendFault) (status : ℕ) → status ≡ refusal_status_of (refusal_of f) → IsRefusalOfWords status → ⊥
failed_alone fault.Read status is once = once_not_four status once is
failed_alone (fault.Length got more) status is once = once_not_nine status once is
failed_alone fault.Outlet status is once = once_not_seven status once is

pub done_alone : (status : ℕ) → IsStatusOf 0 status → IsRefusalOfWords status → ⊥
done_alone status same once = once_or_through status once (through_told 0 status (inl refl) same)

-- all was sent
pub sends_done : (words : List (List ℕ)) (order : Order) (sent : Sent) (told status : ℕ) (source : Change SourceTold) (outlet : Change OutletTold) (report : Change SinkTold)
    → order_of send_form words ≡ Ok order → IsSendingBy order source outlet (Ok sent) → outlet.new.sends ≡ append_datagrams outlet.old.sends (ordered_datagrams order (bytes_read source))
    → WasGiven (concluded_text 0 (sent_line order (bytes_read source))) report → told ≡ 0 → IsStatusOf told status → (CanCount report.old.faults → told ≡ 0 → (status ≡ 5) ↔ SinkFailed report)
    → Sends words source report outlet status
sends_done words order sent told status source outlet report ordered sending went given done same five =
    let never = sent_err sent in
    let through = through_told told status (inl done) same in
    let whole = right_length order.ticket.length (length (bytes_read source)) (λ got more wrong. never (fault.Length got more) ((sending.wrong got more (never fault.Read)).1 wrong)) in
    record {
      refusals = words_accepted (order_of send_form words) order status report ordered (λ once. once_or_through status once through);
      input_fault = λ can. (λ e. absurd (not_through 4 status refl e through), λ rose. absurd (never fault.Read ((sending.source_failed can).1 rose)));
      wrong_length = λ other by _. (λ e. absurd (not_through 9 status refl e through), λ wrong. absurd (wrong (by_order words (λ o. length (bytes_read source) ≡ o.ticket.length) order other ordered by.ordered whole)));
      outlet_fault = λ can. (λ e. absurd (not_through 7 status refl e through), λ rose. absurd (never fault.Outlet ((sending.outlet_failed can).1 rose)));
      output_fault = λ can _. five can done;
      no_other_status = inr (inr (inr (inr through)));
      read_to_length = λ other by _. by_order words (λ o. ReadsToLength o.ticket.length source) order other ordered by.ordered (sending.read (never fault.Read));
      failed_within_length = λ other by e. absurd (not_through 4 status refl e through);
      remainder = λ other by _. by_order words (λ o. IfSome source.old.left (λ bytes. LeavesAfterLength o.ticket.length bytes source)) order other ordered by.ordered (sending.left (never fault.Read));
      sent = λ other by _. by_order words (λ o. outlet.new.sends ≡ append_datagrams outlet.old.sends (ordered_datagrams o (bytes_read source))) order other ordered by.ordered went;
      prefix = λ other by e. absurd (not_through 7 status refl e through);
      refused = λ _ unsent. absurd (unsent through);
      reported = λ other by _. by_order words (λ o. WasGiven (concluded_text 0 (sent_line o (bytes_read source))) report) order other ordered by.ordered given;
    }

-- ---- by what is asked for

-- what the order asks for, part by part
pub record Asks (order : Order) (t : TicketFields) (seed : List ℕ) (extra pack : ℕ) : Type 0 where
  pub ticket : t ≡ order.ticket
  pub seeded : Some seed ≡ order.seed
  pub extra_is : extra ≡ combinations order
  pub pack_is : pack ≡ datagram_frames order

-- what a sender goes by, from what its order asks for
pub goes_by : (order : Order) (t : TicketFields) (seed : Option (List ℕ)) (extra pack : ℕ) → t ≡ order.ticket → seed ≡ order.seed → extra ≡ combinations order → pack ≡ datagram_frames order
    → ◌≡◌ {A = Sending} (record { ticket = t; seed = seed; extra = extra; frames_per_datagram = pack }) (sending_of order)
goes_by order t seed extra pack a b c d = λ i. record { ticket = a i; seed = b i; extra = c i; frames_per_datagram = d i }

pub asks_by : (words : List (List ℕ)) (sending : Sending) (asked : AsksFor words sending) (t : TicketFields) (seed : List ℕ) (extra pack : ℕ)
    → ◌≡◌ {A = Sending} (record { ticket = t; seed = Some seed; extra = extra; frames_per_datagram = pack }) sending → Asks asked.order t seed extra pack
asks_by words sending asked t seed extra pack is =
    let own = is ∙ asked.same in
    record {
      ticket = ap (λ (s : Sending). s.ticket) own;
      seeded = ap (λ (s : Sending). s.seed) own;
      extra_is = ap (λ (s : Sending). s.extra) own;
      pack_is = ap (λ (s : Sending). s.frames_per_datagram) own;
    }

pub datagrams_by : (order : Order) (t : TicketFields) (seed : List ℕ) (extra pack : ℕ) (file : List ℕ) (rng : ChaCha) → Asks order t seed extra pack → rng ≡ of_seed seed
    → sent_datagrams t file extra pack (word_at (stream_of (steps_u32 (next_word 10)) rng)) ≡ ordered_datagrams order file
unfolding ordered_datagrams
datagrams_by order t seed extra pack file rng asks is =
    ap (λ (r : ChaCha). sent_datagrams t file extra pack (word_at (stream_of (steps_u32 (next_word 10)) r))) is
    ∙ ap (λ (s : Option (List ℕ)). sent_datagrams t file extra pack (words_of s)) asks.seeded
    ∙ ap (λ (u : TicketFields). sent_datagrams u file extra pack (words_of order.seed)) asks.ticket
    ∙ ap (λ (n : ℕ). sent_datagrams order.ticket file n pack (words_of order.seed)) asks.extra_is
    ∙ ap (λ (n : ℕ). sent_datagrams order.ticket file (combinations order) n (words_of order.seed)) asks.pack_is

pub frames_by : (order : Order) (t : TicketFields) (seed : List ℕ) (extra pack : ℕ) (file : List ℕ) (rng : ChaCha) → Asks order t seed extra pack → rng ≡ of_seed seed
    → length (data_frames (sent_rows t file extra (word_at (stream_of (steps_u32 (next_word 10)) rng))) (generations t)) + 1 ≡ ordered_frames order file
unfolding ordered_frames
frames_by order t seed extra pack file rng asks is =
    ap (λ (r : ChaCha). length (data_frames (sent_rows t file extra (word_at (stream_of (steps_u32 (next_word 10)) r))) (generations t)) + 1) is
    ∙ ap (λ (s : Option (List ℕ)). length (data_frames (sent_rows t file extra (words_of s)) (generations t)) + 1) asks.seeded
    ∙ ap (λ (u : TicketFields). length (data_frames (sent_rows u file extra (words_of order.seed)) (generations u)) + 1) asks.ticket
    ∙ ap (λ (n : ℕ). length (data_frames (sent_rows order.ticket file n (words_of order.seed)) (generations order.ticket)) + 1) asks.extra_is

-- the line of what was sent
pub line_by : (order : Order) (file : List ℕ) (datagrams frames : ℕ) → datagrams ≡ length (ordered_datagrams order file) → frames ≡ ordered_frames order file
    → codes "datagrams " ++ decimal datagrams ++ codes " frames " ++ decimal frames ++ codes "\n" ≡ sent_line order file
line_by order file datagrams frames many some =
    ap (λ (n : ℕ). codes "datagrams " ++ decimal n ++ codes " frames " ++ decimal frames ++ codes "\n") many
    ∙ ap (λ (n : ℕ). codes "datagrams " ++ decimal (length (ordered_datagrams order file)) ++ codes " frames " ++ decimal n ++ codes "\n") some
