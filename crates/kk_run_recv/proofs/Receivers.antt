-- What a receiver with several gates makes of the events of its gates.
use Rattle.std.proofs.Common.{◌≡◌, ◌⊎◌, inl, inr, ℕ, zero, suc, ◌+◌, ◌-◌, ◌*◌, ◌/◌, ◌<◌, ◌≤◌, Bool, true, false, if◌then◌else◌, List, [], ◌∷◌, ◌++◌, length, take, get_or, Option, Some, None, is_some, refl, ap, sym, subst, ◌∙◌, true≢false, arith}
use Rattle.std.specs.Prelude.{◌↔◌, map, All, option_map}
use Rattle.std.proofs.Math.Nat.{div-eq_of_lt}
use Rattle.std.proofs.lemmas.Option.{same_Some}
use Rattle.std.specs.List.{range_with_len}
use Rattle.std.proofs.lemmas.List.{same_lists, length-map, take_more}
use Rattle.std.proofs.lemmas.List.FromFn.{length-map-range_with_len, get_or-map-range_with_len}
use Rattle.kk_rows.specs.Span.{dimension}
use Rattle.kk_rows.specs.Distance.{distance}
use Rattle.kk_rows.proofs.Dimensions.{in_span_innovative}
use Rattle.kk_outside.specs.Causes.{CanCount}
use Rattle.kk_outside.specs.Change.{Change}
use Rattle.kk_outside.specs.Gate.{GateTold, events_told}
use Rattle.kk_outside.specs.Sink.{SinkTold, SinkFailed, WasGiven}
use Rattle.kk_code.specs.Codeword.{codeword}
use Rattle.kk_code.specs.Decoding.{Decodes, answer}
use Rattle.kk_code.specs.Ticket.{TicketFields, generations, message_bits}
use Rattle.kk_code.specs.TicketText.{IsTicket}
use Rattle.kk_code.proofs.Enumeration.{answer-of_message}
use Rattle.kk_assemble.specs.FileBits.{cut, joined, message_bit, number_from}
use Rattle.kk_assemble.specs.Messages.{all_messages}
use Rattle.kk_assemble.proofs.Cuts.{cut_is_message, file_from_answers, message_bits_some}
use Rattle.kk_decode.proofs.Answering.{answer-same_span}
use Rattle.kk_frame.specs.declared.frame.TheConstants.{FRAME_BYTES}
use Rattle.kk_frame.specs.declared.limits.Limits.{Limits}
use Rattle.kk_frame.specs.declared.gate_count.Ended.{Ended}
use Rattle.kk_frame.specs.declared.gate_count.Ended.TheVariants as ended
use Rattle.kk_frame.specs.declared.gate_count.GateCount.{GateCount}
use Rattle.kk_frame.specs.Counting.{no_counts}
use Rattle.kk_frame.specs.Events.{counts, ended_by_fault}
use Rattle.kk_frame.specs.Generation.{rows_of}
use Rattle.kk_machine.specs.declared.log.Log.{Log}
use Rattle.kk_machine.specs.Inserts.{FrozenBy}
use Rattle.kk_machine.specs.Spaces.{unseen}
use Rattle.kk_table.specs.declared.view.Known.{Known}
use Rattle.kk_table.specs.Logs.{LogsView, log_at}
use Rattle.kk_outside.specs.Gate.{GateFailed}
use Rattle.kk_workers.specs.declared.plan.Plan.{Plan}
use Rattle.kk_workers.specs.Laws.{IsTolerable}
use Rattle.kk_workers.specs.Received.{all_taken, ReceivedView, HasOneHistory, AddUp}
use Rattle.kk_workers.proofs.Sent.{frozen_rows_decode}
use Rattle.kk_outcome.proofs.OneBeyond.{one_beyond_is_no_other_file}
use Rattle.kk_outcome.proofs.Outcomes.{ticket_code, map_at, one_each as answered_each, answer_is, answers_are, rank_is, totals_are}
use Rattle.kk_outcome.specs.Answers.{frozen, answers, file_of, file_text, outcomes_of}
use Rattle.kk_report.specs.Command.{RanThrough}
use Rattle.kk_outcome.specs.Delivery.{IsDelivered}
use Rattle.kk_outcome.specs.Laws.{AreOneBeyondAtMost}
use Rattle.kk_run_recv.specs.Receiver.{received, gate_counts, some_fault, SomeFailed, after_gates, report_of, view_report, IsRunOf, IsFileOf, IsReceiver}
use Rattle.kk_run_recv.specs.Report.{logged, logged_outcomes, receiver_report}
use Rattle.kk_report.proofs.Statuses.{IsStatusOf}

-- ---- faults of gates

fault_is : (o : Option Ended) → ended_by_fault o ≡ true → o ≡ Some ended.Fault
fault_is None is = absurd (true≢false (sym is))
fault_is (Some ended.End) is = absurd (true≢false (sym is))
fault_is (Some ended.Idle) is = absurd (true≢false (sym is))
fault_is (Some ended.Most) is = absurd (true≢false (sym is))
fault_is (Some ended.Fault) is = refl
fault_is (Some ended.Over) is = absurd (true≢false (sym is))

-- one of the gates ended by a fault
pub some_fault-at : (gates : List GateCount) (i : ℕ) (c : GateCount) → i < length gates → get_or gates i c ≡ c → ended_by_fault c.ended ≡ true → some_fault gates ≡ true
some_fault-at [] i c near at is = absurd (omega (arith, near))
some_fault-at (x ∷ xs) zero c near at is = let here : ended_by_fault x.ended ≡ true = ap (λ (y : GateCount). ended_by_fault y.ended) at ∙ is in rw here refl
some_fault-at (x ∷ xs) (suc i) c near at is = by_first (ended_by_fault x.ended) (some_fault-at xs i c (omega (arith, near)) at is)
  where
    by_first : (b : Bool) → some_fault xs ≡ true → (if b then true else some_fault xs) ≡ true
    by_first true rest = refl
    by_first false rest = rest

some_fault-push : (xs : List GateCount) (c : GateCount) → some_fault xs ≡ false → ended_by_fault c.ended ≡ false → some_fault (xs ++ c ∷ []) ≡ false
some_fault-push [] c none sound = rw sound refl
some_fault-push (x ∷ xs) c none sound = by_first (ended_by_fault x.ended) none (λ rest. some_fault-push xs c rest sound)
  where
    by_first : (b : Bool) → (if b then true else some_fault xs) ≡ false → (some_fault xs ≡ false → some_fault (xs ++ c ∷ []) ≡ false) → (if b then true else some_fault (xs ++ c ∷ [])) ≡ false
    by_first true rest below = absurd (true≢false rest)
    by_first false rest below = below rest

-- none of the first i + 1 gates did
pub some_fault-more : (gates : List GateCount) (i : ℕ) (c : GateCount) → i < length gates → get_or gates i c ≡ c → ended_by_fault c.ended ≡ false → some_fault (take i gates) ≡ false → some_fault (take (i + 1) gates) ≡ false
some_fault-more gates i c near at sound none =
    ap some_fault (take_more gates i c near ∙ ap (λ (x : GateCount). take i gates ++ x ∷ []) at) ∙ some_fault-push (take i gates) c none sound

-- the counts of a gate rose where it ended by a fault, and only there
some_failed : (f : Change GateTold → GateCount) (gates : List (Change GateTold)) → ((i : ℕ) (d : Change GateTold) → i < length gates → ((f (get_or gates i d)).ended ≡ Some ended.Fault) ↔ GateFailed (get_or gates i d)) → (some_fault (map f gates) ≡ true) ↔ SomeFailed gates
some_failed f [] same = (λ is. absurd (true≢false (sym is)), λ none. absurd none)
some_failed f (g ∷ gs) same =
    let first : ((f g).ended ≡ Some ended.Fault) ↔ GateFailed g = same 0 g (omega arith) in
    let rest : (some_fault (map f gs) ≡ true) ↔ SomeFailed gs = some_failed f gs (λ i d near. same (suc i) d (omega (arith, near))) in
    (forth (ended_by_fault (f g).ended) refl first rest, back (ended_by_fault (f g).ended) refl first rest)
  where
    forth : (b : Bool) → ended_by_fault (f g).ended ≡ b → ((f g).ended ≡ Some ended.Fault) ↔ GateFailed g → (some_fault (map f gs) ≡ true) ↔ SomeFailed gs → (if b then true else some_fault (map f gs)) ≡ true → GateFailed g ⊎ SomeFailed gs
    forth true is first rest e = inl (first.0 (fault_is (f g).ended is))
    forth false is first rest e = inr (rest.0 e)

    back : (b : Bool) → ended_by_fault (f g).ended ≡ b → ((f g).ended ≡ Some ended.Fault) ↔ GateFailed g → (some_fault (map f gs) ≡ true) ↔ SomeFailed gs → GateFailed g ⊎ SomeFailed gs → (if b then true else some_fault (map f gs)) ≡ true
    back true is first rest e = refl
    back false is first rest (inl failed) = absurd (true≢false (sym (ap ended_by_fault (first.1 failed)) ∙ is))
    back false is first rest (inr later) = rest.1 later

-- ---- lists by their places

first_of : {X : Type 0} (xs : List X) (i : ℕ) → i < length xs → X
first_of [] i near = absurd (omega (arith, near))
first_of (x ∷ xs) i near = x

received_is : (t : TicketFields) (limits : Limits) (gates : List (Change GateTold)) → received t limits gates ≡ file_text t (all_taken t limits gates)
unfolding received
received_is t limits gates = refl

-- ---- the run

module _ (t : TicketFields) (plan : Plan) (gates : List (Change GateTold)) (r : ReceivedView) (line : HasOneHistory t plan gates r) (sums : AddUp t plan gates r) where
  abbrev limits : Limits
  limits = plan.limits

  abbrev n : ℕ
  n = generations t

  abbrev vectors : List (ℕ × ℕ)
  vectors = all_taken t limits gates

  abbrev count_of : Change GateTold → GateCount
  count_of gate = counts FRAME_BYTES t limits (events_told gate)

  -- the counts of the gates
  counts_are : r.gates ≡ gate_counts t limits gates
  counts_are = same_lists r.gates (map count_of gates) (line.counted ∙ sym (length-map gates count_of))
      (λ i d near.
      let inside : i < length gates = omega (arith, near, line.counted) in
      let g = first_of gates i inside in
      let k : Known = record { number = 0; note = []; calls = []; seen = []; accesses = 0 } in
      (line.passes i g d k inside).worked.takes.counts ∙ sym (map_at count_of gates i d g inside))

  pub fault_is_told : some_fault r.gates ≡ some_fault (gate_counts t limits gates)
  fault_is_told = ap some_fault counts_are

  pub gate_faults : All (λ gate. CanCount gate.old.faults) gates → (some_fault (gate_counts t limits gates) ≡ true) ↔ SomeFailed gates
  gate_faults can = some_failed count_of gates (λ i d near.
      let p = line.passes i d no_counts no_pass near in
      let same : (get_or r.gates i no_counts).ended ≡ (count_of (get_or gates i d)).ended = ap (λ (c : GateCount). c.ended) p.worked.takes.counts in
      let exact = p.fault (can i d near) in
      (λ e. exact.0 (same ∙ e), λ rose. sym same ∙ exact.1 rose))
    where
      no_pass : Known
      no_pass = record { number = 0; note = []; calls = []; seen = []; accesses = 0 }

  -- the answers are those of the logs
  one_each : length r.answers ≡ n
  one_each = answered_each t plan gates r line sums

  logs_answer : r.answers ≡ map (λ g. answer t.code (log_at r.logs.logs g).rows) (range_with_len 0 n)
  logs_answer =
      let f = λ (g : ℕ). answer t.code (log_at r.logs.logs g).rows in
      same_lists r.answers (map f (range_with_len 0 n)) (one_each ∙ sym (length-map-range_with_len f 0 n))
      (λ g d near.
      let below : g < n = omega (arith, near, one_each) in
      ap (λ (x : List (Option (List ℕ))). get_or x g d) line.answers
      ∙ map_at (λ (l : Log). answer t.code l.rows) r.logs.logs g d unseen (omega (arith, below, line.all_logs))
      ∙ sym (get_or-map-range_with_len f 0 n g g d below (omega arith)))

  told_report : (status : ℕ) → receiver_report status r.gates (logged_outcomes n r.logs.logs r.answers) r.totals ≡ view_report t limits gates r status
  told_report status = ap (λ (cs : List GateCount). receiver_report status cs (logged_outcomes n r.logs.logs r.answers) r.totals) counts_are

  -- ---- what was sent

  module _ (ticket : IsTicket t) (sent : List ℕ) (is : IsFileOf t sent) where
    file_by : ((g : ℕ) → g < n → Decodes t.code (log_at r.logs.logs g).rows (cut t.code sent g)) → file_of t r.answers ≡ Some sent
    file_by decodes =
        ap (file_of t) logs_answer
        ∙ file_from_answers t sent (λ g. answer t.code (log_at r.logs.logs g).rows) ticket.code is.len is.bytes
        (λ g below. answer-of_message t.code (ticket_code t ticket) (log_at r.logs.logs g).rows (cut t.code sent g) (decodes g below))

    pub within_radius : ((g : ℕ) → g < n → distance (codeword t.code (cut t.code sent g)) (log_at r.logs.logs g).rows ≤ t.code.l - t.code.k) → file_of t r.answers ≡ Some sent
    within_radius near = file_by (λ g below. record { message = cut_is_message t.code sent g; within = near g below })

    pub one_beyond : (made : List ℕ) → AreOneBeyondAtMost t sent (λ g. (log_at r.logs.logs g).rows) → file_of t r.answers ≡ Some made → made ≡ sent
    one_beyond made near made_is =
        one_beyond_is_no_other_file t sent made (λ g. (log_at r.logs.logs g).rows) ticket is.len is.bytes near (sym (ap (file_of t) logs_answer) ∙ made_is)

    pub tolerates : (tolerated : ℕ) → plan.goal ≡ Some (t.code.k + 2 * tolerated)
        → ((g : ℕ) → g < n → IsTolerable t.code tolerated (rows_of g vectors) (cut t.code sent g))
        → (file_of t r.answers ≡ Some sent) × (received t limits gates ≡ Some sent)
    tolerates tolerated goal tolerable =
        let code = ticket_code t ticket in
        let both : (g : ℕ) → g < n → Decodes t.code (log_at r.logs.logs g).rows (cut t.code sent g) × Decodes t.code (rows_of g vectors) (cut t.code sent g) =
        λ g below. frozen_rows_decode t.code code tolerated (log_at r.logs.logs g).rows (rows_of g vectors) (cut t.code sent g)
        (subst (FrozenBy (log_at r.logs.logs g).rows (rows_of g vectors)) goal (line.frozen g below)) (tolerable g below) in (
          file_by (λ g below. (both g below).0),
          received_is t limits gates
              ∙ file_from_answers t sent (λ g. answer t.code (frozen vectors g)) ticket.code is.len is.bytes
              (λ g below. answer-same_span t.code (frozen vectors g) (rows_of g vectors) (in_span_innovative (rows_of g vectors))
              ∙ answer-of_message t.code code (rows_of g vectors) (cut t.code sent g) (both g below).1),
        )

  -- ---- with no goal

  module _ (no_goal : plan.goal ≡ None) where
    outcomes_are : logged_outcomes n r.logs.logs r.answers ≡ outcomes_of t vectors
    outcomes_are =
        let f = logged r.logs.logs r.answers in
        let h : ℕ → ℕ × Bool = λ g. (dimension (frozen vectors g), is_some (answer t.code (frozen vectors g))) in
        let at : (g : ℕ) → g < n → f g ≡ h g = λ g below i. (rank_is t plan gates r line sums no_goal g below i, is_some (answer_is t plan gates r line sums no_goal g None below i)) in
        same_lists (map f (range_with_len 0 n)) (map h (range_with_len 0 n)) (length-map-range_with_len f 0 n ∙ sym (length-map-range_with_len h 0 n))
        (λ g d near.
        let below : g < n = omega (arith, near, length-map-range_with_len f 0 n) in
        get_or-map-range_with_len f 0 n g g d below (omega arith)
        ∙ at g below
        ∙ sym (get_or-map-range_with_len h 0 n g g d below (omega arith)))

    pub report_is : (status : ℕ) → view_report t limits gates r status ≡ report_of t limits gates status
    report_is status = λ i. receiver_report status (gate_counts t limits gates) (outcomes_are i) (totals_are t plan gates r line sums no_goal i)

    pub file_is : received t limits gates ≡ file_of t r.answers
    file_is = received_is t limits gates ∙ ap (file_of t) (sym (answers_are t plan gates r line sums no_goal))

-- ---- the status

module _ (made : Option (List ℕ)) (text_of : ℕ → List ℕ) (fault : Bool) (delivered told status : ℕ) (file report : Change SinkTold) (is_delivered : IsDelivered made delivered file) (told_so : told ≡ after_gates delivered fault)
    (same : IsStatusOf told status) (five : CanCount report.old.faults → told ≡ 0 → (status ≡ 5) ↔ SinkFailed report) (given : WasGiven (text_of told) report) where
  three_or_other : (b : Bool) → delivered ≡ 3 → after_gates delivered b ≡ (if b then 6 else 3)
  three_or_other b three = ap (λ (d : ℕ). after_gates d b) three

  other : (b : Bool) → RanThrough delivered → after_gates delivered b ≡ delivered
  other b (inl zero_) = ap (λ (d : ℕ). after_gates d b) zero_ ∙ sym zero_
  other b (inr five_) = ap (λ (d : ℕ). after_gates d b) five_ ∙ sym five_

  -- what is told, by what was delivered and whether a gate failed
  cases : ((delivered ≡ 3) × (fault ≡ true) × (told ≡ 6)) ⊎ (((delivered ≡ 3) × (fault ≡ false) × (told ≡ 3)) ⊎ (RanThrough delivered × (told ≡ delivered)))
  cases = elim is_delivered.no_other [
    | inl three ↦ by_fault fault refl three
    | inr touched ↦ inr (inr (touched, told_so ∙ other fault touched))
  ]
    where
      by_fault : (b : Bool) → fault ≡ b → delivered ≡ 3 → ((delivered ≡ 3) × (fault ≡ true) × (told ≡ 6)) ⊎ (((delivered ≡ 3) × (fault ≡ false) × (told ≡ 3)) ⊎ (RanThrough delivered × (told ≡ delivered)))
      by_fault true is three = inl (three, is, told_so ∙ three_or_other fault three ∙ ap (λ (b : Bool). if b then 6 else 3) is)
      by_fault false is three = inr (inl (three, is, told_so ∙ three_or_other fault three ∙ ap (λ (b : Bool). if b then 6 else 3) is))

  pub is_run : IsRunOf made text_of fault file report status
  is_run = record {
    not_decoded = (λ e. not_decoded_told e cases same, λ h. not_decoded_status h cases same);
    gate_failed = (λ e. gate_failed_told e cases same, λ h. gate_failed_status h cases same);
    output_fault = λ can can_report touched. output can can_report touched cases same;
    no_other_status = statuses cases same;
    written = λ touched. is_delivered.written (touched_back cases same touched);
    reported = record {
      told = told;
      same_or_five = same;
      five = λ can touched. told_five can cases (touched_back cases same touched);
      given = given;
    };
  }
    where
      not_decoded_told : status ≡ 3 → ((delivered ≡ 3) × (fault ≡ true) × (told ≡ 6)) ⊎ (((delivered ≡ 3) × (fault ≡ false) × (told ≡ 3)) ⊎ (RanThrough delivered × (told ≡ delivered))) → IsStatusOf told status → (made ≡ None) × (fault ≡ false)
      not_decoded_told e (inl six) is = let is_six = six.2 in absurd (grind arith)
      not_decoded_told e (inr (inl three)) is = (is_delivered.not_decoded.0 three.0, three.1)
      not_decoded_told e (inr (inr touched)) is = let a = touched.0 in let b = touched.1 in absurd (grind arith)

      not_decoded_status : (made ≡ None) × (fault ≡ false) → ((delivered ≡ 3) × (fault ≡ true) × (told ≡ 6)) ⊎ (((delivered ≡ 3) × (fault ≡ false) × (told ≡ 3)) ⊎ (RanThrough delivered × (told ≡ delivered))) → IsStatusOf told status → status ≡ 3
      not_decoded_status h (inl six) is = absurd (true≢false (sym six.1 ∙ h.1))
      not_decoded_status h (inr (inl three)) is = let is_three = three.2 in grind arith
      not_decoded_status h (inr (inr touched)) is = let d = is_delivered.not_decoded.1 h.0 in let is_touched = touched.0 in absurd (grind arith)

      gate_failed_told : status ≡ 6 → ((delivered ≡ 3) × (fault ≡ true) × (told ≡ 6)) ⊎ (((delivered ≡ 3) × (fault ≡ false) × (told ≡ 3)) ⊎ (RanThrough delivered × (told ≡ delivered))) → IsStatusOf told status → (made ≡ None) × (fault ≡ true)
      gate_failed_told e (inl six) is = (is_delivered.not_decoded.0 six.0, six.1)
      gate_failed_told e (inr (inl three)) is = let is_three = three.2 in absurd (grind arith)
      gate_failed_told e (inr (inr touched)) is = let a = touched.0 in let b = touched.1 in absurd (grind arith)

      gate_failed_status : (made ≡ None) × (fault ≡ true) → ((delivered ≡ 3) × (fault ≡ true) × (told ≡ 6)) ⊎ (((delivered ≡ 3) × (fault ≡ false) × (told ≡ 3)) ⊎ (RanThrough delivered × (told ≡ delivered))) → IsStatusOf told status → status ≡ 6
      gate_failed_status h (inl six) is = let is_six = six.2 in grind arith
      gate_failed_status h (inr (inl three)) is = absurd (true≢false (sym h.1 ∙ three.1))
      gate_failed_status h (inr (inr touched)) is = let d = is_delivered.not_decoded.1 h.0 in let is_touched = touched.0 in absurd (grind arith)

      statuses : ((delivered ≡ 3) × (fault ≡ true) × (told ≡ 6)) ⊎ (((delivered ≡ 3) × (fault ≡ false) × (told ≡ 3)) ⊎ (RanThrough delivered × (told ≡ delivered))) → IsStatusOf told status → (status ≡ 3) ⊎ ((status ≡ 6) ⊎ RanThrough status)
      statuses (inl six) (inl s) = inr (inl (s ∙ six.2))
      statuses (inl six) (inr z) = inr (inr (inr z.1))
      statuses (inr (inl three)) (inl s) = inl (s ∙ three.2)
      statuses (inr (inl three)) (inr z) = inr (inr (inr z.1))
      statuses (inr (inr touched)) (inl s) = inr (inr (subst RanThrough (sym (s ∙ touched.1)) touched.0))
      statuses (inr (inr touched)) (inr z) = inr (inr (inr z.1))

      touched_back : ((delivered ≡ 3) × (fault ≡ true) × (told ≡ 6)) ⊎ (((delivered ≡ 3) × (fault ≡ false) × (told ≡ 3)) ⊎ (RanThrough delivered × (told ≡ delivered))) → IsStatusOf told status → RanThrough status → RanThrough delivered
      touched_back (inl six) is touched = let is_six = six.2 in absurd (grind arith)
      touched_back (inr (inl three)) is touched = let is_three = three.2 in absurd (grind arith)
      touched_back (inr (inr at)) is touched = at.0

      told_five : CanCount file.old.faults → ((delivered ≡ 3) × (fault ≡ true) × (told ≡ 6)) ⊎ (((delivered ≡ 3) × (fault ≡ false) × (told ≡ 3)) ⊎ (RanThrough delivered × (told ≡ delivered))) → RanThrough delivered → (told ≡ 5) ↔ SinkFailed file
      told_five can (inl six) touched = let is_three = six.0 in absurd (grind arith)
      told_five can (inr (inl three)) touched = let is_three = three.0 in absurd (grind arith)
      told_five can (inr (inr at)) touched = let exact = is_delivered.output_fault can touched in (λ e. exact.0 (sym at.1 ∙ e), λ failed. at.1 ∙ exact.1 failed)

      output : CanCount file.old.faults → CanCount report.old.faults → RanThrough status → ((delivered ≡ 3) × (fault ≡ true) × (told ≡ 6)) ⊎ (((delivered ≡ 3) × (fault ≡ false) × (told ≡ 3)) ⊎ (RanThrough delivered × (told ≡ delivered))) → IsStatusOf told status → (status ≡ 5) ↔ (SinkFailed file ⊎ SinkFailed report)
      output can can_report touched (inl six) is = let is_six = six.2 in absurd (grind arith)
      output can can_report touched (inr (inl three)) is = let is_three = three.2 in absurd (grind arith)
      output can can_report touched (inr (inr (inl zero_, at))) is =
          let none : told ≡ 0 = at ∙ zero_ in
          let kept : SinkFailed file → ⊥ = λ failed. let is_five = (is_delivered.output_fault can (inl zero_)).1 failed in omega (arith, zero_, is_five) in
          (λ e. inr ((five can_report none).0 e), λ failed. elim failed [ inl file_failed ↦ absurd (kept file_failed) | inr report_failed ↦ (five can_report none).1 report_failed ])
      output can can_report touched (inr (inr (inr is_five, at))) is =
          let both : told ≡ 5 = at ∙ is_five in
          let end : status ≡ 5 = elim is [ inl s ↦ s ∙ both | inr z ↦ z.1 ] in
          (λ e. inl ((is_delivered.output_fault can (inr is_five)).0 is_five), λ _. end)

-- ---- all together

module _ (t : TicketFields) (plan : Plan) (gates : List (Change GateTold)) (r : ReceivedView) (line : HasOneHistory t plan gates r) (sums : AddUp t plan gates r) (ticket : IsTicket t) where
  pub is_receiver : (delivered told status : ℕ) (file report : Change SinkTold) → IsDelivered (file_of t r.answers) delivered file → told ≡ after_gates delivered (some_fault r.gates)
      → IsStatusOf told status → (CanCount report.old.faults → told ≡ 0 → (status ≡ 5) ↔ SinkFailed report)
      → WasGiven (receiver_report told r.gates (logged_outcomes (generations t) r.logs.logs r.answers) r.totals) report
      → (logs : List LogsView) → logs ≡ r.logs ∷ [] → IsReceiver t plan gates file report logs status
  is_receiver delivered told status file report is_delivered told_is same five given logs kept =
      let fault = some_fault (gate_counts t plan.limits gates) in
      let told_so : told ≡ after_gates delivered fault = told_is ∙ ap (after_gates delivered) (fault_is_told t plan gates r line sums) in
      let given_view = subst (λ text. WasGiven text report) (told_report t plan gates r line sums told) given in
      record {
        view = r;
        kept = kept;
        one_history = line;
        add_up = sums;
        gate_faults = gate_faults t plan gates r line sums;
        run = is_run (file_of t r.answers) (view_report t plan.limits gates r) fault delivered told status file report is_delivered told_so same five given_view;
        one_function = λ no_goal. is_run (received t plan.limits gates) (report_of t plan.limits gates) fault delivered told status file report
            (subst (λ o. IsDelivered o delivered file) (sym (file_is t plan gates r line sums no_goal)) is_delivered) told_so same five
            (subst (λ text. WasGiven text report) (report_is t plan gates r line sums no_goal told) given_view);
        within_radius = λ sent is. within_radius t plan gates r line sums ticket sent is;
        one_beyond = λ sent made is. one_beyond t plan gates r line sums ticket sent is made;
        tolerates = λ tolerated sent goal is. tolerates t plan gates r line sums ticket sent is tolerated goal;
      }

-- ---- a file without bytes

-- a file with no bytes is one of length 0
pub no_length : (t : TicketFields) (found : List (Option (List ℕ))) → file_of t found ≡ Some [] → t.length ≡ 0
no_length t found none = go (all_messages found) none
  where
    go : (o : Option (List (List ℕ))) → option_map (joined t.code t.length) o ≡ Some [] → t.length ≡ 0
    go None e = absurd (true≢false (sym (ap is_some e)))
    go (Some ms) e = sym (length-map-range_with_len (λ i. number_from (message_bit t.code ms) (8 * i) 8) 0 t.length) ∙ ap (λ (x : List ℕ). length x) (same_Some _ _ e)

pub none_received : (t : TicketFields) (limits : Limits) (gates : List (Change GateTold)) → received t limits gates ≡ Some [] → t.length ≡ 0
none_received t limits gates none = no_length t (answers t (all_taken t limits gates)) (sym (received_is t limits gates) ∙ none)

no_boxes : (b : ℕ) → 0 < b → (8 * 0 + (b - 1)) / b ≡ 0
no_boxes b some =
    let below : 8 * 0 + (b - 1) < b = omega (arith, some) in
    div-eq_of_lt below

no_answers : (t : TicketFields) (found : List (Option (List ℕ))) → length found ≡ 0 → t.length ≡ 0 → file_of t found ≡ Some []
unfolding all_messages
no_answers t [] none empty = ap (λ (len : ℕ). Some (joined t.code len [])) empty
no_answers t (x ∷ xs) none empty = absurd (omega (arith, none))

-- a file of length 0 has no generations
pub empty_file : (t : TicketFields) (found : List (Option (List ℕ))) → IsTicket t → length found ≡ generations t → t.length ≡ 0 → file_of t found ≡ Some []
empty_file t found ticket same empty =
    no_answers t found (same ∙ ap (λ (len : ℕ). (8 * len + (message_bits t.code - 1)) / message_bits t.code) empty ∙ no_boxes (message_bits t.code) (message_bits_some t.code ticket.code)) empty
