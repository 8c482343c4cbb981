-- An intake that is given one event more.
use Rattle.std.proofs.Common.{◌≡◌, ℕ, ◌+◌, ◌*◌, ◌≤◌, Bool, true, false, cond, List, [], ◌∷◌, ◌++◌, length, Option, Some, None, is_some, refl, sym, ap, subst, ◌∙◌, arith}
use Rattle.std.specs.Prelude.{◌==◌, is_none, unwrap_or, flat_map}
use Rattle.std.proofs.lemmas.List.{append-nil}
use Rattle.std.proofs.lemmas.Grind.{flat_map-append}
use Rattle.std.proofs.lemmas.Bool.{false≢true}
use Rattle.std.proofs.lemmas.Bool.Decides.{nat_tests}
use Rattle.kk_code.specs.Ticket.{TicketFields}
use Rattle.kk_outside.specs.declared.event.Event.{Event}
use Rattle.kk_outside.specs.declared.event.Event.TheVariants.{Datagram, Quiet, Fault}
use Rattle.kk_frame.specs.declared.datagram.TheConstants.{MAX_DATAGRAM_FRAMES}
use Rattle.kk_frame.specs.declared.frame.TheConstants.{FRAME_BYTES}
use Rattle.kk_frame.specs.declared.limits.Limits.{Limits}
use Rattle.kk_frame.specs.declared.gate_count.Ended.{Ended}
use Rattle.kk_frame.specs.declared.gate_count.Ended.TheVariants as ended
use Rattle.kk_frame.specs.declared.gate_count.GateCount.{GateCount}
use Rattle.kk_frame.specs.declared.gate_count.Refused.{Refused}
use Rattle.kk_frame.specs.declared.received.Received.{Received}
use Rattle.kk_frame.specs.Datagram.{has_datagram_length, has_end, readings, data_frames}
use Rattle.kk_frame.specs.Events.{datagrams, all_readings, counts_over, last_quiets, end_with, stop, taken, counts_so_far, counts}
use Rattle.kk_frame.specs.Counting.{sum_of, IsAtMost, HasReadings}
use Rattle.kk_frame.specs.Intake.{IntakeState, IsIntake, IsAfter, is_running}
use Rattle.kk_frame.specs.Laws.{RunningIntakeGoesOn, EndedIntakeTellsAll}
use Rattle.kk_frame.proofs.Readings.{data_frames-append, IsAtMost-sum}
use Rattle.kk_frame.proofs.Stops.{shortest_prefix-on, shortest_prefix-first, shortest_prefix-push, shortest_prefix-end, shortest_prefix-nil, datagrams-append, end_with-nil, end_with-quiet, end_with-datagram, end_with-fault, counts_over-other, counts_over-datagram, with_datagram, gate_count, same_counts, last_quiets-quiet, last_quiets-datagram}

abbrev test : TicketFields → Limits → List Event → Bool
test t limits prefix = is_some (end_with FRAME_BYTES t limits prefix)

-- the same counts of a gate that has ended so
abbrev pub with_ended : Option Ended → GateCount → GateCount
with_ended end c = record c { ended = end }

not_ended : {A : Type 0} (o : Option A) → is_none o ≡ true → o ≡ None
not_ended None h = refl
not_ended (Some x) h = absurd (false≢true h)

-- what is known of a running intake
pub record IsRunningAfter (t : TicketFields) (es : List Event) (s : IntakeState) : Type 0 where
  pub none : end_with FRAME_BYTES t s.limits es ≡ None
  pub counts : s.counts ≡ counts_over FRAME_BYTES t None es
  pub next : (e : Event) → stop FRAME_BYTES t s.limits (es ++ e ∷ []) ≡ es ++ e ∷ []

pub running_after : (t : TicketFields) (es : List Event) (s : IntakeState) → IsAfter t es s → is_running s ≡ true → IsRunningAfter t es s
running_after t es s h running =
    let whole : counts_so_far FRAME_BYTES t s.limits es ≡ counts_over FRAME_BYTES t (end_with FRAME_BYTES t s.limits es) es = ap (λ prefix. counts_over FRAME_BYTES t (end_with FRAME_BYTES t s.limits prefix) prefix) h.all in
    let are = h.counts ∙ whole in
    let none : end_with FRAME_BYTES t s.limits es ≡ None = sym (ap (λ c. c.ended) are) ∙ not_ended s.counts.ended running in
    record {
      none = none;
      counts = are ∙ ap (λ end. counts_over FRAME_BYTES t end es) none;
      next = λ e. shortest_prefix-push (test t s.limits) es e h.all (ap is_some none);
    }

-- the state after the next event
pub after_next : (t : TicketFields) (es : List Event) (e : Event) (s s' : IntakeState) → IsRunningAfter t es s → s'.limits ≡ s.limits → s'.counts ≡ counts_over FRAME_BYTES t (end_with FRAME_BYTES t s.limits (es ++ e ∷ [])) (es ++ e ∷ []) → (is_running s' ≡ true → s'.quiets ≡ last_quiets (es ++ e ∷ [])) → IsAfter t (es ++ e ∷ []) s'
after_next t es e s s' h limits are quiets =
    let whole = h.next e in
    record {
      all = ap (λ l. stop FRAME_BYTES t l (es ++ e ∷ [])) limits ∙ whole;
      counts =
          are
          ∙ sym (ap (λ prefix. counts_over FRAME_BYTES t (end_with FRAME_BYTES t s.limits prefix) prefix) whole)
          ∙ sym (ap (λ l. counts_so_far FRAME_BYTES t l (es ++ e ∷ [])) limits);
      quiets = quiets;
    }

-- an intake seen by its fields
pub running_at : (s now : IntakeState) → s ≡ now → is_running now ≡ true → is_running s ≡ true
running_at s now e h = subst (λ x. is_running x ≡ true) (sym e) h

pub after_at : (t : TicketFields) (es : List Event) (s now : IntakeState) → s ≡ now → IsAfter t es now → IsAfter t es s
after_at t es s now e h = subst (IsAfter t es) (sym e) h

-- ---- no event

pub after_none : (t : TicketFields) (s : IntakeState) → s.counts ≡ counts_over FRAME_BYTES t None [] → s.quiets ≡ 0 → 1 ≤ s.limits.idle → 1 ≤ s.limits.most → IsAfter t [] s
after_none t s are quiets idle most = record {
  all = shortest_prefix-nil (test t s.limits);
  counts =
      are
      ∙ sym (ap (λ end. counts_over FRAME_BYTES t end []) (end_with-nil FRAME_BYTES t s.limits idle most))
      ∙ sym (ap (λ prefix. counts_over FRAME_BYTES t (end_with FRAME_BYTES t s.limits prefix) prefix) (shortest_prefix-nil (test t s.limits)));
  quiets = λ _. quiets;
}

-- ---- a quiet, a fault, no more events

quiet_next : (t : TicketFields) (es : List Event) (s s' : IntakeState) (end : Option Ended) → IsIntake s → is_running s ≡ true → IsAfter t es s → s'.limits ≡ s.limits → s'.quiets ≡ s.quiets + 1 → cond (s.quiets + 1 == s.limits.idle) (Some ended.Idle) None ≡ end → s'.counts ≡ with_ended end s.counts → IsAfter t (es ++ Quiet ∷ []) s'
quiet_next t es s s' end is running h limits quiets why are =
    let run = running_after t es s h running in
    let ends = end_with-quiet FRAME_BYTES t s.limits es s.counts.datagrams s.quiets (sym (ap (λ c. c.datagrams) run.counts)) (sym (h.quiets running)) (is.fewer_datagrams running) (is.fewer_quiets running) in
    after_next t es Quiet s s' run limits
    (are ∙ ap (with_ended end) run.counts ∙ sym (counts_over-other FRAME_BYTES t end es Quiet refl)
    ∙ sym (ap (λ e. counts_over FRAME_BYTES t e (es ++ Quiet ∷ [])) (ends ∙ why)))
    (λ _. quiets ∙ ap (λ n. n + 1) (h.quiets running) ∙ sym (last_quiets-quiet es))

pub after_idle : (t : TicketFields) (es : List Event) (s s' : IntakeState) → IsIntake s → is_running s ≡ true → IsAfter t es s → s'.limits ≡ s.limits → s'.quiets ≡ s.quiets + 1 → s.quiets + 1 ≡ s.limits.idle → s'.counts ≡ with_ended (Some ended.Idle) s.counts → IsAfter t (es ++ Quiet ∷ []) s'
after_idle t es s s' is running h limits quiets last are =
    let here : (s.quiets + 1 == s.limits.idle) ≡ true = grind (arith, nat_tests) in
    quiet_next t es s s' (Some ended.Idle) is running h limits quiets (rw here refl) are

pub after_quiet : (t : TicketFields) (es : List Event) (s s' : IntakeState) → IsIntake s → is_running s ≡ true → IsAfter t es s → s'.limits ≡ s.limits → s'.quiets ≡ s.quiets + 1 → (s.quiets + 1 ≡ s.limits.idle → ⊥) → s'.counts ≡ s.counts → IsAfter t (es ++ Quiet ∷ []) s'
after_quiet t es s s' is running h limits quiets more are =
    let here : (s.quiets + 1 == s.limits.idle) ≡ false = grind (arith, nat_tests) in
    quiet_next t es s s' None is running h limits quiets (rw here refl) (are ∙ ap (λ end. with_ended end s.counts) (not_ended s.counts.ended running))

ended_runs : {A : Type 0} {x : A} (o : Option A) → o ≡ Some x → is_none o ≡ true → ⊥
ended_runs None is h = absurd (cc)
ended_runs (Some y) is h = false≢true h

pub after_fault : (t : TicketFields) (es : List Event) (s s' : IntakeState) → IsIntake s → is_running s ≡ true → IsAfter t es s → s'.limits ≡ s.limits → s'.counts ≡ with_ended (Some ended.Fault) s.counts → IsAfter t (es ++ Fault ∷ []) s'
after_fault t es s s' is running h limits are =
    let run = running_after t es s h running in
    let end = end_with-fault FRAME_BYTES t s.limits es s.counts.datagrams (sym (ap (λ c. c.datagrams) run.counts)) (is.fewer_datagrams running) is.idle in
    after_next t es Fault s s' run limits
    (are ∙ ap (with_ended (Some ended.Fault)) run.counts ∙ sym (counts_over-other FRAME_BYTES t (Some ended.Fault) es Fault refl)
    ∙ sym (ap (λ e. counts_over FRAME_BYTES t e (es ++ Fault ∷ [])) end))
    (λ on. absurd (ended_runs s'.counts.ended (ap (λ c. c.ended) are) on))

-- ---- a datagram

-- why the gate has ended with a datagram
abbrev pub why : Bool → IntakeState → Option Ended
why end s = cond end (Some ended.End) (cond (s.counts.datagrams + 1 == s.limits.most) (Some ended.Most) None)

pub after_received : (t : TicketFields) (es : List Event) (bytes : List ℕ) (s s' : IntakeState) (r : Received) → IsIntake s → is_running s ≡ true → IsAfter t es s → HasReadings (cond (has_datagram_length FRAME_BYTES bytes) 0 1) (readings FRAME_BYTES t bytes) r → s'.limits ≡ s.limits → s'.quiets ≡ 0 → s'.counts.ended ≡ why r.has_end s → s'.counts.datagrams ≡ s.counts.datagrams + 1 → s'.counts.frames ≡ s.counts.frames + length r.batch → s'.counts.refused ≡ sum_of s.counts.refused r.refused → IsAfter t (es ++ Datagram bytes ∷ []) s'
after_received t es bytes s s' r is running h reads limits quiets end datagrams frames refused =
    let run = running_after t es s h running in
    let e : Option Ended = why (has_end (readings FRAME_BYTES t bytes)) s in
    let ends = end_with-datagram FRAME_BYTES t s.limits es bytes s.counts.datagrams (sym (ap (λ c. c.datagrams) run.counts)) is.idle in
    let are : s'.counts ≡ with_datagram FRAME_BYTES t e s.counts bytes =
    same_counts _ _ _ _ _ _ _ _ (end ∙ ap (λ b. why b s) reads.end) datagrams
    (frames ∙ ap (λ b. s.counts.frames + length b) reads.batch) (refused ∙ ap (sum_of s.counts.refused) reads.refused) in
    let before : with_datagram FRAME_BYTES t e s.counts bytes ≡ with_datagram FRAME_BYTES t e (counts_over FRAME_BYTES t e es) bytes = ap (λ c. with_datagram FRAME_BYTES t e c bytes) run.counts in
    after_next t es (Datagram bytes) s s' run limits
    (are ∙ before ∙ sym (counts_over-datagram FRAME_BYTES t e es bytes) ∙ sym (ap (λ o. counts_over FRAME_BYTES t o (es ++ Datagram bytes ∷ [])) ends))
    (λ _. quiets ∙ sym (last_quiets-datagram es bytes))

-- the state after a datagram, while it ran
runs_on : (end : Bool) (s : IntakeState) → is_none (why end s) ≡ true → s.counts.datagrams + 1 ≡ s.limits.most → ⊥
runs_on true s h e = false≢true h
runs_on false s h e = let here : (s.counts.datagrams + 1 == s.limits.most) ≡ true = grind (arith, nat_tests) in false≢true (rw here at h)

pub intake_received : (s : IntakeState) (end : Bool) (n : ℕ) (o : Option Ended) (r r' : Refused) → IsIntake s → is_running s ≡ true → o ≡ why end s → n ≤ MAX_DATAGRAM_FRAMES → IsAtMost MAX_DATAGRAM_FRAMES r → r' ≡ sum_of s.counts.refused r → IsIntake (record { limits = s.limits; counts = gate_count o (s.counts.datagrams + 1) (s.counts.frames + n) r'; quiets = 0 })
intake_received s end n o r r' is running ends few small refused = record {
  idle = is.idle;
  most = is.most;
  datagrams = omega (arith, is.fewer_datagrams running);
  frames = omega (arith, is.frames, few);
  refused =
      let more : MAX_DATAGRAM_FRAMES * s.counts.datagrams + MAX_DATAGRAM_FRAMES ≡ MAX_DATAGRAM_FRAMES * (s.counts.datagrams + 1) = omega arith in
      rw (refused, ← more) (IsAtMost-sum (MAX_DATAGRAM_FRAMES * s.counts.datagrams) MAX_DATAGRAM_FRAMES s.counts.refused r is.refused small);
  fewer_datagrams = λ h.
      let other = runs_on end s (subst (λ x. is_none x ≡ true) ends h) in
      omega (arith, is.fewer_datagrams running, other);
  fewer_quiets = λ _. is.idle;
}

-- ---- what is taken

-- the frames of the next event come behind those taken before
abbrev pub frames_in : TicketFields → Event → List (ℕ × ℕ)
frames_in t (Datagram bytes) = data_frames (readings FRAME_BYTES t bytes)
frames_in t Quiet = []
frames_in t Fault = []

all_readings-push : (t : TicketFields) (es : List Event) (e : Event) → data_frames (all_readings FRAME_BYTES t (es ++ e ∷ [])) ≡ data_frames (all_readings FRAME_BYTES t es) ++ frames_in t e
all_readings-push t es (Datagram bytes) =
    ap (λ ds. data_frames (flat_map (readings FRAME_BYTES t) ds)) (datagrams-append es (Datagram bytes ∷ []))
    ∙ ap data_frames (flat_map-append (readings FRAME_BYTES t) (datagrams es) (bytes ∷ []) ∙ ap (λ more. all_readings FRAME_BYTES t es ++ more) (append-nil (readings FRAME_BYTES t bytes)))
    ∙ data_frames-append (all_readings FRAME_BYTES t es) (readings FRAME_BYTES t bytes)
all_readings-push t es Quiet = ap (λ ds. data_frames (flat_map (readings FRAME_BYTES t) ds)) (datagrams-append es (Quiet ∷ []) ∙ append-nil (datagrams es)) ∙ sym (append-nil (data_frames (all_readings FRAME_BYTES t es)))
all_readings-push t es Fault = ap (λ ds. data_frames (flat_map (readings FRAME_BYTES t) ds)) (datagrams-append es (Fault ∷ []) ∙ append-nil (datagrams es)) ∙ sym (append-nil (data_frames (all_readings FRAME_BYTES t es)))

pub taken-push : (t : TicketFields) (es : List Event) (e : Event) (s : IntakeState) → IsAfter t es s → is_running s ≡ true → taken FRAME_BYTES t s.limits (es ++ e ∷ []) ≡ taken FRAME_BYTES t s.limits es ++ frames_in t e
taken-push t es e s h running =
    let run = running_after t es s h running in
    ap (λ prefix. data_frames (all_readings FRAME_BYTES t prefix)) (run.next e) ∙ all_readings-push t es e
    ∙ sym (ap (λ prefix. data_frames (all_readings FRAME_BYTES t prefix) ++ frames_in t e) h.all)

pub running_goes_on : RunningIntakeGoesOn
running_goes_on t es next more s h running =
    let run = running_after t es s h running in
    let none : test t s.limits es ≡ false = ap is_some run.none in
    let on = shortest_prefix-first (λ prefix. test t s.limits (es ++ prefix)) next more (ap (test t s.limits) (append-nil es) ∙ none) in (
      _,
      shortest_prefix-on (test t s.limits) es (next ∷ more) h.all none ∙ ap (λ l. es ++ l) on,
    )

pub ended_tells_all : EndedIntakeTellsAll
ended_tells_all t es more s end h is =
    let whole : stop FRAME_BYTES t s.limits (es ++ more) ≡ es = shortest_prefix-end (test t s.limits) es more h.all (ap is_some why_ended) in
    let all : List Event → Option Ended = λ prefix. Some (unwrap_or (end_with FRAME_BYTES t s.limits prefix) ended.Over) in (
      whole,
      are ∙ ap (λ o. counts_over FRAME_BYTES t o es) (why_ended ∙ sym (ap (λ o. Some (unwrap_or o ended.Over)) why_ended))
          ∙ sym (ap (λ prefix. counts_over FRAME_BYTES t (all prefix) prefix) whole),
      ap (λ prefix. data_frames (all_readings FRAME_BYTES t prefix)) (h.all ∙ sym whole),
    )
  where
    are : s.counts ≡ counts_over FRAME_BYTES t (end_with FRAME_BYTES t s.limits es) es
    are = h.counts ∙ ap (λ prefix. counts_over FRAME_BYTES t (end_with FRAME_BYTES t s.limits prefix) prefix) h.all

    why_ended : end_with FRAME_BYTES t s.limits es ≡ Some end
    why_ended = sym (ap (λ c. c.ended) are) ∙ is

some_end : (o : Option Ended) → is_none o ≡ false → (end : Ended) × (o ≡ Some end)
some_end None h = absurd (false≢true (sym h))
some_end (Some end) h = (end, refl)

-- an intake that an event has ended tells the counts of the gate
pub ended_tells : (t : TicketFields) (es : List Event) (s : IntakeState) → IsAfter t es s → is_running s ≡ false → s.counts ≡ counts FRAME_BYTES t s.limits es
ended_tells t es s h over =
    let end = some_end s.counts.ended over in
    (ended_tells_all t es [] s end.0 h end.1).1 ∙ ap (counts FRAME_BYTES t s.limits) (append-nil es)

-- and the gate stops there
pub ended_stops : (t : TicketFields) (es more : List Event) (s : IntakeState) → IsAfter t es s → is_running s ≡ false → stop FRAME_BYTES t s.limits (es ++ more) ≡ es
ended_stops t es more s h over = let end = some_end s.counts.ended over in (ended_tells_all t es more s end.0 h end.1).0

pub taken-none : (size : ℕ) (t : TicketFields) (limits : Limits) → taken size t limits [] ≡ []
unfolding data_frames
taken-none size t limits = ap (λ prefix. data_frames (all_readings size t prefix)) (shortest_prefix-nil (λ prefix. is_some (end_with size t limits prefix)))
