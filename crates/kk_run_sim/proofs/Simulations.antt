-- What a receiver makes of the gates of a trial, and the summary of that.
use Rattle.std.proofs.Common.{◌≡◌, ◌⊎◌, inl, inr, ℕ, zero, suc, ◌+◌, ◌-◌, ◌*◌, ◌<◌, ◌≤◌, Bool, true, false, if◌then◌else◌, List, [], ◌∷◌, ◌++◌, length, map, get_or, Option, Some, None, is_some, refl, ap, sym, subst, ◌∙◌, arith}
use Rattle.std.specs.Prelude.{◌↔◌, sum_by, flat_map}
use Rattle.std.specs.List.{count_by, range_with_len}
use Rattle.std.specs.Str.{bytes_eq}
use Rattle.std.proofs.Math.Nat.{suc-mul}
use Rattle.std.proofs.lemmas.Bool.{false≢true}
use Rattle.std.proofs.lemmas.List.{same_lists, length-map}
use Rattle.std.proofs.lemmas.List.FromFn.{length-map-range_with_len, get_or-map-range_with_len, sum_by-map-range_with_len_more}
use Rattle.std.proofs.lemmas.List.Sorted.{length_permutation}
use Rattle.std.proofs.lemmas.List.Sums.{sum-map, sum_by-cons}
use Rattle.std.proofs.lemmas.Slice.Eq.{bytes_eq-Decides}
use Rattle.kk_rows.specs.Span.{dimension, HaveSameSpan}
use Rattle.kk_rows.proofs.Dimensions.{in_span_innovative}
use Rattle.kk_rows.proofs.Spans.{same_span_members, HaveSameSpan-from_members}
use Rattle.kk_outside.specs.Causes.{CanCount}
use Rattle.kk_outside.specs.Change.{Change, change}
use Rattle.kk_outside.specs.Gate.{GateTold, events_told}
use Rattle.kk_outside.specs.GateState.{GateState, told, unasked}
use Rattle.kk_outside.specs.Sink.{SinkTold, SinkFailed, WasGiven}
use Rattle.kk_outside.specs.declared.event.Event.{Event}
use Rattle.kk_code.specs.Decoding.{answer}
use Rattle.kk_code.specs.Ticket.{TicketFields, generations}
use Rattle.kk_code.specs.TicketText.{IsTicket}
use Rattle.kk_assemble.specs.FileBits.{cut}
use Rattle.kk_assemble.proofs.Cuts.{file_from_answers}
use Rattle.kk_code.proofs.Enumeration.{answer_is_the_message as its_answer}
use Rattle.kk_decode.proofs.Answering.{answer-same_span}
use Rattle.kk_decode.proofs.Losses.{distance_is_the_loss}
use Rattle.kk_frame.specs.declared.frame.TheConstants.{FRAME_BYTES}
use Rattle.kk_frame.specs.Counting.{no_counts}
use Rattle.kk_frame.specs.Events.{stop, taken}
use Rattle.kk_frame.specs.Generation.{rows_of}
use Rattle.kk_table.specs.declared.view.Known.{Known}
use Rattle.kk_table.specs.Logs.{LogsView}
use Rattle.kk_trial.specs.declared.operator_channel.OperatorChannel.{OperatorChannel}
use Rattle.kk_trial.specs.Trial.{made_file, received_rows, trial_frames, dealt, all_dealt, trial_events, trial_gates}
use Rattle.kk_trial.specs.Laws.{IsPossible, GiveAllFrames}
use Rattle.kk_trial.proofs.Files.{made_file_has_its_length}
use Rattle.kk_trial.proofs.Frames.{dealing_is_a_permutation, dealing_keeps_rows, trial_frames_are_frames}
use Rattle.kk_trial.proofs.Gates.{trial_gates_give_all}
use Rattle.kk_trial.proofs.Rows.{trial_decodes_within_radius, received_rows_have_the_loss}
use Rattle.kk_workers.specs.declared.totals.Totals.{Totals}
use Rattle.kk_workers.specs.Received.{changes, all_taken, ReceivedView, HasOneHistory, AddUp}
use Rattle.kk_run_sim.specs.declared.simulation.Fate.{Fate}
use Rattle.kk_run_sim.specs.declared.simulation.Fate.TheVariants.{Missing, Different, Equal}
use Rattle.kk_outcome.specs.Answers.{frozen, file_of}
use Rattle.kk_report.specs.Command.{RanThrough}
use Rattle.kk_report.specs.Report.{concluded_text, status_line}
use Rattle.kk_outcome.specs.Outcome.{unfrozen_totals}
use Rattle.kk_run_sim.specs.Simulation.{answers_after, file_after, rows_after, totals_after, fate_of, fate_after, status_of_fate, summary, summary_of, equal_summary, trial_plan, GaveAll, IsSimulation}
use Rattle.kk_outcome.proofs.Outcomes.{ticket_code}
use Rattle.kk_outcome.proofs.Outcomes.{answers_are, totals_are}
use Rattle.kk_report.proofs.Statuses.{IsStatusOf, at_three, decoded_or_through, told_through, through_told}

-- ---- lists

map_below : {X : Type 0} (f h : ℕ → X) (n : ℕ) → ((g : ℕ) → g < n → f g ≡ h g) → map f (range_with_len 0 n) ≡ map h (range_with_len 0 n)
map_below f h n same =
    same_lists (map f (range_with_len 0 n)) (map h (range_with_len 0 n)) (length-map-range_with_len f 0 n ∙ sym (length-map-range_with_len h 0 n))
    (λ g d near.
    let below : g < n = omega (arith, near, length-map-range_with_len f 0 n) in
    get_or-map-range_with_len f 0 n g g d below (omega arith) ∙ same g below ∙ sym (get_or-map-range_with_len h 0 n g g d below (omega arith)))

-- the sum of n equal numbers
sum_equal : (c n : ℕ) → sum_by (λ k. k) (map (λ g. c) (range_with_len 0 n)) ≡ n * c
sum_equal c zero = omega arith
sum_equal c (suc n) =
    let more : suc n ≡ n + 1 = omega arith in
    ap (λ (m : ℕ). sum_by (λ k. k) (map (λ (g : ℕ). c) (range_with_len 0 m))) more
    ∙ sum_by-map-range_with_len_more (λ k. k) (λ (g : ℕ). c) 0 n n (omega arith)
    ∙ ap (λ (s : ℕ). s + c) (sum_equal c n)
    ∙ sym (suc-mul n c)

sum_below : (f : ℕ → ℕ) (c n : ℕ) → ((g : ℕ) → g < n → f g ≡ c) → sum_by f (range_with_len 0 n) ≡ n * c
sum_below f c n same = sym (sum-map f (range_with_len 0 n)) ∙ ap (sum_by (λ k. k)) (map_below f (λ g. c) n same) ∙ sum_equal c n

-- all of a list are some
count_some : {X : Type 0} (h : ℕ → X) (xs : List ℕ) → count_by is_some (map (λ g. Some (h g)) xs) ≡ length xs
count_some h [] = refl
count_some {X} h (x ∷ xs) =
    let one : count_by is_some (map (λ g. Some (h g)) (x ∷ xs)) ≡ 1 + count_by is_some (map (λ g. Some (h g)) xs) =
    sum_by-cons (λ (o : Option X). if is_some o then 1 else 0) (Some (h x)) (map (λ g. Some (h g)) xs) in
    omega (arith, one, count_some h xs)

first_of : {X : Type 0} (xs : List X) (i : ℕ) → i < length xs → X
first_of [] i near = absurd (omega (arith, near))
first_of (x ∷ xs) i near = x

-- ---- what becomes of the file

-- 3 is told exactly where there is none
told_three : (o : Option (List ℕ)) (made : List ℕ) → (status_of_fate (fate_of o made) ≡ 3) ↔ (o ≡ None)
told_three None made = (λ e. refl, λ e. refl)
told_three (Some file) made = by_bytes (bytes_eq file made)
  where
    by_bytes : (b : Bool) → (status_of_fate (if b then Equal else Different) ≡ 3) ↔ (Some file ≡ None)
    by_bytes true = (λ e. absurd (omega (arith, e)), λ e. absurd (false≢true (sym (ap is_some e))))
    by_bytes false = (λ e. absurd (omega (arith, e)), λ e. absurd (false≢true (sym (ap is_some e))))

told_which : (fate : Fate) → (status_of_fate fate ≡ 3) ⊎ (status_of_fate fate ≡ 0)
told_which Missing = inl refl
told_which Different = inr refl
told_which Equal = inr refl

-- 5 isn't told, so the lines are
with_lines : (fate : Fate) (lines : List ℕ) → concluded_text (status_of_fate fate) lines ≡ lines ++ status_line (status_of_fate fate)
with_lines Missing lines = refl
with_lines Different lines = refl
with_lines Equal lines = refl

-- the summary by equal parts
pub summary_by : {generations n decoded d : ℕ} {totals s : Totals} (fate : Fate) → generations ≡ n → decoded ≡ d → totals ≡ s
    → summary generations decoded totals fate ≡ summary n d s fate
summary_by fate a b c = λ i. summary (a i) (b i) (c i) fate

-- ---- gates, before and after

before_at : (before after : List GateState) (i : ℕ) (d : Change GateTold) (b : GateState) → length after ≡ length before → i < length before
    → (get_or (changes told before after) i d).old ≡ told (get_or before i b)
before_at [] after i d b same near = absurd (omega (arith, near))
before_at (s ∷ ss) [] i d b same near = absurd (omega (arith, same))
before_at (s ∷ ss) (s' ∷ ss') zero d b same near = refl
before_at (s ∷ ss) (s' ∷ ss') (suc i) d b same near = before_at ss ss' i d b (omega (arith, same)) (omega (arith, near))

length-changed : (before after : List GateState) → length after ≡ length before → length (changes told before after) ≡ length before
length-changed [] after same = refl
length-changed (s ∷ ss) [] same = absurd (omega (arith, same))
length-changed (s ∷ ss) (s' ∷ ss') same = ap suc (length-changed ss ss' (omega (arith, same)))

all_before : (before after : List GateState) → length after ≡ length before → map (λ gate. gate.old) (changes told before after) ≡ map told before
all_before [] after same = refl
all_before (s ∷ ss) [] same = absurd (omega (arith, same))
all_before (s ∷ ss) (s' ∷ ss') same = ap (λ l. told s ∷ l) (all_before ss ss' (omega (arith, same)))

-- each gate told all events that it had
abbrev ToldAll : List GateState → List GateState → Type 0
ToldAll before after =
    (i : ℕ) (d : Change GateTold) (s : GateState) → i < length before → events_told (get_or (changes told before after) i d) ≡ (get_or before i s).left

all_events : (before after : List GateState) → length after ≡ length before → ToldAll before after → map events_told (changes told before after) ≡ map (λ s. s.left) before
all_events [] after same all = refl
all_events (s ∷ ss) [] same all = absurd (omega (arith, same))
all_events (s ∷ ss) (s' ∷ ss') same all =
    λ k. all 0 (change (told s) (told s')) s (omega arith) k
    ∷ all_events ss ss' (omega (arith, same)) (λ i d e near. all (suc i) d e (omega (arith, near))) k

flat_map-map : {X Y Z : Type 0} (f : Y → List Z) (h : X → Y) (xs : List X) → flat_map f (map h xs) ≡ flat_map (λ x. f (h x)) xs
flat_map-map f h [] = refl
flat_map-map f h (x ∷ xs) = ap (λ l. f (h x) ++ l) (flat_map-map f h xs)

pub length-trial_gates : (t : TicketFields) (loss : OperatorChannel) (n : ℕ) (word : ℕ → ℕ) → length (trial_gates t loss n word) ≡ n
length-trial_gates t loss n word = length-map-range_with_len (λ i. unasked (trial_events t (dealt n i (trial_frames t loss word)))) 0 n

-- ---- the run

module _ (t : TicketFields) (loss : OperatorChannel) (n : ℕ) (word : ℕ → ℕ) (ticket : IsTicket t) (possible : IsPossible t loss) (some : 0 < n)
    (before after : List GateState) (is_before : before ≡ trial_gates t loss n word) (same : length after ≡ length before)
    (r : ReceivedView) (line : HasOneHistory t trial_plan (changes told before after) r) (sums : AddUp t trial_plan (changes told before after) r) where
  abbrev gates : List (Change GateTold)
  gates = changes told before after

  abbrev frames : List (ℕ × ℕ)
  frames = trial_frames t loss word

  abbrev vectors : List (ℕ × ℕ)
  vectors = all_taken t trial_plan.limits gates

  gave : GiveAllFrames t trial_plan.limits n frames (trial_gates t loss n word)
  gave = trial_gates_give_all t loss n word trial_plan.limits ticket possible (omega arith) (omega arith)

  count : length before ≡ n
  count = ap (λ (l : List GateState). length l) is_before ∙ length-trial_gates t loss n word

  told_all : ToldAll before after
  told_all i d s near =
      let inside : i < length gates = omega (arith, near, length-changed before after same) in
      let k : Known = record { number = 0; note = []; calls = []; seen = []; accesses = 0 } in
      let p = line.passes i d no_counts k inside in
      let left : (get_or gates i d).old.left ≡ Some (get_or before i s).left = ap (λ (g : GateTold). g.left) (before_at before after i d s same near) in
      let stops = (gave.each i s (omega (arith, near, count))).stops in
      sym (p.worked.known (get_or before i s).left left).0
      ∙ subst (λ (l : List GateState). stop FRAME_BYTES t trial_plan.limits (get_or l i s).left ≡ (get_or l i s).left) (sym is_before) stops

  lefts : map (λ (s : GateState). s.left) (trial_gates t loss n word) ≡ map (λ i. trial_events t (dealt n i frames)) (range_with_len 0 n)
  lefts = map-map-left (range_with_len 0 n)
    where
      map-map-left : (xs : List ℕ) → map (λ (s : GateState). s.left) (map (λ i. unasked (trial_events t (dealt n i frames))) xs) ≡ map (λ i. trial_events t (dealt n i frames)) xs
      map-map-left [] = refl
      map-map-left (x ∷ xs) = ap (λ l. trial_events t (dealt n x frames) ∷ l) (map-map-left xs)

  gave_all : GaveAll t loss n word gates
  gave_all = record {
    before = all_before before after same ∙ ap (map told) is_before;
    events = all_events before after same told_all ∙ ap (map (λ (s : GateState). s.left)) is_before ∙ lefts;
  }

  -- what was taken is what was dealt
  taken_is : vectors ≡ all_dealt n frames
  taken_is =
      let take = λ (events : List Event). taken FRAME_BYTES t trial_plan.limits events in
      sym (flat_map-map take events_told gates)
      ∙ ap (flat_map take) (all_events before after same told_all)
      ∙ flat_map-map take (λ (s : GateState). s.left) before
      ∙ ap (flat_map (λ (s : GateState). take s.left)) is_before
      ∙ gave.all

  -- ---- each generation

  kept : (g : ℕ) → g < generations t → HaveSameSpan (frozen vectors g) (received_rows t loss word g)
  kept g below =
      let rows = rows_of g vectors in
      let spans = subst (λ (v : List (ℕ × ℕ)). HaveSameSpan (rows_of g v) (received_rows t loss word g)) (sym taken_is) (dealing_keeps_rows t loss word n g some below).spans in
      HaveSameSpan-from_members (frozen vectors g) (received_rows t loss word g)
      (λ x. in_span_innovative rows x ∙ same_span_members rows (received_rows t loss word g) spans x)

  answer_after : (g : ℕ) → g < generations t → answer t.code (frozen vectors g) ≡ answer t.code (received_rows t loss word g)
  answer_after g below =
      answer-same_span t.code (frozen vectors g) (received_rows t loss word g) (same_span_members (frozen vectors g) (received_rows t loss word g) (kept g below))

  answered : r.answers ≡ answers_after t loss word
  answered = answers_are t trial_plan gates r line sums refl
      ∙ map_below (λ g. answer t.code (frozen vectors g)) (λ g. answer t.code (received_rows t loss word g)) (generations t) answer_after

  -- ---- the totals

  inserts : length vectors ≡ rows_after t loss
  inserts = ap (λ (v : List (ℕ × ℕ)). length v) taken_is ∙ length_permutation frames (all_dealt n frames) (dealing_is_a_permutation n frames some).0
      ∙ (trial_frames_are_frames t loss word ticket possible).count

  ranks : sum_by (λ g. dimension (frozen vectors g)) (range_with_len 0 (generations t)) ≡ rows_after t loss
  ranks = sum_below (λ g. dimension (frozen vectors g)) (t.code.l - loss.erase + loss.inject) (generations t)
      (λ g below. (received_rows_have_the_loss t loss word g ticket possible).rank (frozen vectors g) (kept g below))

  totals_is : r.totals ≡ totals_after t loss
  totals_is = totals_are t trial_plan gates r line sums refl ∙ (λ i. unfrozen_totals (inserts i) (ranks i))

  -- ---- the file

  file_is : file_of t r.answers ≡ file_after t loss word
  unfolding file_after
  file_is = ap (file_of t) answered

  module _ (near : loss.erase + loss.inject ≤ t.code.l - t.code.k) where
    each_answer : (g : ℕ) → answer t.code (received_rows t loss word g) ≡ Some (cut t.code (made_file t.length word) g)
    each_answer g = trial_decodes_within_radius t loss word g (received_rows t loss word g) ticket possible near
        (HaveSameSpan-from_members (received_rows t loss word g) (received_rows t loss word g) (λ x. refl))

    file_equal : file_after t loss word ≡ Some (made_file t.length word)
    unfolding file_after
    file_equal = file_from_answers t (made_file t.length word) (λ g. answer t.code (received_rows t loss word g)) ticket.code
        (made_file_has_its_length t.length word).0 (made_file_has_its_length t.length word).1 (λ g below. each_answer g)

    all_decoded : count_by is_some (answers_after t loss word) ≡ generations t
    all_decoded =
        ap (count_by is_some) (map_below (λ g. answer t.code (received_rows t loss word g)) (λ g. Some (cut t.code (made_file t.length word) g)) (generations t) (λ g below. each_answer g))
        ∙ count_some (cut t.code (made_file t.length word)) (range_with_len 0 (generations t))
        ∙ sym (length-map (range_with_len 0 (generations t)) (λ (g : ℕ). g))
        ∙ length-map-range_with_len (λ (g : ℕ). g) 0 (generations t)

    fate_equal : fate_after t loss word ≡ Equal
    fate_equal =
        let made = made_file t.length word in
        ap (λ (o : Option (List ℕ)). fate_of o made) file_equal
        ∙ ap (λ (b : Bool). if b then Equal else Different) ((bytes_eq-Decides made made).1 refl)

    equal_is : summary_of t loss word ≡ equal_summary t loss
    equal_is = λ i. summary (generations t) (all_decoded i) (totals_after t loss) (fate_equal i)

  -- ---- the run as a whole

  abbrev fate : Fate
  fate = fate_of (file_of t r.answers) (made_file t.length word)

  fate_is : fate ≡ fate_after t loss word
  fate_is = ap (λ (o : Option (List ℕ)). fate_of o (made_file t.length word)) file_is

  module _ (said status : ℕ) (report : Change SinkTold) (is_told : said ≡ status_of_fate fate) (as_told : IsStatusOf said status)
      (five : CanCount report.old.faults → said ≡ 0 → (status ≡ 5) ↔ SinkFailed report)
      (given : WasGiven (concluded_text said (summary (generations t) (count_by is_some r.answers) r.totals fate)) report) where
    said_is : said ≡ status_of_fate (fate_after t loss word)
    said_is = is_told ∙ ap status_of_fate fate_is

    said_which : (said ≡ 3) ⊎ (said ≡ 0)
    said_which = subst (λ (s : ℕ). (s ≡ 3) ⊎ (s ≡ 0)) (sym said_is) (told_which (fate_after t loss word))

    zero_told : RanThrough said → said ≡ 0
    zero_told through = elim said_which [ inl three ↦ absurd (grind arith) | inr none ↦ none ]

    reported : WasGiven (summary_of t loss word ++ status_line (status_of_fate (fate_after t loss word))) report
    reported = subst (λ l. WasGiven l report)
        ((λ i. concluded_text (said_is i) (summary (generations t) (count_by is_some (answered i)) (totals_is i) (fate_is i)))
        ∙ with_lines (fate_after t loss word) (summary_of t loss word)) given

    within : loss.erase + loss.inject ≤ t.code.l - t.code.k
        → RanThrough status × (file_after t loss word ≡ Some (made_file t.length word)) × WasGiven (equal_summary t loss ++ status_line 0) report
    within near = (
      through_told said status (inl (said_is ∙ ap status_of_fate (fate_equal near))) as_told,
      file_equal near,
      subst (λ l. WasGiven l report) (λ i. equal_is near i ++ status_line (status_of_fate (fate_equal near i))) reported,
    )

    beyond : t.code.l - t.code.k < loss.erase + loss.inject
        → (g : ℕ) → answer t.code (received_rows t loss word g) ≡ Some (cut t.code (made_file t.length word) g) → ⊥
    beyond far g is =
        let rows = received_rows t loss word g in
        let u = cut t.code (made_file t.length word) g in
        let code = ticket_code t ticket in
        let near = ((its_answer.some t.code code rows u).0 is).within in
        let lost = (received_rows_have_the_loss t loss word g ticket possible).lost in
        omega (arith, near, far, distance_is_the_loss t.code code rows u, lost.erased_are, lost.injected_are)

    pub is_simulation : (logs : List LogsView) → logs ≡ r.logs ∷ [] → IsSimulation t loss n word report logs status
    is_simulation logs kept_logs =
        let three = told_three (file_after t loss word) (made_file t.length word) in
        record {
          view = r;
          kept = kept_logs;
          gates = gates;
          gave_all = gave_all;
          one_history = line;
          add_up = sums;
          answered = answered;
          not_decoded = (
            λ e. three.0 (sym said_is ∙ (at_three said status as_told).0 e),
            λ none. (at_three said status as_told).1 (said_is ∙ three.1 none),
          );
          output_fault = λ can through. five can (zero_told (told_through said status as_told through));
          no_other_status = decoded_or_through said status (elim said_which [ inl three ↦ inl three | inr none ↦ inr (inl none) ]) as_told;
          reported = reported;
          within_radius = within;
          beyond_radius = beyond;
        }
