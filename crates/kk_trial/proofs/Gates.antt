-- Gates that give data frames alone, each as a datagram of its own.
use Rattle.std.proofs.Common.{◌≡◌, ℕ, ◌+◌, ◌*◌, ◌%◌, ◌<◌, ◌≤◌, Bool, true, false, cond, List, [], ◌∷◌, ◌++◌, length, map, Option, Some, None, Ok, refl, sym, ap, subst, ◌∙◌, arith, append_assoc, length-append}
use Rattle.std.specs.Prelude.{◌==◌, ◌&&◌, nat_lt, nat_le, is_some, unwrap_or, All, flat_map}
use Rattle.std.specs.List.{range_with_len}
use Rattle.std.proofs.lemmas.Bool.Decides.{nat_tests}
use Rattle.std.proofs.lemmas.List.{append-nil, map-append}
use Rattle.std.proofs.lemmas.List.Concat.{flat_map-append}
use Rattle.std.proofs.lemmas.List.Elements.{All-head, All-tail}
use Rattle.std.proofs.lemmas.List.FromFn.{length-map-range_with_len, get_or-map-range_with_len}
use Rattle.kk_code.specs.Ticket.{TicketFields}
use Rattle.kk_code.specs.TicketText.{IsTicket}
use Rattle.kk_outside.specs.GateState.{GateState, unasked}
use Rattle.kk_outside.specs.declared.event.Event.{Event}
use Rattle.kk_outside.specs.declared.event.Event.TheVariants.{Datagram}
use Rattle.kk_frame.specs.declared.datagram.TheConstants.{MAX_DATAGRAM_FRAMES}
use Rattle.kk_frame.specs.declared.frame.TheConstants.{FRAME_BYTES}
use Rattle.kk_frame.specs.declared.limits.Limits.{Limits}
use Rattle.kk_frame.specs.declared.gate_count.Ended.{Ended}
use Rattle.kk_frame.specs.declared.gate_count.Ended.TheVariants.{Over}
use Rattle.kk_frame.specs.declared.gate_count.GateCount.{GateCount}
use Rattle.kk_frame.specs.Counting.{sum_of}
use Rattle.kk_frame.specs.Datagram.{Reading, has_datagram_length, has_end, readings, data_frames}
use Rattle.kk_frame.specs.Events.{datagrams, all_readings, refused_of, counts_over, end_with, stop, taken}
use Rattle.kk_frame.specs.Frame.{Vector, IsFrame, frame_text}
use Rattle.kk_frame.proofs.Packs.{length-frame_text, readings-one}
use Rattle.kk_frame.proofs.Readings.{data_frames-append, data_frames-vector}
use Rattle.kk_frame.proofs.Stops.{datagrams-append, shortest_prefix-nil, shortest_prefix-push, end_with-nil, end_with-datagram, counts_over-datagram, with_datagram}
use Rattle.kk_trial.specs.Trial.{dealt, trial_events, trial_frames}
use Rattle.kk_trial.specs.Laws.{GivesAll, FramesAreTaken, TrialGatesGiveAll}
use Rattle.kk_trial.proofs.Ranges.{flat_map-same}
use Rattle.kk_trial.proofs.Dealt.{length-dealt_from, All-dealt_from}
use Rattle.kk_trial.proofs.Frames.{trial_frames_are_frames}

-- ---- one frame more

abbrev text : TicketFields → ℕ × ℕ → List ℕ
text t f = frame_text t (Vector f.0 f.1)

abbrev IsData : TicketFields → ℕ × ℕ → Type 0
IsData t f = IsFrame t (Vector f.0 f.1)

-- the counts of a gate that gave n data frames
abbrev all_counted : ℕ → GateCount
all_counted n = record { ended = Some Over; datagrams = n; frames = n; refused = refused_of 0 [] }

-- The gate hasn't ended with these data frames, and each is taken.
record Runs (t : TicketFields) (limits : Limits) (frames : List (ℕ × ℕ)) : Type 0 where
  all : stop FRAME_BYTES t limits (trial_events t frames) ≡ trial_events t frames
  none : end_with FRAME_BYTES t limits (trial_events t frames) ≡ None
  read : data_frames (all_readings FRAME_BYTES t (trial_events t frames)) ≡ frames
  count : counts_over FRAME_BYTES t (Some Over) (trial_events t frames) ≡ all_counted (length frames)

length-datagrams : (t : TicketFields) (frames : List (ℕ × ℕ)) → length (datagrams (trial_events t frames)) ≡ length frames
length-datagrams t [] = refl
length-datagrams t (f ∷ frames) = omega (arith, length-datagrams t frames)

right_length : (bytes : List ℕ) → length bytes ≡ FRAME_BYTES → has_datagram_length FRAME_BYTES bytes ≡ true
right_length bytes len = ap (λ (n : ℕ). nat_lt 0 n && nat_le n (MAX_DATAGRAM_FRAMES * FRAME_BYTES) && (n % FRAME_BYTES == 0)) len

runs-none : (t : TicketFields) (limits : Limits) → 1 ≤ limits.idle → 1 ≤ limits.most → Runs t limits []
unfolding data_frames
runs-none t limits idle most = record {
  all = shortest_prefix-nil (λ prefix. is_some (end_with FRAME_BYTES t limits prefix));
  none = end_with-nil FRAME_BYTES t limits idle most;
  read = refl;
  count = refl;
}

module _ (t : TicketFields) (limits : Limits) (before : List (ℕ × ℕ)) (f : ℕ × ℕ) (ticket : IsTicket t) (is : IsData t f) where
  abbrev events : List Event
  events = trial_events t before

  push : trial_events t (before ++ f ∷ []) ≡ events ++ Datagram (text t f) ∷ []
  push = map-append (λ (x : ℕ × ℕ). Datagram (text t x)) before (f ∷ [])

  one : readings FRAME_BYTES t (text t f) ≡ Ok (Vector f.0 f.1) ∷ []
  one = readings-one t (Vector f.0 f.1) ticket is

  readings-push : all_readings FRAME_BYTES t (events ++ Datagram (text t f) ∷ []) ≡ all_readings FRAME_BYTES t events ++ Ok (Vector f.0 f.1) ∷ []
  readings-push =
      ap (flat_map (readings FRAME_BYTES t)) (datagrams-append events (Datagram (text t f) ∷ []))
      ∙ flat_map-append (readings FRAME_BYTES t) (datagrams events) (text t f ∷ [])
      ∙ ap (λ (l : List Reading). all_readings FRAME_BYTES t events ++ l) (append-nil (readings FRAME_BYTES t (text t f)) ∙ one)

  -- what one datagram adds to the counts
  counted : (n : ℕ) → with_datagram FRAME_BYTES t (Some Over) (all_counted n) (text t f) ≡ all_counted (n + 1)
  counted n =
      let good = right_length (text t f) (length-frame_text t (Vector f.0 f.1)) in
      let by : Bool → List Reading → GateCount = λ b rs. record {
        ended = Some Over;
        datagrams = n + 1;
        frames = n + length (data_frames rs);
        refused = sum_of (refused_of 0 []) (refused_of (cond b 0 1) rs);
      } in
      ap (λ (b : Bool). by b (readings FRAME_BYTES t (text t f))) good
      ∙ ap (by true) one
      ∙ ap (λ (fs : List (ℕ × ℕ)). record { ended = Some Over; datagrams = n + 1; frames = n + length fs; refused = refused_of 0 [] }) (data_frames-vector f.0 f.1)

  runs-push : 1 ≤ limits.idle → length before + 1 < limits.most → Runs t limits before → Runs t limits (before ++ f ∷ [])
  runs-push idle few runs =
      let no_end : has_end (readings FRAME_BYTES t (text t f)) ≡ false = ap has_end one in
      let not_last : (length before + 1 == limits.most) ≡ false = grind (arith, nat_tests) in
      let longer : length before + 1 ≡ length (before ++ f ∷ []) = omega (arith, length-append before (f ∷ [])) in
      record {
        all =
            ap (stop FRAME_BYTES t limits) push
            ∙ shortest_prefix-push (λ prefix. is_some (end_with FRAME_BYTES t limits prefix)) events (Datagram (text t f)) runs.all (ap is_some runs.none)
            ∙ sym push;
        none =
            ap (end_with FRAME_BYTES t limits) push
            ∙ end_with-datagram FRAME_BYTES t limits events (text t f) (length before) (length-datagrams t before) idle
            ∙ rw (no_end, not_last) refl;
        read =
            ap (λ (l : List Event). data_frames (all_readings FRAME_BYTES t l)) push
            ∙ ap data_frames readings-push
            ∙ data_frames-append (all_readings FRAME_BYTES t events) (Ok (Vector f.0 f.1) ∷ [])
            ∙ ap (λ (l : List (ℕ × ℕ)). data_frames (all_readings FRAME_BYTES t events) ++ l) (data_frames-vector f.0 f.1)
            ∙ ap (λ (l : List (ℕ × ℕ)). l ++ f ∷ []) runs.read;
        count =
            ap (counts_over FRAME_BYTES t (Some Over)) push
            ∙ counts_over-datagram FRAME_BYTES t (Some Over) events (text t f)
            ∙ ap (λ (c : GateCount). with_datagram FRAME_BYTES t (Some Over) c (text t f)) runs.count
            ∙ counted (length before)
            ∙ ap all_counted longer;
      }

-- ---- all frames

runs-more : (t : TicketFields) (limits : Limits) (before frames : List (ℕ × ℕ)) → IsTicket t → All (IsData t) frames → 1 ≤ limits.idle → length before + length frames < limits.most → Runs t limits before → Runs t limits (before ++ frames)
runs-more t limits before [] ticket are idle few runs = subst (Runs t limits) (sym (append-nil before)) runs
runs-more t limits before (f ∷ frames) ticket are idle few runs =
    subst (Runs t limits) (append_assoc before (f ∷ []) frames)
    (runs-more t limits (before ++ f ∷ []) frames ticket (All-tail (IsData t) f frames are) idle (omega (arith, few, length-append before (f ∷ [])))
    (runs-push t limits before f ticket (All-head (IsData t) f frames are) idle (omega (arith, few)) runs))

pub frames_are_taken : FramesAreTaken
frames_are_taken t limits frames ticket are idle few =
    let runs = runs-more t limits [] frames ticket are idle (omega (arith, few)) (runs-none t limits idle (omega (arith, few))) in
    let over : Option Ended → Option Ended = λ end. Some (unwrap_or end Over) in
    record {
      stops = runs.all;
      takes = ap (λ (l : List Event). data_frames (all_readings FRAME_BYTES t l)) runs.all ∙ runs.read;
      count =
          ap (λ (l : List Event). counts_over FRAME_BYTES t (over (end_with FRAME_BYTES t limits l)) l) runs.all
          ∙ ap (λ (end : Option Ended). counts_over FRAME_BYTES t (over end) (trial_events t frames)) runs.none
          ∙ runs.count;
    }

-- ---- the gates of a trial

flat_map-map : {X Y A : Type 0} (f : Y → List A) (h : X → Y) (xs : List X) → flat_map f (map h xs) ≡ flat_map (λ x. f (h x)) xs
flat_map-map f h [] = refl
flat_map-map f h (x ∷ xs) = ap (λ l. f (h x) ++ l) (flat_map-map f h xs)

pub trial_gates_give_all : TrialGatesGiveAll
trial_gates_give_all t channel n word limits ticket possible idle many =
    let frames = trial_frames t channel word in
    let are = trial_frames_are_frames t channel word ticket possible in
    let gate : ℕ → GateState = λ i. unasked (trial_events t (dealt n i frames)) in
    let gives : (i : ℕ) → GivesAll t limits (gate i) (dealt n i frames) = λ i.
    frames_are_taken t limits (dealt n i frames) ticket (All-dealt_from (IsData t) 0 n i frames are.in_range) idle (omega (arith, many, are.few, length-dealt_from 0 n i frames)) in
    record {
      count = length-map-range_with_len gate 0 n;
      each = λ i d below. subst (λ g. GivesAll t limits g (dealt n i frames)) (sym (get_or-map-range_with_len gate 0 n i i d below (omega arith))) (gives i);
      all =
          flat_map-map (λ (g : GateState). taken FRAME_BYTES t limits g.left) gate (range_with_len 0 n)
          ∙ flat_map-same (λ i. taken FRAME_BYTES t limits (gate i).left) (λ i. dealt n i frames) (λ i. (gives i).takes) (range_with_len 0 n);
    }
