-- From what was received to its one history.
use Rattle.std.proofs.Common.{◌≡◌, ℕ, zero, suc, ◌+◌, ◌<◌, true, List, [], ◌∷◌, ◌++◌, map, length, get_or, refl, sym, ap, ◌∙◌, subst, arith, Option, Some, None, ⊎_elim, length-append}
use Rattle.std.specs.Prelude.{◌≤◌, sum_by, flat_map, All, IfSome}
use Rattle.std.specs.List.{range_with_len}
use Rattle.std.proofs.lemmas.List.{length-map, same_lists}
use Rattle.std.proofs.lemmas.List.FromFn.{length-map-range_with_len, get_or-map-range_with_len}
use Rattle.std.proofs.lemmas.List.Elements.{All-map, All-from_get_or}
use Rattle.std.proofs.lemmas.List.Sums.{sum_by-cons}
use Rattle.kk_rows.specs.Span.{in_span}
use Rattle.kk_rows.proofs.Spans.{same_span_members}
use Rattle.kk_decode.proofs.Answering.{answer-same_span}
use Rattle.kk_outside.specs.Change.{Change, change}
use Rattle.kk_outside.specs.Gate.{GateTold, events_told}
use Rattle.kk_code.specs.Codeword.{Parameters, IsCode, IsMessage}
use Rattle.kk_code.specs.Decoding.{answer}
use Rattle.kk_code.proofs.Enumeration.{answer_is_the_message}
use Rattle.kk_code.specs.Ticket.{TicketFields, generations}
use Rattle.kk_frame.specs.declared.frame.TheConstants.{FRAME_BYTES}
use Rattle.kk_frame.specs.declared.gate_count.GateCount.{GateCount}
use Rattle.kk_frame.specs.Counting.{no_counts}
use Rattle.kk_frame.specs.Events.{taken}
use Rattle.kk_frame.specs.Generation.{rows_of}
use Rattle.kk_machine.specs.declared.log.Log.{Log}
use Rattle.kk_machine.specs.declared.call.Entry.{Entry}
use Rattle.kk_machine.specs.Spaces.{unseen}
use Rattle.kk_machine.specs.History.{log_of}
use Rattle.kk_machine.specs.Inserts.{AreBelow, FrozenBy, tally, of_reply, inserts, innovative, redundant, late, sum_below}
use Rattle.kk_machine.proofs.Counted.{sum_same}
use Rattle.kk_machine.proofs.Tallies.{kinds}
use Rattle.kk_table.specs.declared.view.Known.{Known}
use Rattle.kk_table.specs.declared.view.Shape.{Shape}
use Rattle.kk_table.specs.Logs.{IsHistoryOf, IsLogs, log_at}
use Rattle.kk_workers.specs.declared.plan.Plan.{Plan}
use Rattle.kk_workers.specs.declared.totals.Totals.{Totals}
use Rattle.kk_workers.specs.Totals.{totals_in, no_totals}
use Rattle.kk_workers.specs.Worker.{WorkerView}
use Rattle.kk_workers.specs.WorkerCalls.{all_brought, InsertsFor, AreAnswers}
use Rattle.kk_workers.specs.WorkerLoop.{AreTotals}
use Rattle.kk_workers.specs.Runs.{closing_answer}
use Rattle.kk_workers.specs.Received.{changes, all_taken, IsPassOf, ReceivedView, HasOneHistory, AddUp}
use Rattle.kk_workers.specs.Receiving.{IsDone, IsReceived}
use Rattle.kk_workers.proofs.Counting.{same_totals}
use Rattle.kk_workers.proofs.Bringing.{inserts-brought}
use Rattle.kk_workers.proofs.WorkerLoop.{fault_exactly}
use Rattle.kk_workers.proofs.Frozen.{IsRun, AreKept, sum_list, frozen, rows_of_all-brought, counted_all, nobody_late, innovative_all, all_closed, answer_closing, open_kept}

-- ---- lists side by side

-- what a list made by a function has at a place
pub map_at : {X Y : Type 0} (f : X → Y) (xs : List X) (i : ℕ) (d : Y) (x : X) → i < length xs → get_or (map f xs) i d ≡ f (get_or xs i x)
map_at f [] i d x near = absurd (omega (arith, near))
map_at f (y ∷ ys) zero d x near = refl
map_at f (y ∷ ys) (suc i) d x near = map_at f ys i d x (omega (arith, near))

first_of : {X : Type 0} (xs : List X) (i : ℕ) → i < length xs → X
first_of [] i near = absurd (omega (arith, near))
first_of (x ∷ xs) i near = x

length-changes : {G : Type 0} (told : G → GateTold) (gates gates' : List G) → length gates' ≡ length gates → length (changes told gates gates') ≡ length gates
length-changes told [] gates' same = refl
length-changes told (g ∷ gs) [] same = absurd (omega (arith, same))
length-changes told (g ∷ gs) (g' ∷ gs') same = ap suc (length-changes told gs gs' (omega (arith, same)))

change_at : {G : Type 0} (told : G → GateTold) (gates gates' : List G) (i : ℕ) (d : Change GateTold) (a b : G) → length gates' ≡ length gates → i < length gates
    → get_or (changes told gates gates') i d ≡ change (told (get_or gates i a)) (told (get_or gates' i b))
change_at told [] gates' i d a b same near = absurd (omega (arith, near))
change_at told (g ∷ gs) [] i d a b same near = absurd (omega (arith, same))
change_at told (g ∷ gs) (g' ∷ gs') zero d a b same near = refl
change_at told (g ∷ gs) (g' ∷ gs') (suc i) d a b same near = change_at told gs gs' i d a b (omega (arith, same)) (omega (arith, near))

-- lists that are made of equal parts, one by one
same_parts : {X Y Z : Type 0} (f : X → List Z) (g : Y → List Z) (xs : List X) (ys : List Y) → length xs ≡ length ys
    → ((i : ℕ) (x : X) (y : Y) → i < length ys → f (get_or xs i x) ≡ g (get_or ys i y)) → flat_map f xs ≡ flat_map g ys
same_parts f g [] [] long same = refl
same_parts f g [] (y ∷ ys) long same = absurd (omega (arith, long))
same_parts f g (x ∷ xs) [] long same = absurd (omega (arith, long))
same_parts f g (x ∷ xs) (y ∷ ys) long same =
    λ k. same 0 x y (omega arith) k ++ same_parts f g xs ys (omega (arith, long)) (λ i a b near. same (suc i) a b (omega (arith, near))) k

length-parts : {X : Type 0} (f : X → List (ℕ × ℕ)) (xs : List X) → length (flat_map f xs) ≡ sum_by (λ x. length (f x)) xs
length-parts f [] = refl
length-parts f (x ∷ xs) = omega (arith, length-append (f x) (flat_map f xs), length-parts f xs, sum_by-cons (λ x. length (f x)) x xs)

same_sums : (f g : Known → ℕ) (rs : List Known) → ((r : Known) → f r ≡ g r) → sum_by f rs ≡ sum_by g rs
same_sums f g [] same = refl
same_sums f g (r ∷ rs) same = omega (arith, same r, same_sums f g rs same, sum_by-cons f r rs, sum_by-cons g r rs)

-- the rows of all logs
sum_logs : (n : ℕ) (logs : List Log) → length logs ≡ n → sum_below n (λ g. length (get_or logs g unseen).rows) ≡ sum_by (λ (l : Log). length l.rows) logs
sum_logs n logs all = subst (λ (m : ℕ). sum_below m (λ g. length (get_or logs g unseen).rows) ≡ sum_by (λ (l : Log). length l.rows) logs) all
    (sum_list (λ (l : Log). length l.rows) logs (λ g. length (get_or logs g unseen).rows) (λ i d near. ap (λ (l : Log). length l.rows) (same_default logs i unseen d near)))
  where
    same_default : (xs : List Log) (i : ℕ) (a b : Log) → i < length xs → get_or xs i a ≡ get_or xs i b
    same_default [] i a b near = absurd (omega (arith, near))
    same_default (x ∷ xs) zero a b near = refl
    same_default (x ∷ xs) (suc i) a b near = same_default xs i a b (omega (arith, near))

-- the totals of all workers, by the calls of their passes
summed : {G : Type 0} (part : Totals → ℕ) (ws : List (WorkerView G)) → ((i : ℕ) (d : WorkerView G) → i < length ws → AreTotals (get_or ws i d).totals (get_or ws i d).pass.known.calls)
    → sum_by part (map (λ w. w.totals) ws) ≡ sum_by (λ (r : Known). part (totals_in r.calls)) (map (λ w. w.pass.known) ws)
summed part [] are = refl
summed part (w ∷ ws) are =
    omega (
      arith,
      ap part (are 0 w (omega arith)).are,
      summed part ws (λ i d near. are (suc i) d (omega (arith, near))),
      sum_by-cons part w.totals (map (λ w. w.totals) ws),
      sum_by-cons (λ (r : Known). part (totals_in r.calls)) w.pass.known (map (λ w. w.pass.known) ws),
    )

-- an answer is a message
answer_is_message : (p : Parameters) → IsCode p → (rows : List ℕ) (o : Option (List ℕ)) → answer p rows ≡ o → IfSome o (IsMessage p)
answer_is_message p code rows None is = tt
answer_is_message p code rows (Some u) is = ((answer_is_the_message.some p code rows u).0 is).message

-- ---- the run

module _ {G : Type 0} (told : G → GateTold) (t : TicketFields) (plan : Plan) (gates gates' : List G) (r : ReceivedView)
    (is : IsReceived told t plan gates gates' r) (logs : IsLogs r.logs.shape r.logs.records r.logs.logs) where
  known : WorkerView G → Known
  known w = w.pass.known

  abbrev records : List Known
  records = map (λ (w : WorkerView G). w.pass.known) is.workers

  abbrev closing : Known
  closing = is.closing

  abbrev n : ℕ
  n = generations t

  abbrev h : List Entry
  h = logs.history

  long : length records ≡ length gates
  long = length-map is.workers (λ (w : WorkerView G). w.pass.known) ∙ is.count

  same_length : length gates' ≡ length gates
  same_length = ap (λ (x : List G). length x) is.gates_are ∙ length-map is.workers (λ (w : WorkerView G). w.gate) ∙ is.count

  -- the worker at a place
  worker_at : (i : ℕ) (d : Known) → i < length records → (gate : G) × (w : WorkerView G) × (get_or records i d ≡ w.pass.known) × IsDone told t plan i gate w
  worker_at i d near =
      let in_ws : i < length is.workers = omega (arith, near, long, is.count) in
      let w = first_of is.workers i in_ws in
      (get_or gates i w.gate, get_or is.workers i w, map_at (λ (w : WorkerView G). w.pass.known) is.workers i d w in_ws, is.done i w.gate w (omega (arith, near, long)))

  run : IsRun n plan.goal records closing
  run = record {
    numbers = λ i d near. let x = worker_at i d near in ap (λ (k : Known). k.number) x.2 ∙ x.3.number;
    inserts = λ i d near. let x = worker_at i d near in subst (InsertsFor plan.goal) (sym (ap (λ (k : Known). k.calls) x.2)) x.3.worked.inserts;
    below = λ i d near. let x = worker_at i d near in subst (AreBelow n) (sym (ap (λ (k : Known). k.calls) x.2)) x.3.worked.below;
    number = is.number ∙ ap (λ (m : ℕ). m + 1) (sym long);
    note = is.note;
    freezes = is.closes.freezes;
    closing_below = is.closes.below;
    no_inserts = is.closes.totals;
  }

  abbrev kept : List (List (Option (Option (List ℕ))))
  kept = map (λ (w : WorkerView G). w.answers) is.workers

  keeps : AreKept t.code n records kept
  keeps = record {
    all = length-map is.workers (λ (w : WorkerView G). w.answers) ∙ sym (length-map is.workers (λ (w : WorkerView G). w.pass.known));
    each = λ i d room near.
        let in_ws : i < length is.workers = omega (arith, near, long, is.count) in
        let w = first_of is.workers i in_ws in
        let me = get_or is.workers i w in
        let done = is.done i w.gate w (omega (arith, near, long)) in
        let room_is : get_or kept i room ≡ me.answers = map_at (λ (w : WorkerView G). w.answers) is.workers i room w in_ws in
        let known_is : get_or records i d ≡ me.pass.known = map_at (λ (w : WorkerView G). w.pass.known) is.workers i d w in_ws in (
          ap (λ (x : List (Option (Option (List ℕ)))). length x) room_is ∙ done.all_answers,
          subst (λ (k : Known). AreAnswers t.code k (get_or kept i room)) (sym known_is) (subst (AreAnswers t.code me.pass.known) (sym room_is) done.answers),
        );
  }

  history : IsHistoryOf r.logs.shape (records ++ closing ∷ []) (log_at r.logs.logs) h
  history = subst (λ (rs : List Known). IsHistoryOf r.logs.shape rs (log_at r.logs.logs) h) is.records_are logs.is_history

  many : r.logs.shape.generations ≡ n
  many = ap (λ (s : Shape). s.generations) is.shape

  pub one_count_each : length r.gates ≡ length gates
  one_count_each = ap (λ (x : List GateCount). length x) is.counts_are ∙ length-map is.workers (λ (w : WorkerView G). w.counts) ∙ is.count

  -- ---- the gates

  passes : (i : ℕ) (gate : Change GateTold) (c : GateCount) (k : Known) → i < length (changes told gates gates')
      → IsPassOf t plan i (get_or (changes told gates gates') i gate) (get_or r.gates i c) (get_or records i k)
  passes i gate c k near =
      let in_gates : i < length gates = omega (arith, near, length-changes told gates gates' same_length) in
      let in_ws : i < length is.workers = omega (arith, in_gates, is.count) in
      let w = first_of is.workers i in_ws in
      let me = get_or is.workers i w in
      let done = is.done i w.gate w in_gates in
      let gate_is : get_or gates' i w.gate ≡ me.gate = ap (λ (x : List G). get_or x i w.gate) is.gates_are ∙ map_at (λ (w : WorkerView G). w.gate) is.workers i w.gate w in_ws in
      let change_is : get_or (changes told gates gates') i gate ≡ change (told (get_or gates i w.gate)) (told me.gate) =
      change_at told gates gates' i gate w.gate w.gate same_length in_gates ∙ ap (λ (g : G). change (told (get_or gates i w.gate)) (told g)) gate_is in
      let count_is : get_or r.gates i c ≡ me.counts = ap (λ (x : List GateCount). get_or x i c) is.counts_are ∙ map_at (λ (w : WorkerView G). w.counts) is.workers i c w in_ws in
      let known_is : get_or records i k ≡ me.pass.known = map_at (λ (w : WorkerView G). w.pass.known) is.workers i k w in_ws in
      subst (λ (x : Change GateTold). IsPassOf t plan i x (get_or r.gates i c) (get_or records i k)) (sym change_is)
      (subst (λ (x : GateCount). IsPassOf t plan i (change (told (get_or gates i w.gate)) (told me.gate)) x (get_or records i k)) (sym count_is)
      (subst (λ (x : Known). IsPassOf t plan i (change (told (get_or gates i w.gate)) (told me.gate)) me.counts x) (sym known_is)
      (record { number = done.number; note = done.note; worked = done.worked; cause = done.cause; fault = fault_exactly (change (told (get_or gates i w.gate)) (told me.gate)) me.counts done.cause })))

  -- the frames that the records insert are those that were taken of the gates
  frames : flat_map (λ (k : Known). all_brought k.calls) records ≡ all_taken t plan.limits (changes told gates gates')
  frames = same_parts (λ (k : Known). all_brought k.calls) (λ (gate : Change GateTold). taken FRAME_BYTES t plan.limits (events_told gate)) records (changes told gates gates')
      (long ∙ sym (length-changes told gates gates' same_length))
      (λ i k gate near. let p = passes i gate no_gate k near in p.worked.takes.in_order)
    where
      no_gate : GateCount
      no_gate = no_counts

  -- ---- the logs

  closed : (g : ℕ) → g < n → (log_at r.logs.logs g).closed ≡ true
  closed = all_closed r.logs.shape n plan.goal records closing (log_at r.logs.logs) h run history t.code kept many keeps is.closes

  frozen_all : (g : ℕ) → g < n → FrozenBy (log_at r.logs.logs g).rows (rows_of g (all_taken t plan.limits (changes told gates gates'))) plan.goal
  frozen_all g near =
      subst (λ (rows : List ℕ). FrozenBy (log_at r.logs.logs g).rows rows plan.goal) (rows_of_all-brought g records ∙ ap (rows_of g) frames)
      (frozen r.logs.shape n plan.goal records closing (log_at r.logs.logs) h run history g (omega (arith, near, many)))

  decoded : r.answers ≡ map (λ l. answer t.code l.rows) r.logs.logs
  decoded =
      let f = closing_answer t.code kept closing in
      let a = λ (l : Log). answer t.code l.rows in
      let all : length r.logs.logs ≡ n = logs.all ∙ many in
      is.answers ∙ same_lists (map f (range_with_len 0 n)) (map a r.logs.logs)
      (length-map-range_with_len f 0 n ∙ sym (length-map r.logs.logs a ∙ all))
      (λ g d near.
      let below : g < n = omega (arith, near, length-map-range_with_len f 0 n) in
      get_or-map-range_with_len f 0 n g g d below (omega arith)
      ∙ answer_closing r.logs.shape n plan.goal records closing (log_at r.logs.logs) h run history t.code kept many keeps is.closes g below
      ∙ sym (map_at a r.logs.logs g d unseen (omega (arith, below, all))))

  messages : All (λ (a : Option (List ℕ)). IfSome a (IsMessage t.code)) r.answers
  messages = subst (All (λ (a : Option (List ℕ)). IfSome a (IsMessage t.code))) (sym decoded)
      (All-map (λ (a : Option (List ℕ)). IfSome a (IsMessage t.code)) (λ (l : Log). answer t.code l.rows) r.logs.logs
      (All-from_get_or (λ (l : Log). IfSome (answer t.code l.rows) (IsMessage t.code)) r.logs.logs unseen (λ i near. answer_is_message t.code is.code (get_or r.logs.logs i unseen).rows (answer t.code (get_or r.logs.logs i unseen).rows) refl)))

  -- ---- the totals

  are_totals : (i : ℕ) (d : WorkerView G) → i < length is.workers → AreTotals (get_or is.workers i d).totals (get_or is.workers i d).pass.known.calls
  are_totals i d near = (is.done i d.gate d (omega (arith, near, is.count))).totals

  -- one of the four counts
  part_all : (part : Totals → ℕ) (f : Entry → ℕ) → ((calls : List Entry) → part (totals_in calls) ≡ tally f calls) → part no_totals ≡ 0 → sum_by part (map (λ (w : WorkerView G). w.totals) is.workers) ≡ tally f h
  part_all part f same none =
      summed part is.workers are_totals
      ∙ same_sums (λ (k : Known). part (totals_in k.calls)) (λ (k : Known). tally f k.calls) records (λ k. same k.calls)
      ∙ sym (counted_all r.logs.shape n plan.goal records closing (log_at r.logs.logs) h run history f (sym (same closing.calls) ∙ ap part is.closes.totals ∙ none))

  totals : r.totals ≡ totals_in h
  totals = is.totals_are ∙ same_totals
      (part_all (λ (x : Totals). x.inserts) inserts (λ calls. refl) refl)
      (part_all (λ (x : Totals). x.innovative) (of_reply innovative) (λ calls. refl) refl)
      (part_all (λ (x : Totals). x.redundant) (of_reply redundant) (λ calls. refl) refl)
      (part_all (λ (x : Totals). x.late) (of_reply late) (λ calls. refl) refl)

  pub one_answer_each : length r.answers ≡ n
  one_answer_each = ap (λ (x : List (Option (List ℕ))). length x) decoded ∙ length-map r.logs.logs (λ l. answer t.code l.rows) ∙ logs.all ∙ many

  pub one_history : HasOneHistory t plan (changes told gates gates') r
  one_history = record {
    shape = is.shape;
    all_logs = logs.all ∙ many;
    records = records;
    closing = closing;
    all = is.records_are;
    one_each = long ∙ sym (length-changes told gates gates' same_length);
    counted = one_count_each ∙ sym (length-changes told gates gates' same_length);
    passes = passes;
    closes = record { number = run.number; note = is.note; freezes = is.closes.freezes; in_order = is.closes.in_order ∙ open_kept r.logs.shape n plan.goal records closing (log_at r.logs.logs) h run history t.code kept many keeps is.closes };
    history = h;
    is_history = logs.is_history;
    totals = totals;
    closed = closed;
    frozen = frozen_all;
    nobody_late = λ none. ap (λ (x : Totals). x.late) totals ∙ nobody_late r.logs.shape n plan.goal records closing (log_at r.logs.logs) h run history none;
    answers = decoded;
    messages = messages;
  }

  pub add_up : AddUp t plan (changes told gates gates') r
  add_up = record {
    inserts =
        ap (λ (x : Totals). x.inserts) totals
        ∙ counted_all r.logs.shape n plan.goal records closing (log_at r.logs.logs) h run history inserts (ap (λ (x : Totals). x.inserts) is.closes.totals)
        ∙ same_sums (λ (k : Known). tally inserts k.calls) (λ (k : Known). length (all_brought k.calls)) records (λ k. inserts-brought k.calls)
        ∙ sym (length-parts (λ (k : Known). all_brought k.calls) records)
        ∙ ap (λ (fs : List (ℕ × ℕ)). length fs) frames;
    innovative =
        ap (λ (x : Totals). x.innovative) totals
        ∙ innovative_all r.logs.shape n plan.goal records closing (log_at r.logs.logs) h run history
        ∙ sum_same n (λ g. length (log_of g h).rows) (λ g. length (log_at r.logs.logs g).rows) (λ g near. ap (λ (l : Log). length l.rows) (history.logs_are g (omega (arith, near, many))))
        ∙ sum_logs n r.logs.logs (logs.all ∙ many);
    kinds = ap (λ (x : Totals). x.inserts) totals ∙ kinds h history.legal ∙ sym (ap (λ (x : Totals). x.innovative + x.redundant + x.late) totals);
  }

-- ---- what a receiver without a goal leaves, as a function of the rows that came

enough_spans : (rows came : List ℕ) (goal : Option ℕ) → goal ≡ None → FrozenBy rows came goal → (x : ℕ) → in_span rows x ≡ in_span came x
enough_spans rows came goal none frozen x = ⊎_elim
    (λ same. same_span_members rows came same x)
    (λ (reached : (n : ℕ) × (goal ≡ Some n) × (n ≤ length rows)). absurd (cc (sym none ∙ reached.1)))
    frozen.enough

-- the log of a generation has the span of its rows
pub log-spans : (t : TicketFields) (plan : Plan) (gates : List (Change GateTold)) (r : ReceivedView) → plan.goal ≡ None → HasOneHistory t plan gates r → (g : ℕ) → g < generations t
    → (x : ℕ) → in_span (log_at r.logs.logs g).rows x ≡ in_span (rows_of g (all_taken t plan.limits gates)) x
log-spans t plan gates r none line g near = enough_spans (log_at r.logs.logs g).rows (rows_of g (all_taken t plan.limits gates)) plan.goal none (line.frozen g near)

-- and the answer is theirs
pub answer-taken : (t : TicketFields) (plan : Plan) (gates : List (Change GateTold)) (r : ReceivedView) → plan.goal ≡ None → HasOneHistory t plan gates r → (g : ℕ) (d : Option (List ℕ)) → g < generations t
    → get_or r.answers g d ≡ answer t.code (rows_of g (all_taken t plan.limits gates))
answer-taken t plan gates r none line g d near =
    ap (λ (x : List (Option (List ℕ))). get_or x g d) line.answers
    ∙ map_at (λ (l : Log). answer t.code l.rows) r.logs.logs g d unseen (omega (arith, near, line.all_logs))
    ∙ answer-same_span t.code (log_at r.logs.logs g).rows (rows_of g (all_taken t plan.limits gates)) (log-spans t plan gates r none line g near)
