-- Where the events of a gate stop, one event after another.
use Rattle.std.proofs.Common.{◌≡◌, ℕ, zero, suc, ◌+◌, ◌<◌, ◌≤◌, Bool, true, false, cond, List, [], ◌∷◌, ◌++◌, length, take, Option, Some, None, is_some, inl, inr, refl, sym, ap, ◌∙◌, arith, length-append}
use Rattle.std.specs.Prelude.{not, ◌==◌, nat_le, reverse, take_while, flat_map, count_by}
use Rattle.std.proofs.lemmas.Bool.Decides.{nat_tests}
use Rattle.std.proofs.lemmas.List.{append-nil, reverse-append}
use Rattle.std.proofs.lemmas.List.Sums.{sum_by-append, take_while-cons}
use Rattle.std.proofs.lemmas.Grind.{flat_map-append}
use Rattle.kk_code.specs.Ticket.{TicketFields}
use Rattle.kk_outside.specs.declared.event.Event.{Event}
use Rattle.kk_outside.specs.declared.event.Event.TheVariants.{Datagram, Quiet, Fault}
use Rattle.kk_frame.specs.declared.limits.Limits.{Limits}
use Rattle.kk_frame.specs.declared.gate_count.Ended.{Ended}
use Rattle.kk_frame.specs.declared.gate_count.Ended.TheVariants as ended
use Rattle.kk_frame.specs.declared.gate_count.Refused.{Refused}
use Rattle.kk_frame.specs.declared.gate_count.GateCount.{GateCount}
use Rattle.kk_frame.specs.Datagram.{has_datagram_length, has_end, readings, data_frames}
use Rattle.kk_frame.specs.Events.{datagrams, refused_of, counts_over, ends_with, reads_end, is_quiet, is_fault_event, last_quiets, end_with, shortest_prefix}
use Rattle.kk_frame.specs.Counting.{sum_of}
use Rattle.kk_frame.specs.Laws.{IsShortestPrefix, StopIsShortestPrefix}
use Rattle.kk_frame.proofs.Readings.{data_frames-append, refused_of-append}

-- ---- the shortest prefix that passes a test

cons_not_nil : (e : Event) (es : List Event) → [] ≡ e ∷ es → ⊥
cons_not_nil e es h = cc

tail_same : (e : Event) (xs ys : List Event) → e ∷ xs ≡ e ∷ ys → xs ≡ ys
tail_same e xs ys h = cc

-- a whole list of at least one element doesn't pass at its front, and goes on
whole_parts : (b : Bool) (e : Event) (later es : List Event) → cond b [] (e ∷ later) ≡ e ∷ es → (b ≡ false) × (later ≡ es)
whole_parts true e later es h = absurd (cons_not_nil e es h)
whole_parts false e later es h = (refl, tail_same e later es h)

-- where no prefix of a list passes, nor the list, it is the front of the shortest one
pub shortest_prefix-on : (test : List Event → Bool) (xs ys : List Event) → shortest_prefix test xs ≡ xs → test xs ≡ false → shortest_prefix test (xs ++ ys) ≡ xs ++ shortest_prefix (λ prefix. test (xs ++ prefix)) ys
unfolding shortest_prefix
shortest_prefix-on test [] ys whole none = refl
shortest_prefix-on test (x ∷ xs) ys whole none =
    let parts = whole_parts (test []) x (shortest_prefix (λ prefix. test (x ∷ prefix)) xs) xs whole in
    rw parts.0 (ap (λ rest. x ∷ rest) (shortest_prefix-on (λ prefix. test (x ∷ prefix)) xs ys parts.1 none))

-- where the list passes, and no shorter prefix, nothing after it is looked at
pub shortest_prefix-end : (test : List Event → Bool) (xs ys : List Event) → shortest_prefix test xs ≡ xs → test xs ≡ true → shortest_prefix test (xs ++ ys) ≡ xs
unfolding shortest_prefix
shortest_prefix-end test [] [] whole passes = refl
shortest_prefix-end test [] (y ∷ ys) whole passes = rw passes refl
shortest_prefix-end test (x ∷ xs) ys whole passes =
    let parts = whole_parts (test []) x (shortest_prefix (λ prefix. test (x ∷ prefix)) xs) xs whole in
    rw parts.0 (ap (λ rest. x ∷ rest) (shortest_prefix-end (λ prefix. test (x ∷ prefix)) xs ys parts.1 passes))

pub shortest_prefix-nil : (test : List Event → Bool) → shortest_prefix test [] ≡ []
unfolding shortest_prefix
shortest_prefix-nil test = refl

-- where no event doesn't pass, the first one is of the prefix
pub shortest_prefix-first : (test : List Event → Bool) (e : Event) (es : List Event) → test [] ≡ false → shortest_prefix test (e ∷ es) ≡ e ∷ shortest_prefix (λ prefix. test (e ∷ prefix)) es
unfolding shortest_prefix
shortest_prefix-first test e es none = rw none refl

pub shortest_prefix-push : (test : List Event → Bool) (xs : List Event) (e : Event) → shortest_prefix test xs ≡ xs → test xs ≡ false → shortest_prefix test (xs ++ e ∷ []) ≡ xs ++ e ∷ []
shortest_prefix-push test xs e whole none =
    shortest_prefix-on test xs (e ∷ []) whole none
    ∙ ap (λ more. xs ++ more) (shortest_prefix-first (λ prefix. test (xs ++ prefix)) e [] (ap test (append-nil xs) ∙ none) ∙ ap (λ more. e ∷ more) (shortest_prefix-nil (λ prefix. test (xs ++ e ∷ prefix))))

IsShortestPrefix-cons : (test : List Event → Bool) (e : Event) (es prefix : List Event) (b : Bool) → test [] ≡ b → IsShortestPrefix (λ p. test (e ∷ p)) es prefix → IsShortestPrefix test (e ∷ es) (cond b [] (e ∷ prefix))
IsShortestPrefix-cons test e es prefix true here h = record {
  after = e ∷ es;
  front = refl;
  shorter = λ n below. absurd (omega (arith, below));
  ends = inl here;
}
IsShortestPrefix-cons test e es prefix false here h = record {
  after = h.after;
  front = ap (λ l. e ∷ l) h.front;
  shorter = shorter;
  ends = elim h.ends [ inl passes ↦ inl passes | inr whole ↦ inr (ap (λ l. e ∷ l) whole) ];
}
  where
    shorter : (n : ℕ) → n < length (e ∷ prefix) → test (take n (e ∷ prefix)) ≡ false
    shorter zero below = here
    shorter (suc n) below = h.shorter n (omega (arith, below))

shortest_prefix-is : (test : List Event → Bool) (es : List Event) → IsShortestPrefix test es (shortest_prefix test es)
unfolding shortest_prefix
shortest_prefix-is test [] = record { after = []; front = refl; shorter = λ n below. absurd (omega (arith, below)); ends = inr refl }
shortest_prefix-is test (e ∷ es) =
    IsShortestPrefix-cons test e es (shortest_prefix (λ p. test (e ∷ p)) es) (test []) refl (shortest_prefix-is (λ p. test (e ∷ p)) es)

pub stop_is_shortest : StopIsShortestPrefix
stop_is_shortest size t limits es = shortest_prefix-is (λ prefix. is_some (end_with size t limits prefix)) es

-- ---- one event more

pub ends_with-push : (test : Event → Bool) (es : List Event) (e : Event) → ends_with test (es ++ e ∷ []) ≡ test e
ends_with-push test [] e = refl
ends_with-push test (first ∷ []) e = refl
ends_with-push test (first ∷ next ∷ es) e = ends_with-push test (next ∷ es) e

pub datagrams-append : (a b : List Event) → datagrams (a ++ b) ≡ datagrams a ++ datagrams b
datagrams-append [] b = refl
datagrams-append (Datagram bytes ∷ a) b = ap (λ ds. bytes ∷ ds) (datagrams-append a b)
datagrams-append (Quiet ∷ a) b = datagrams-append a b
datagrams-append (Fault ∷ a) b = datagrams-append a b

last_quiets-push : (es : List Event) (e : Event) → last_quiets (es ++ e ∷ []) ≡ length (cond (is_quiet e) (e ∷ take_while is_quiet (reverse es)) [])
last_quiets-push es e = ap (λ l. length (take_while is_quiet l)) (reverse-append es (e ∷ [])) ∙ ap length (take_while-cons is_quiet e (reverse es))

pub last_quiets-quiet : (es : List Event) → last_quiets (es ++ Quiet ∷ []) ≡ last_quiets es + 1
last_quiets-quiet es = last_quiets-push es Quiet ∙ omega arith

pub last_quiets-datagram : (es : List Event) (bytes : List ℕ) → last_quiets (es ++ Datagram bytes ∷ []) ≡ 0
last_quiets-datagram es bytes = last_quiets-push es (Datagram bytes)

pub last_quiets-fault : (es : List Event) → last_quiets (es ++ Fault ∷ []) ≡ 0
last_quiets-fault es = last_quiets-push es Fault

-- ---- why the gate ends with one event more

-- the four tests, as values
ended_by : (end : Bool) (datagrams most idle quiets : ℕ) (fault : Bool) → Option Ended
ended_by end datagrams most idle quiets fault =
    cond end (Some ended.End) (cond (datagrams == most) (Some ended.Most) (cond (nat_le idle quiets) (Some ended.Idle) (cond fault (Some ended.Fault) None)))

end_with-is : (size : ℕ) (t : TicketFields) (limits : Limits) (es : List Event) → end_with size t limits es ≡ ended_by (ends_with (reads_end size t) es) (length (datagrams es)) limits.most limits.idle (last_quiets es) (ends_with is_fault_event es)
unfolding end_with ended_by
end_with-is size t limits es = refl

end_with-push : (size : ℕ) (t : TicketFields) (limits : Limits) (es : List Event) (e : Event) (n q : ℕ) → length (datagrams (es ++ e ∷ [])) ≡ n → last_quiets (es ++ e ∷ []) ≡ q → end_with size t limits (es ++ e ∷ []) ≡ ended_by (reads_end size t e) n limits.most limits.idle q (is_fault_event e)
end_with-push size t limits es e n q count quiets =
    end_with-is size t limits (es ++ e ∷ [])
    ∙ ap (λ b. ended_by b (length (datagrams (es ++ e ∷ []))) limits.most limits.idle (last_quiets (es ++ e ∷ [])) (ends_with is_fault_event (es ++ e ∷ []))) (ends_with-push (reads_end size t) es e)
    ∙ ap (λ b. ended_by (reads_end size t e) (length (datagrams (es ++ e ∷ []))) limits.most limits.idle (last_quiets (es ++ e ∷ [])) b) (ends_with-push is_fault_event es e)
    ∙ ap (λ k. ended_by (reads_end size t e) k limits.most limits.idle (last_quiets (es ++ e ∷ [])) (is_fault_event e)) count
    ∙ ap (λ k. ended_by (reads_end size t e) n limits.most limits.idle k (is_fault_event e)) quiets

pub end_with-nil : (size : ℕ) (t : TicketFields) (limits : Limits) → 1 ≤ limits.idle → 1 ≤ limits.most → end_with size t limits [] ≡ None
unfolding end_with
end_with-nil size t limits idle most = grind (arith, nat_tests)

pub end_with-quiet : (size : ℕ) (t : TicketFields) (limits : Limits) (es : List Event) (n q : ℕ) → length (datagrams es) ≡ n → last_quiets es ≡ q → n < limits.most → q < limits.idle → end_with size t limits (es ++ Quiet ∷ []) ≡ cond (q + 1 == limits.idle) (Some ended.Idle) None
unfolding ended_by
end_with-quiet size t limits es n q count quiets few fewer =
    let same : length (datagrams (es ++ Quiet ∷ [])) ≡ n = ap length (datagrams-append es (Quiet ∷ []) ∙ append-nil (datagrams es)) ∙ count in
    let more : last_quiets (es ++ Quiet ∷ []) ≡ q + 1 = last_quiets-quiet es ∙ ap (λ k. k + 1) quiets in
    end_with-push size t limits es Quiet n (q + 1) same more ∙ grind (arith, nat_tests)

pub end_with-datagram : (size : ℕ) (t : TicketFields) (limits : Limits) (es : List Event) (bytes : List ℕ) (n : ℕ) → length (datagrams es) ≡ n → 1 ≤ limits.idle → end_with size t limits (es ++ Datagram bytes ∷ []) ≡ cond (has_end (readings size t bytes)) (Some ended.End) (cond (n + 1 == limits.most) (Some ended.Most) None)
unfolding ended_by
end_with-datagram size t limits es bytes n count some =
    let more : length (datagrams (es ++ Datagram bytes ∷ [])) ≡ n + 1 = ap length (datagrams-append es (Datagram bytes ∷ [])) ∙ omega (arith, length-append (datagrams es) (bytes ∷ []), count) in
    let late : nat_le limits.idle 0 ≡ false = grind (arith, nat_tests) in
    end_with-push size t limits es (Datagram bytes) (n + 1) 0 more (last_quiets-datagram es bytes) ∙ rw late refl

pub end_with-fault : (size : ℕ) (t : TicketFields) (limits : Limits) (es : List Event) (n : ℕ) → length (datagrams es) ≡ n → n < limits.most → 1 ≤ limits.idle → end_with size t limits (es ++ Fault ∷ []) ≡ Some ended.Fault
unfolding ended_by
end_with-fault size t limits es n count few some =
    let same : length (datagrams (es ++ Fault ∷ [])) ≡ n = ap length (datagrams-append es (Fault ∷ []) ∙ append-nil (datagrams es)) ∙ count in
    end_with-push size t limits es Fault n 0 same (last_quiets-fault es) ∙ grind (arith, nat_tests)

-- ---- the counts with one event more

-- the counts, by the datagrams alone
counts_in : ℕ → TicketFields → Option Ended → List (List ℕ) → GateCount
counts_in size t end ds = record {
  ended = end;
  datagrams = length ds;
  frames = length (data_frames (flat_map (readings size t) ds));
  refused = refused_of (count_by (λ bytes. not (has_datagram_length size bytes)) ds) (flat_map (readings size t) ds);
}

counts_over-is : (size : ℕ) (t : TicketFields) (end : Option Ended) (es : List Event) → counts_over size t end es ≡ counts_in size t end (datagrams es)
unfolding counts_in
counts_over-is size t end es = refl

abbrev pub gate_count : Option Ended → ℕ → ℕ → Refused → GateCount
gate_count end n m r = record { ended = end; datagrams = n; frames = m; refused = r }

pub same_counts : (end end' : Option Ended) (n n' m m' : ℕ) (r r' : Refused) → end ≡ end' → n ≡ n' → m ≡ m' → r ≡ r' → gate_count end n m r ≡ gate_count end' n' m' r'
same_counts end end' n n' m m' r r' ee en em er = cc

-- an event that is no datagram changes no count
pub counts_over-other : (size : ℕ) (t : TicketFields) (end : Option Ended) (es : List Event) (e : Event) → datagrams (e ∷ []) ≡ [] → counts_over size t end (es ++ e ∷ []) ≡ counts_over size t end es
counts_over-other size t end es e none =
    counts_over-is size t end (es ++ e ∷ [])
    ∙ ap (counts_in size t end) (datagrams-append es (e ∷ []) ∙ ap (λ ds. datagrams es ++ ds) none ∙ append-nil (datagrams es))
    ∙ sym (counts_over-is size t end es)

-- the counts of a gate with one datagram more
abbrev pub with_datagram : ℕ → TicketFields → Option Ended → GateCount → List ℕ → GateCount
with_datagram size t end c bytes = record {
  ended = end;
  datagrams = c.datagrams + 1;
  frames = c.frames + length (data_frames (readings size t bytes));
  refused = sum_of c.refused (refused_of (cond (has_datagram_length size bytes) 0 1) (readings size t bytes));
}

bad_length : (good : Bool) → 0 + cond (not good) 1 0 ≡ cond good 0 1
bad_length true = refl
bad_length false = refl

pub counts_over-datagram : (size : ℕ) (t : TicketFields) (end : Option Ended) (es : List Event) (bytes : List ℕ) → counts_over size t end (es ++ Datagram bytes ∷ []) ≡ with_datagram size t end (counts_over size t end es) bytes
unfolding counts_in
counts_over-datagram size t end es bytes =
    let ds = datagrams es in
    let all = flat_map (readings size t) ds in
    let rs = readings size t bytes in
    let bad : List (List ℕ) → ℕ = λ l. count_by (λ d. not (has_datagram_length size d)) l in
    let split : flat_map (readings size t) (ds ++ bytes ∷ []) ≡ all ++ rs = flat_map-append (readings size t) ds (bytes ∷ []) ∙ ap (λ more. all ++ more) (append-nil rs) in
    let count : length (ds ++ bytes ∷ []) ≡ length ds + 1 = omega (arith, length-append ds (bytes ∷ [])) in
    let frames : length (data_frames (flat_map (readings size t) (ds ++ bytes ∷ []))) ≡ length (data_frames all) + length (data_frames rs) =
    ap (λ l. length (data_frames l)) split ∙ ap length (data_frames-append all rs) ∙ length-append (data_frames all) (data_frames rs) in
    let wrong : bad (ds ++ bytes ∷ []) ≡ bad ds + cond (has_datagram_length size bytes) 0 1 =
    (let split : bad (ds ++ bytes ∷ []) ≡ bad ds + bad (bytes ∷ []) = sum_by-append _ ds (bytes ∷ []) in
    let one : bad (bytes ∷ []) ≡ cond (has_datagram_length size bytes) 0 1 = bad_length (has_datagram_length size bytes) in
    split ∙ ap (λ n. bad ds + n) one) in
    let refused : refused_of (bad (ds ++ bytes ∷ [])) (flat_map (readings size t) (ds ++ bytes ∷ [])) ≡ sum_of (refused_of (bad ds) all) (refused_of (cond (has_datagram_length size bytes) 0 1) rs) =
    ap (λ n. refused_of n (flat_map (readings size t) (ds ++ bytes ∷ []))) wrong ∙ ap (refused_of (bad ds + cond (has_datagram_length size bytes) 0 1)) split
    ∙ refused_of-append (bad ds) (cond (has_datagram_length size bytes) 0 1) all rs in
    counts_over-is size t end (es ++ Datagram bytes ∷ []) ∙ ap (counts_in size t end) (datagrams-append es (Datagram bytes ∷ []))
    ∙ same_counts end end _ _ _ _ _ _ refl count frames refused
    ∙ ap (λ c. with_datagram size t end c bytes) (sym (counts_over-is size t end es))
