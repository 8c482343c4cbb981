-- What the frozen spaces of a run are, and how its inserts are counted.
use Rattle.std.proofs.Common.{◌≡◌, ◌≢◌, ◌==◌, ℕ, zero, suc, ◌+◌, ◌<◌, ◌≤◌, Bool, true, false, not, if◌then◌else◌, List, [], ◌∷◌, ◌++◌, length, get_or, Option, Some, None, refl, sym, ap, ◌∙◌, subst, arith, ⊎_elim, inl, inr, true≢false, ne_eqb}
use Rattle.std.specs.Prelude.{Contains, ◌⊎◌, sum_by, filter, flat_map, is_none, unwrap_or}
use Rattle.std.specs.List.{range_with_len}
use Rattle.std.proofs.lemmas.Bool.{cases_lt}
use Rattle.std.proofs.lemmas.Option.{same_Some}
use Rattle.std.proofs.lemmas.List.Elements.{Contains-append_left, Contains-append_right, Contains-append_cases, Contains-get_or, Contains-push}
use Rattle.std.proofs.lemmas.List.{map-append}
use Rattle.std.proofs.lemmas.List.Sums.{sum_by-cons}
use mathlib.Core.Logic.{dite}
use native.Mathlib.Decide.{ℕ_discrete}
use Rattle.kk_code.specs.Codeword.{Parameters}
use Rattle.kk_code.specs.Decoding.{answer}
use Rattle.kk_frame.specs.Generation.{rows_of}
use Rattle.kk_machine.specs.declared.log.Log.{Log}
use Rattle.kk_machine.specs.declared.call.Call.{Call}
use Rattle.kk_machine.specs.declared.call.Call.TheVariants.{Insert, Freeze, Peek}
use Rattle.kk_machine.specs.declared.call.Entry.{Entry}
use Rattle.kk_machine.specs.History.{log_of, own}
use Rattle.kk_machine.specs.Inserts.{EachCall, AreBelow, is_freeze, StandsBefore, ClosedLast, InTime, closes, FrozenBy, row_into, rows_into, tally, in_generation, of_reply, one_if, innovative, late, froze, freezes, with_rank, sum_below}
use Rattle.kk_machine.proofs.Counted.{in_time, rows_of_own, rows_owned, no_late, own_none, closes_or_not, frozen_by, frozen_once, tally_of_own, tally_by_number, sum_same, sum_nothing}
use Rattle.kk_machine.proofs.Runs.{innovations}
use Rattle.kk_machine.proofs.Tallies.{EachCall-none, AreBelow-none, AreBelow-own, tally-none, tally_by_generation, freezes_bring_none}
use Rattle.kk_table.specs.declared.view.Shape.{Shape}
use Rattle.kk_table.specs.declared.view.Known.{Known}
use Rattle.kk_table.specs.Rule.{sight, numbers_of}
use Rattle.kk_table.specs.Logs.{IsHistoryOf}
use Rattle.kk_workers.specs.Totals.{totals_in, no_totals}
use Rattle.kk_workers.specs.WorkerCalls.{brought, all_brought, InsertsFor, AreAnswers}
use Rattle.kk_workers.specs.Runs.{kept_answer, closing_answer, Closes}
use Rattle.kk_workers.specs.Received.{is_open, open_after}
use Rattle.kk_workers.proofs.Goals.{told_goal}
use Rattle.kk_workers.proofs.Firsts.{own_froze, frozen_before}
use Rattle.kk_workers.proofs.Kept.{kept_some, kept_none}

-- ---- rows

rows_of-append : (g : ℕ) (a b : List (ℕ × ℕ)) → rows_of g (a ++ b) ≡ rows_of g a ++ rows_of g b
unfolding rows_of
rows_of-append g [] b = refl
rows_of-append g (f ∷ fs) b = by_case (f.0 == g) (rows_of-append g fs b)
  where
    by_case : (here : Bool) → rows_of g (fs ++ b) ≡ rows_of g fs ++ rows_of g b
        → (if here then f.1 ∷ rows_of g (fs ++ b) else rows_of g (fs ++ b)) ≡ (if here then f.1 ∷ rows_of g fs else rows_of g fs) ++ rows_of g b
    by_case true rest = ap (λ (l : List ℕ). f.1 ∷ l) rest
    by_case false rest = rest

-- the rows that calls bring are those of the frames that they insert
pub rows_of-brought : (g : ℕ) (es : List Entry) → rows_into g es ≡ rows_of g (all_brought es)
unfolding rows_into rows_of all_brought
rows_of-brought g [] = refl
rows_of-brought g (e ∷ es) = by_call e.call (rows_of-brought g es)
  where
    by_case : (here : Bool) (row : ℕ) → rows_into g es ≡ rows_of g (all_brought es)
        → (if here then row ∷ [] else []) ++ rows_into g es ≡ (if here then row ∷ rows_of g (all_brought es) else rows_of g (all_brought es))
    by_case true row rest = ap (λ (l : List ℕ). row ∷ l) rest
    by_case false row rest = rest

    by_call : (call : Call) → rows_into g es ≡ rows_of g (all_brought es) → row_into g call ++ rows_into g es ≡ rows_of g (brought call ++ all_brought es)
    by_call (Insert k row) rest = by_case (k == g) row.0 rest
    by_call (Freeze k) rest = rest
    by_call (Peek k) rest = rest

-- the rows that the calls of all records bring to a generation
pub rows_of_all : ℕ → List Known → List ℕ
rows_of_all g [] = []
rows_of_all g (r ∷ rs) = rows_into g r.calls ++ rows_of_all g rs

-- are the rows of the frames that all records insert
pub rows_of_all-brought : (g : ℕ) (rs : List Known) → rows_of_all g rs ≡ rows_of g (flat_map (λ (r : Known). all_brought r.calls) rs)
unfolding rows_of rows_of_all
rows_of_all-brought g [] = refl
rows_of_all-brought g (r ∷ rs) =
    (λ i. rows_of-brought g r.calls i ++ rows_of_all-brought g rs i)
    ∙ sym (rows_of-append g (all_brought r.calls) (flat_map (λ (r : Known). all_brought r.calls) rs))

-- ---- membership

no_rows : (g : ℕ) → rows_into g [] ≡ []
unfolding rows_into
no_rows g = refl

nobody_stands : (m n : ℕ) (h : List Entry) → own m h ≡ [] → StandsBefore m n h
unfolding StandsBefore
nobody_stands m n [] none = tt
nobody_stands m n (e ∷ es) none = let rest = (own_none m e es none).1 in (λ same. rest, nobody_stands m n es rest)

empty_each : (test : Call → Bool) (es : List Entry) → es ≡ [] → EachCall test es
empty_each test es none = subst (EachCall test) (sym none) (EachCall-none test)

nothing : (x : ℕ) → Contains [] x → ⊥
nothing x is = omega (arith, is.1)

all_owned : (g : ℕ) (rs : List Known) (x : ℕ) → Contains (rows_of_all g rs) x → (i : ℕ) × (i < length rs) × ((d : Known) → Contains (rows_into g (get_or rs i d).calls) x)
unfolding rows_of_all
all_owned g [] x is = absurd (nothing x is)
all_owned g (r ∷ rs) x is = ⊎_elim
    (λ here. (zero, omega arith, λ d. here))
    (λ later. let o = all_owned g rs x later in (suc o.0, omega (arith, o.1), λ d. o.2 d))
    (Contains-append_cases (rows_into g r.calls) (rows_of_all g rs) x is)

owned_all : (g : ℕ) (rs : List Known) (i : ℕ) (d : Known) (x : ℕ) → i < length rs → Contains (rows_into g (get_or rs i d).calls) x → Contains (rows_of_all g rs) x
unfolding rows_of_all
owned_all g [] i d x h is = absurd (omega (arith, h))
owned_all g (r ∷ rs) zero d x h is = Contains-append_left (rows_into g r.calls) (rows_of_all g rs) x is
owned_all g (r ∷ rs) (suc i) d x h is = Contains-append_right (rows_into g r.calls) (rows_of_all g rs) x (owned_all g rs i d x (omega (arith, h)) is)

numbers-at : (rs : List Known) (i : ℕ) (d : Known) → i < length rs → (n : ℕ) → (get_or rs i d).number ≡ n → Contains (numbers_of rs) n
numbers-at [] i d h n is = absurd (omega (arith, h))
numbers-at (r ∷ rs) zero d h n is = (zero, omega arith, is)
numbers-at (r ∷ rs) (suc i) d h n is = Contains-append_right (r.number ∷ []) (numbers_of rs) n (numbers-at rs i d (omega (arith, h)) n is)

the_one : (a n : ℕ) → Contains (a ∷ []) n → a ≡ n
the_one a n c = let z : c.0 ≡ 0 = omega (arith, c.1) in subst (λ (i : ℕ). get_or (a ∷ []) i n ≡ n) z c.2

numbered : (rs : List Known) (k : ℕ) → ((i : ℕ) (d : Known) → i < length rs → (get_or rs i d).number ≡ k + i) → (n : ℕ) → Contains (numbers_of rs) n → (k ≤ n) × (n < k + length rs)
numbered [] k numbers n is = absurd (nothing n is)
numbered (r ∷ rs) k numbers n is = ⊎_elim
    (λ here. let e : r.number ≡ n = the_one r.number n here in let first = numbers 0 r (omega arith) in (omega (arith, e, first), omega (arith, e, first)))
    (λ later. let rest = numbered rs (k + 1) (λ i d h. numbers (suc i) d (omega (arith, h)) ∙ omega arith) n later in (omega (arith, rest.0), omega (arith, rest.1)))
    (Contains-append_cases (r.number ∷ []) (numbers_of rs) n is)

-- ---- sums

sum_shift : (n : ℕ) (F : ℕ → ℕ) → sum_below (suc n) F ≡ F 0 + sum_below n (λ i. F (i + 1))
unfolding sum_below
sum_shift zero F = omega arith
sum_shift (suc n) F = omega (arith, sum_shift n F, ap F {x = suc n} {y = n + 1} (omega arith))

sum_middle : (k : ℕ) (F : ℕ → ℕ) → F (suc k) ≡ 0 → F 0 ≡ 0 → sum_below (k + 2) F ≡ sum_below k (λ i. F (i + 1))
unfolding sum_below
sum_middle k F end start = ap (λ (m : ℕ). sum_below m F) {x = k + 2} {y = suc (suc k)} (omega arith) ∙ omega (arith, sum_shift k F, end, start)

pub sum_list : {X : Type 0} (f : X → ℕ) (rs : List X) (F : ℕ → ℕ) → ((i : ℕ) (d : X) → i < length rs → F i ≡ f (get_or rs i d)) → sum_below (length rs) F ≡ sum_by f rs
unfolding sum_below
sum_list f [] F is = refl
sum_list f (r ∷ rs) F is =
    sum_shift (length rs) F
    ∙ omega (
      arith,
      is 0 r (omega arith),
      sum_by-cons f r rs,
      sum_list f rs (λ i. F (i + 1)) (λ i d near. ap F {x = i + 1} {y = suc i} (omega arith) ∙ is (suc i) d (omega (arith, near))),
    )

-- ---- who froze

-- one of the records freezes the generation, or none does
one_closes : (g : ℕ) (rs : List Known)
    → ((i : ℕ) × (i < length rs) × ((d : Known) → 0 < tally (freezes g) (get_or rs i d).calls)) ⊎ ((i : ℕ) (d : Known) → i < length rs → EachCall (λ call. not (closes g call)) (get_or rs i d).calls)
one_closes g [] = inr (λ i d near. absurd (omega (arith, near)))
one_closes g (r ∷ rs) = ⊎_elim
    (λ shuts. inl (zero, omega arith, λ d. shuts))
    (λ stays. ⊎_elim
    (λ (later : (i : ℕ) × (i < length rs) × ((d : Known) → 0 < tally (freezes g) (get_or rs i d).calls)). inl (suc later.0, omega (arith, later.1), later.2))
    (λ rest. inr (none_closes r rs stays rest))
    (one_closes g rs))
    (closes_or_not g r.calls)
  where
    none_closes : (r : Known) (rs : List Known) → EachCall (λ call. not (closes g call)) r.calls → ((i : ℕ) (d : Known) → i < length rs → EachCall (λ call. not (closes g call)) (get_or rs i d).calls)
        → (i : ℕ) (d : Known) → i < length (r ∷ rs) → EachCall (λ call. not (closes g call)) (get_or (r ∷ rs) i d).calls
    none_closes r rs first rest zero d near = first
    none_closes r rs first rest (suc i) d near = rest i d (omega (arith, near))

sum_at : (f : Known → ℕ) (rs : List Known) (i : ℕ) (d : Known) → i < length rs → f (get_or rs i d) ≤ sum_by f rs
sum_at f [] i d near = absurd (omega (arith, near))
sum_at f (r ∷ rs) zero d near = omega (arith, sum_by-cons f r rs)
sum_at f (r ∷ rs) (suc i) d near = omega (arith, sum_by-cons f r rs, sum_at f rs i d (omega (arith, near)))

sum_none : (f : Known → ℕ) (rs : List Known) → ((i : ℕ) (d : Known) → i < length rs → f (get_or rs i d) ≡ 0) → sum_by f rs ≡ 0
sum_none f [] none = refl
sum_none f (r ∷ rs) none = omega (arith, sum_by-cons f r rs, none 0 r (omega arith), sum_none f rs (λ i d near. none (suc i) d (omega (arith, near))))

filter_same_below : (test other : ℕ → Bool) (a n : ℕ) → ((x : ℕ) → x < a + n → test x ≡ other x) → filter test (range_with_len a n) ≡ filter other (range_with_len a n)
filter_same_below test other a zero same = refl
filter_same_below test other a (suc n) same =
    (λ k. if same a (omega arith) k then a ∷ filter test (range_with_len (a + 1) n) else filter test (range_with_len (a + 1) n))
    ∙ ap (λ (l : List ℕ). if other a then a ∷ l else l) (filter_same_below test other (a + 1) n (λ x near. same x (omega (arith, near))))

closed_none : (g : ℕ) (es : List Entry) → EachCall (λ call. not (closes g call)) es → tally (freezes g) es ≡ 0
unfolding EachCall tally
closed_none g [] each = refl
closed_none g (e ∷ es) each = omega (arith, one (closes g e.call) each.0, closed_none g es each.1)
  where
    one : (b : Bool) → not b ≡ true → one_if b ≡ 0
    one true is = absurd (true≢false (sym is))
    one false is = refl

some_or_none : (m : ℕ) → (0 < m) ⊎ (m ≡ 0)
some_or_none zero = inr refl
some_or_none (suc m) = inl (omega arith)

not_zero : (m : ℕ) → 0 < m → (m == 0) ≡ false
not_zero m some = ne_eqb m 0 (λ same. omega (arith, same, some))

found_or_not : (o : Option (Option (List ℕ))) → ((a : Option (List ℕ)) × (o ≡ Some a)) ⊎ (o ≡ None)
found_or_not None = inr refl
found_or_not (Some a) = inl (a, refl)

-- ---- a run

-- The passes are numbered from 1, and insert and freeze at the goal; one that was given after all others were taken back only
-- freezes.
pub record IsRun (n : ℕ) (goal : Option ℕ) (records : List Known) (closing : Known) : Type 0 where
  pub numbers : (i : ℕ) (d : Known) → i < length records → (get_or records i d).number ≡ i + 1
  pub inserts : (i : ℕ) (d : Known) → i < length records → InsertsFor goal (get_or records i d).calls
  pub below : (i : ℕ) (d : Known) → i < length records → AreBelow n (get_or records i d).calls
  pub number : closing.number ≡ length records + 1
  pub note : closing.note ≡ numbers_of records
  pub freezes : EachCall is_freeze closing.calls
  pub closing_below : AreBelow n closing.calls
  pub no_inserts : totals_in closing.calls ≡ no_totals

-- The answers are those that the passes kept.
pub record AreKept (p : Parameters) (n : ℕ) (records : List Known) (kept : List (List (Option (Option (List ℕ))))) : Type 0 where
  pub all : length kept ≡ length records
  pub each : (i : ℕ) (d : Known) (room : List (Option (Option (List ℕ)))) → i < length records → (length (get_or kept i room) ≡ n) × AreAnswers p (get_or records i d) (get_or kept i room)

module _ (shape : Shape) (n : ℕ) (goal : Option ℕ) (records : List Known) (closing : Known) (logs : ℕ → Log) (h : List Entry)
    (run : IsRun n goal records closing) (is : IsHistoryOf shape (records ++ closing ∷ []) logs h) where
  abbrev last : ℕ
  last = length records + 1

  mine : own last h ≡ closing.calls
  mine = subst (λ (m : ℕ). own m h ≡ closing.calls) run.number (is.calls closing (Contains-push records closing))

  theirs : (i : ℕ) (d : Known) → i < length records → own (i + 1) h ≡ (get_or records i d).calls
  theirs i d inside = subst (λ (m : ℕ). own m h ≡ (get_or records i d).calls) (run.numbers i d inside)
      (is.calls (get_or records i d) (Contains-append_left records (closing ∷ []) (get_or records i d) (Contains-get_or records i d inside)))

  others_none : (m : ℕ) → m ≢ last → (m ≡ 0) ⊎ (length records < m) → own m h ≡ []
  others_none m apart far = is.nobody_else m (λ c. ⊎_elim
      (λ left. let w = numbered records 1 (λ i d inside. run.numbers i d inside ∙ omega arith) m left in ⊎_elim (λ z. omega (arith, z, w.0)) (λ big. omega (arith, big, w.1)) far)
      (λ right. apart (sym (the_one closing.number m right) ∙ run.number))
      (Contains-append_cases (numbers_of records) (closing.number ∷ []) m (subst (λ (x : List ℕ). Contains x m) (map-append (λ r. r.number) records (closing ∷ [])) c)))

  -- a number is the closing pass's, a gate's, or nobody's
  whose : (m : ℕ) → m ≢ last → ((i : ℕ) × (i < length records) × (m ≡ i + 1)) ⊎ (own m h ≡ [])
  whose zero apart = inr (others_none zero apart (inl refl))
  whose (suc i) apart = ⊎_elim (λ small. inl (i, small, omega arith)) (λ big. inr (others_none (suc i) apart (inr (omega (arith, big))))) (cases_lt i (length records))

  last_of_all : (m : ℕ) → m ≢ last → StandsBefore m last h
  last_of_all m apart = ⊎_elim
      (λ w. subst (λ (k : ℕ). StandsBefore m k h) run.number
      (is.noted closing (Contains-push records closing) m
      (subst (λ (x : List ℕ). Contains x m) (sym run.note) (numbers-at records w.0 closing w.1 m (run.numbers w.0 closing w.1 ∙ sym w.2)))))
      (λ none. nobody_stands m last h none)
      (whose m apart)

  closed_last : (g : ℕ) → ((i : ℕ) (d : Known) → i < length records → EachCall (λ call. not (closes g call)) (get_or records i d).calls) → ClosedLast last g h
  closed_last g none_closes = record {
    closing = subst (EachCall is_freeze) (sym mine) run.freezes;
    others = λ m apart. ⊎_elim
        (λ w. subst (λ (k : ℕ). EachCall (λ call. not (closes g call)) (own k h)) (sym w.2) (subst (EachCall (λ call. not (closes g call))) (sym (theirs w.0 closing w.1)) (none_closes w.0 closing w.1)))
        (λ none. empty_each (λ call. not (closes g call)) (own m h) none)
        (whose m apart);
    before = last_of_all;
  }

  -- a generation is closed in time, or an insert was told the goal as its rank
  in_time_or_reached : (g : ℕ) → InTime g h ⊎ ((n : ℕ) × (goal ≡ Some n) × (0 < tally (in_generation g (with_rank n)) h))
  in_time_or_reached g = ⊎_elim
      (λ (one : (i : ℕ) × (i < length records) × ((d : Known) → 0 < tally (freezes g) (get_or records i d).calls)).
      let told = told_goal goal g (get_or records one.0 closing).calls (run.inserts one.0 closing one.1) (one.2 closing) in
      inr (told.0, told.1, omega (arith, told.2, ap (tally (in_generation g (with_rank told.0))) (theirs one.0 closing one.1), tally_of_own (in_generation g (with_rank told.0)) (one.0 + 1) h)))
      (λ none. inl (in_time last g h (closed_last g none)))
      (one_closes g records)

  in_time_all : goal ≡ None → (g : ℕ) → InTime g h
  in_time_all none g = ⊎_elim
      (λ early. early)
      (λ (reached : (n : ℕ) × (goal ≡ Some n) × (0 < tally (in_generation g (with_rank n)) h)). absurd (cc (sym none ∙ reached.1)))
      (in_time_or_reached g)

  -- each log is a frozen space of the rows that came
  pub frozen : (g : ℕ) → g < shape.generations → FrozenBy (logs g).rows (rows_of_all g records) goal
  frozen g near = subst (λ (l : Log). FrozenBy l.rows (rows_of_all g records) goal) (is.logs_are g near)
      (frozen_by g h (rows_of_all g records) goal is.legal
      (λ x c. let o = all_owned g records x c in
      rows_of_own g (o.0 + 1) h x (subst (λ (es : List Entry). Contains (rows_into g es) x) (sym (theirs o.0 closing o.1)) (o.2 closing)))
      (λ x c. let o = rows_owned g h x c in
      dite (ℕ_discrete o.0 last)
      (λ same. absurd (nothing x (subst (λ (y : List ℕ). Contains y x) (freezes_bring_none g closing.calls run.freezes)
      (subst (λ (es : List Entry). Contains (rows_into g es) x) mine (subst (λ (m : ℕ). Contains (rows_into g (own m h)) x) same o.1)))))
      (λ apart. ⊎_elim
      (λ w. owned_all g records w.0 closing x w.1 (subst (λ (es : List Entry). Contains (rows_into g es) x) (theirs w.0 closing w.1) (subst (λ (m : ℕ). Contains (rows_into g (own m h)) x) w.2 o.1)))
      (λ none. absurd (gone g x (own o.0 h) none o.1))
      (whose o.0 apart)))
      (in_time_or_reached g))
    where
      gone : (g x : ℕ) (es : List Entry) → es ≡ [] → Contains (rows_into g es) x → ⊥
      gone g x es none c = nothing x (subst (λ (y : List ℕ). Contains y x) (ap (rows_into g) none ∙ no_rows g) c)

  below_all : AreBelow n h
  below_all = AreBelow-own n h (λ m. dite (ℕ_discrete m last)
      (λ same. subst (λ (k : ℕ). AreBelow n (own k h)) (sym same) (subst (AreBelow n) (sym mine) run.closing_below))
      (λ apart. ⊎_elim
      (λ w. subst (λ (k : ℕ). AreBelow n (own k h)) (sym w.2) (subst (AreBelow n) (sym (theirs w.0 closing w.1)) (run.below w.0 closing w.1)))
      (λ none. subst (AreBelow n) (sym none) (AreBelow-none n))
      (whose m apart)))

  -- a count that the closing pass doesn't raise is that of the gates' passes
  pub counted_all : (f : Entry → ℕ) → tally f closing.calls ≡ 0 → tally f h ≡ sum_by (λ (r : Known). tally f r.calls) records
  counted_all f none =
      let F : ℕ → ℕ = λ m. tally f (own m h) in
      let far : (m : ℕ) → length records + 2 ≤ m → own m h ≡ [] = λ m le. others_none m (λ same. omega (arith, same, le)) (inr (omega (arith, le))) in
      let last_none : F (suc (length records)) ≡ 0 = ap F {x = suc (length records)} {y = last} (omega arith) ∙ ap (tally f) mine ∙ none in
      let first_none : F 0 ≡ 0 = ap (tally f) (others_none 0 (λ same. omega (arith, same)) (inl refl)) ∙ tally-none f in
      tally_by_number f h (length records + 2) far
      ∙ sum_middle (length records) F last_none first_none
      ∙ sum_list (λ (r : Known). tally f r.calls) records (λ i. F (i + 1)) (λ i d near. ap (tally f) (theirs i d near))

  -- without a goal no insert is late
  pub nobody_late : goal ≡ None → tally (of_reply late) h ≡ 0
  nobody_late none = tally_by_generation late n h below_all ∙ sum_same n (λ g. tally (in_generation g late) h) (λ g. 0) (λ g near. no_late g h is.legal (in_time_all none g)) ∙ sum_nothing n

  -- the innovative replies number the rows
  pub innovative_all : tally (of_reply innovative) h ≡ sum_below n (λ g. length (log_of g h).rows)
  innovative_all = tally_by_generation innovative n h below_all ∙ sum_same n (λ g. tally (in_generation g innovative) h) (λ g. length (log_of g h).rows) (λ g near. innovations g h is.legal)

  -- ---- what is open after the gates

  module _ (p : Parameters) (kept : List (List (Option (Option (List ℕ))))) (many : shape.generations ≡ n) (keeps : AreKept p n records kept) (shuts : Closes kept n closing) where
    -- what a worker kept is the answer of the log
    there : (g : ℕ) → g < n → (a : Option (List ℕ)) → kept_answer kept g ≡ Some a
        → (a ≡ answer p (logs g).rows) × ((logs g).closed ≡ true) × (0 < sum_by (λ (r : Known). tally (freezes g) r.calls) records)
    there g below a found =
        let one = kept_some kept g a found in
        let near : one.0 < length records = omega (arith, one.1, keeps.all) in
        let k = get_or records one.0 closing in
        let each = keeps.each one.0 closing [] near in
        let are = each.1 g (omega (arith, below, each.0)) in
        let at = one.2 [] in
        ⊎_elim
        (λ (some : 0 < tally (in_generation g froze) k.calls).
        let known = are.0 some in
        let whole = (is.seen k (Contains-append_left records (closing ∷ []) k (Contains-get_or records one.0 closing near)) g (omega (arith, below, many))).whole known.1 in
        let told : tally (in_generation g froze) k.calls ≤ tally (freezes g) k.calls =
        subst (λ (es : List Entry). tally (in_generation g froze) es ≤ tally (freezes g) es) (theirs one.0 closing near) (own_froze g (one.0 + 1) h is.legal) in (
          same_Some a (answer p (sight k g).rows) (sym at ∙ known.0) ∙ ap (λ (l : Log). answer p l.rows) (sym whole),
          ap (λ (l : Log). l.closed) whole ∙ known.1,
          omega (arith, some, told, sum_at (λ (r : Known). tally (freezes g) r.calls) records one.0 closing near),
        ))
        (λ (none : tally (in_generation g froze) k.calls ≡ 0). absurd (cc (sym at ∙ are.1 none)))
        (some_or_none (tally (in_generation g froze) k.calls))

    -- and the closing pass has seen the others
    seen_last : (g : ℕ) → g < n → kept_answer kept g ≡ None → (logs g ≡ sight closing g) × ((logs g).closed ≡ true)
    seen_last g below none =
        let closed = shuts.closed g below none in
        let whole = (is.seen closing (Contains-push records closing) g (omega (arith, below, many))).whole closed in
        (whole, ap (λ (l : Log). l.closed) whole ∙ closed)

    pub all_closed : (g : ℕ) → g < n → (logs g).closed ≡ true
    all_closed g below = ⊎_elim
        (λ (some : (a : Option (List ℕ)) × (kept_answer kept g ≡ Some a)). (there g below some.0 some.1).1)
        (λ none. (seen_last g below none).1)
        (found_or_not (kept_answer kept g))

    pub answer_closing : (g : ℕ) → g < n → closing_answer p kept closing g ≡ answer p (logs g).rows
    answer_closing g below = ⊎_elim
        (λ (some : (a : Option (List ℕ)) × (kept_answer kept g ≡ Some a)).
        ap (λ (o : Option (Option (List ℕ))). unwrap_or o (answer p (sight closing g).rows)) some.1 ∙ (there g below some.0 some.1).0)
        (λ none. ap (λ (o : Option (Option (List ℕ))). unwrap_or o (answer p (sight closing g).rows)) none ∙ ap (λ (l : Log). answer p l.rows) (sym (seen_last g below none).0))
        (found_or_not (kept_answer kept g))

    -- where no worker kept an answer none froze
    open_where : (g : ℕ) → g < n → kept_answer kept g ≡ None → sum_by (λ (r : Known). tally (freezes g) r.calls) records ≡ 0
    open_where g below none = ⊎_elim
        (λ (one : (i : ℕ) × (i < length records) × ((d : Known) → 0 < tally (freezes g) (get_or records i d).calls)).
        let apart : one.0 + 1 ≢ last = λ same. omega (arith, same, one.1) in
        let mine_none : tally (in_generation g froze) closing.calls ≡ 0 =
        ap (tally (in_generation g froze)) (sym mine)
        ∙ frozen_before g last (one.0 + 1) h is.legal (last_of_all (one.0 + 1) apart) apart (omega (arith, one.2 closing, ap (tally (freezes g)) (theirs one.0 closing one.1))) in
        let all_none : sum_by (λ (r : Known). tally (in_generation g froze) r.calls) records ≡ 0 = sum_none (λ (r : Known). tally (in_generation g froze) r.calls) records
        (λ i d near. let each = keeps.each i d [] near in (none_counted i d near each.0 each.1)) in
        let closed : (log_of g h).closed ≡ true = ap (λ (l : Log). l.closed) (is.logs_are g (omega (arith, below, many))) ∙ (seen_last g below none).1 in
        absurd (omega (arith, frozen_once g h is.legal, ap one_if closed, counted_all (in_generation g froze) mine_none, all_none)))
        (λ (none_closes : (i : ℕ) (d : Known) → i < length records → EachCall (λ call. not (closes g call)) (get_or records i d).calls).
        sum_none (λ (r : Known). tally (freezes g) r.calls) records (λ i d near. closed_none g (get_or records i d).calls (none_closes i d near)))
        (one_closes g records)
      where
        none_counted : (i : ℕ) (d : Known) → i < length records → length (get_or kept i []) ≡ n → AreAnswers p (get_or records i d) (get_or kept i []) → tally (in_generation g froze) (get_or records i d).calls ≡ 0
        none_counted i d near long are = ⊎_elim
            (λ (some : 0 < tally (in_generation g froze) (get_or records i d).calls).
            absurd (cc (sym (kept_none kept g none i [] (omega (arith, near, keeps.all))) ∙ ((are g (omega (arith, below, long))).0 some).0)))
            (λ (nothing : tally (in_generation g froze) (get_or records i d).calls ≡ 0). nothing)
            (some_or_none (tally (in_generation g froze) (get_or records i d).calls))

    is_open_where : (g : ℕ) → g < n → is_none (kept_answer kept g) ≡ is_open records g
    is_open_where g below = ⊎_elim
        (λ (some : (a : Option (List ℕ)) × (kept_answer kept g ≡ Some a)). ap is_none some.1 ∙ sym (not_zero (sum_by (λ (r : Known). tally (freezes g) r.calls) records) (there g below some.0 some.1).2))
        (λ none. ap is_none none ∙ sym (ap (λ (m : ℕ). m == 0) (open_where g below none)))
        (found_or_not (kept_answer kept g))

    pub open_kept : filter (λ g. is_none (kept_answer kept g)) (range_with_len 0 n) ≡ open_after n records
    open_kept = filter_same_below (λ g. is_none (kept_answer kept g)) (is_open records) 0 n (λ g below. is_open_where g (omega (arith, below)))
