-- Which rows a log has, and what it spans.
use Rattle.std.proofs.Common.{◌≡◌, ◌==◌, ℕ, Bool, true, false, if◌then◌else◌, List, [], ◌∷◌, ◌++◌, length, refl, sym, ap, ◌∙◌, subst, append-nil, append_assoc, ⊎_elim, inl, inr, fold, true≢false}
use Rattle.std.specs.Prelude.{◌≤◌, Option, Some, All, Contains, ◌⊎◌, slice_index_or}
use Rattle.std.proofs.lemmas.List.Elements.{All-contains_itself, Contains-append_cases, Contains-append_left, Contains-append_right}
use Rattle.kk_rows.specs.Span.{in_span, IsIndependent}
use Rattle.kk_rows.proofs.Spans.{in_span-append_same, in_span-push_inside, in_span-same_elements, HaveSameSpan-from_members}
use Rattle.kk_machine.specs.declared.log.Log.{Log}
use Rattle.kk_machine.specs.declared.call.Call.{Call}
use Rattle.kk_machine.specs.declared.call.Call.TheVariants.{Insert, Freeze, Peek}
use Rattle.kk_machine.specs.declared.call.Entry.{Entry}
use Rattle.kk_machine.specs.Spaces.{log, unseen, generation_of, log_after}
use Rattle.kk_machine.specs.History.{log_of, log_step}
use Rattle.kk_machine.specs.Inserts.{row_into, rows_into, closes, InTime, FrozenBy}
use Rattle.kk_rows.proofs.Independence.{independent-push}
use Rattle.kk_machine.proofs.Worlds.{nothing_is_independent}
use Rattle.kk_machine.proofs.Logs.{true_or_false}

-- where a log goes from l by these entries
abbrev pub log_from : ℕ → Log → List Entry → Log
log_from g l h = fold (log_step g) l h

-- the log of a generation has the rows that were there and rows that came
came_one : (g : ℕ) (l : Log) (call : Call) → (if generation_of call == g then log_after l call else l).rows ≡ l.rows
    ⊎ (if generation_of call == g then log_after l call else l).rows ≡ l.rows ++ row_into g call
came_one g l (Insert k row) = by_case (k == g) l.closed (in_span l.rows row.0)
  where
    by_case : (b c s : Bool) → (if b then (if c then l else (if s then l else log (l.rows ++ row.0 ∷ []) false)) else l).rows ≡ l.rows
        ⊎ (if b then (if c then l else (if s then l else log (l.rows ++ row.0 ∷ []) false)) else l).rows ≡ l.rows ++ (if b then row.0 ∷ [] else [])
    by_case false c s = inl refl
    by_case true true s = inl refl
    by_case true false true = inl refl
    by_case true false false = inr refl
came_one g l (Freeze k) = by_case (k == g)
  where
    by_case : (b : Bool) → (if b then log l.rows true else l).rows ≡ l.rows ⊎ (if b then log l.rows true else l).rows ≡ l.rows ++ []
    by_case true = inl refl
    by_case false = inl refl
came_one g l (Peek k) = by_case (k == g)
  where
    by_case : (b : Bool) → (if b then l else l).rows ≡ l.rows ⊎ (if b then l else l).rows ≡ l.rows ++ []
    by_case true = inl refl
    by_case false = inl refl

lifted : (a b zs : List ℕ) → ((x : ℕ) → Contains a x → Contains b x) → All (Contains a) zs → All (Contains b) zs
lifted a b zs f all k d in_range = f (slice_index_or zs k d) (all k d in_range)

wider : (a b c : List ℕ) (x : ℕ) → Contains (a ++ c) x → Contains (a ++ (b ++ c)) x
wider a b c x is = ⊎_elim (λ left. Contains-append_left a (b ++ c) x left) (λ right. Contains-append_right a (b ++ c) x (Contains-append_right b c x right)) (Contains-append_cases a c x is)

pub rows_came_from : (g : ℕ) (l : Log) (h : List Entry) → All (Contains (l.rows ++ rows_into g h)) (log_from g l h).rows
unfolding rows_into
rows_came_from g l [] = subst (λ (x : List ℕ). All (Contains x) l.rows) (sym (append-nil l.rows)) (All-contains_itself l.rows)
rows_came_from g l (e ∷ es) =
    let l' : Log = log_step g l e in
    let end : List ℕ = (log_from g l' es).rows in
    let rest : All (Contains (l'.rows ++ rows_into g es)) end = rows_came_from g l' es in
    let bring : List ℕ = row_into g e.call in
    ⊎_elim
    (λ (same : l'.rows ≡ l.rows).
    lifted (l'.rows ++ rows_into g es) (l.rows ++ (bring ++ rows_into g es)) end
    (λ x c. wider l.rows bring (rows_into g es) x (subst (λ (r : List ℕ). Contains (r ++ rows_into g es) x) same c)) rest)
    (λ (more : l'.rows ≡ l.rows ++ bring).
    lifted (l'.rows ++ rows_into g es) (l.rows ++ (bring ++ rows_into g es)) end
    (λ x c. subst (λ (r : List ℕ). Contains r x) (append_assoc l.rows bring (rows_into g es)) (subst (λ (r : List ℕ). Contains (r ++ rows_into g es) x) more c)) rest)
    (came_one g l e.call)

pub rows_came : (g : ℕ) (h : List Entry) → All (Contains (rows_into g h)) (log_of g h).rows
unfolding log_of
rows_came g h = rows_came_from g (log [] false) h

pub append_none : (a b : List ℕ) → a ++ b ≡ [] → (a ≡ []) × (b ≡ [])
append_none [] b is = (refl, is)
append_none (x ∷ a) b is = absurd (cc is)

-- after the last row nothing is added
pub rows_stay : (g : ℕ) (l : Log) (h : List Entry) → rows_into g h ≡ [] → (log_from g l h).rows ≡ l.rows
unfolding rows_into
rows_stay g l [] none = refl
rows_stay g l (e ∷ es) none =
    let parts = append_none (row_into g e.call) (rows_into g es) none in
    rows_stay g (log_step g l e) es parts.1
    ∙ ⊎_elim (λ same. same) (λ more. more ∙ ap (λ (x : List ℕ). l.rows ++ x) parts.0 ∙ append-nil l.rows) (came_one g l e.call)

-- one entry that doesn't close the open log
pub step_spans : (g : ℕ) (l : Log) (call : Call) (rest : List ℕ) → l.closed ≡ false → closes g call ≡ false
    → ((if generation_of call == g then log_after l call else l).closed ≡ false)
    × ((x : ℕ) → in_span ((if generation_of call == g then log_after l call else l).rows ++ rest) x ≡ in_span (l.rows ++ (row_into g call ++ rest)) x)
step_spans g l (Insert k row) rest unshut stays = by_case (k == g) l.closed (in_span l.rows row.0) unshut refl
  where
    by_case : (b c s : Bool) → c ≡ false → in_span l.rows row.0 ≡ s
        → ((if b then (if c then l else (if s then l else log (l.rows ++ row.0 ∷ []) false)) else l).closed ≡ false)
        × ((x : ℕ) → in_span ((if b then (if c then l else (if s then l else log (l.rows ++ row.0 ∷ []) false)) else l).rows ++ rest) x ≡ in_span (l.rows ++ ((if b then row.0 ∷ [] else []) ++ rest)) x)
    by_case false c s open_is is = (unshut, λ x. refl)
    by_case true true s open_is is = absurd (true≢false open_is)
    by_case true false true open_is is = (
      unshut,
      λ x. in_span-append_same l.rows (l.rows ++ row.0 ∷ []) rest rest (λ y. sym (in_span-push_inside l.rows row.0 is y)) (λ y. refl) x
          ∙ ap (λ (r : List ℕ). in_span r x) (append_assoc l.rows (row.0 ∷ []) rest),
    )
    by_case true false false open_is is = (refl, λ x. ap (λ (r : List ℕ). in_span r x) (append_assoc l.rows (row.0 ∷ []) rest))
step_spans g l (Freeze k) rest unshut stays = rw stays (unshut, λ x. refl)
step_spans g l (Peek k) rest unshut stays = by_case (k == g)
  where
    by_case : (b : Bool) → ((if b then l else l).closed ≡ false) × ((x : ℕ) → in_span ((if b then l else l).rows ++ rest) x ≡ in_span (l.rows ++ ([] ++ rest)) x)
    by_case true = (unshut, λ x. refl)
    by_case false = (unshut, λ x. refl)

-- a call that closes leaves the rows, and brings none
closing_keeps : (g : ℕ) (l : Log) (call : Call) → closes g call ≡ true → ((if generation_of call == g then log_after l call else l).rows ≡ l.rows) × (row_into g call ≡ [])
closing_keeps g l (Insert k row) shuts = absurd (true≢false (sym shuts))
closing_keeps g l (Freeze k) shuts = (by_case (k == g), refl)
  where
    by_case : (b : Bool) → (if b then log l.rows true else l).rows ≡ l.rows
    by_case true = refl
    by_case false = refl
closing_keeps g l (Peek k) shuts = absurd (true≢false (sym shuts))

-- while the log is open, and no freeze comes before the last row, the log spans all rows that came
pub spans_from : (g : ℕ) (l : Log) (h : List Entry) → l.closed ≡ false → InTime g h → (x : ℕ) → in_span (log_from g l h).rows x ≡ in_span (l.rows ++ rows_into g h) x
unfolding rows_into InTime
spans_from g l [] unshut early x = ap (λ (r : List ℕ). in_span r x) (sym (append-nil l.rows))
spans_from g l (e ∷ es) unshut early x = ⊎_elim
    (λ (shuts : closes g e.call ≡ true).
    let none : rows_into g es ≡ [] = early.0 shuts in
    let keeps = closing_keeps g l e.call shuts in
    ap (λ (r : List ℕ). in_span r x)
    (rows_stay g (log_step g l e) es none ∙ keeps.0 ∙ sym (append-nil l.rows) ∙ ap (λ (r : List ℕ). l.rows ++ r) (sym (ap (λ (a : List ℕ). a ++ rows_into g es) keeps.1 ∙ none))))
    (λ (stays : closes g e.call ≡ false).
    let step = step_spans g l e.call (rows_into g es) unshut stays in
    spans_from g (log_step g l e) es step.0 early.1 x ∙ step.1 x)
    (true_or_false (closes g e.call))

pub spans : (g : ℕ) (h : List Entry) → InTime g h → (x : ℕ) → in_span (log_of g h).rows x ≡ in_span (rows_into g h) x
unfolding log_of
spans g h early x = spans_from g (log [] false) h refl early x

all_of : (a b : List ℕ) → ((x : ℕ) → Contains a x → Contains b x) → All (Contains b) a
all_of a b f = lifted a b a f (All-contains_itself a)

step_independent : (g : ℕ) (l : Log) (call : Call) → IsIndependent l.rows → IsIndependent (if generation_of call == g then log_after l call else l).rows
step_independent g l (Insert k row) is = by_case (k == g) l.closed (in_span l.rows row.0) refl
  where
    by_case : (b c s : Bool) → in_span l.rows row.0 ≡ s
        → IsIndependent (if b then (if c then l else (if s then l else log (l.rows ++ row.0 ∷ []) false)) else l).rows
    by_case false c s outside = is
    by_case true true s outside = is
    by_case true false true outside = is
    by_case true false false outside = independent-push l.rows row.0 is outside
step_independent g l (Freeze k) is = by_case (k == g)
  where
    by_case : (b : Bool) → IsIndependent (if b then log l.rows true else l).rows
    by_case true = is
    by_case false = is
step_independent g l (Peek k) is = by_case (k == g)
  where
    by_case : (b : Bool) → IsIndependent (if b then l else l).rows
    by_case true = is
    by_case false = is

independent_from : (g : ℕ) (l : Log) (h : List Entry) → IsIndependent l.rows → IsIndependent (log_from g l h).rows
independent_from g l [] is = is
independent_from g l (e ∷ es) is = independent_from g (log_step g l e) es (step_independent g l e.call is)

-- the rows of a log are independent, whatever the history
pub log_of-independent : (g : ℕ) (h : List Entry) → IsIndependent (log_of g h).rows
unfolding log_of
log_of-independent g h = independent_from g unseen h nothing_is_independent

-- the log of a generation that is frozen in time is that of the rows that came, in whatever order they are named
pub frozen_in_time : (g : ℕ) (h : List Entry) (rows : List ℕ) (goal : Option ℕ) → InTime g h
    → ((x : ℕ) → Contains rows x → Contains (rows_into g h) x) → ((x : ℕ) → Contains (rows_into g h) x → Contains rows x)
    → FrozenBy (log_of g h).rows rows goal
frozen_in_time g h rows goal early to from = record {
  independent = log_of-independent g h;
  came = lifted (rows_into g h) rows (log_of g h).rows from (rows_came g h);
  enough = inl (HaveSameSpan-from_members (log_of g h).rows rows
      (λ x. spans g h early x ∙ in_span-same_elements (rows_into g h) rows (all_of (rows_into g h) rows from) (all_of rows (rows_into g h) to) x));
}

-- and so is one that is as long as the goal, in time or not
pub frozen_at_goal : (g : ℕ) (h : List Entry) (rows : List ℕ) (n : ℕ)
    → ((x : ℕ) → Contains (rows_into g h) x → Contains rows x) → n ≤ length (log_of g h).rows
    → FrozenBy (log_of g h).rows rows (Some n)
frozen_at_goal g h rows n from long = record {
  independent = log_of-independent g h;
  came = lifted (rows_into g h) rows (log_of g h).rows from (rows_came g h);
  enough = inr (n, refl, long);
}
