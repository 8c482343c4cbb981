-- What a legal history says as a whole.
use Rattle.std.proofs.Common.{◌≡◌, ◌==◌, ℕ, ◌+◌, Bool, true, false, if◌then◌else◌, List, [], ◌∷◌, ◌++◌, length, refl, sym, ap, ◌∙◌, subst, arith, append-nil, append_assoc, length-append, eq-eqb, ne_eqb}
use mathlib.Core.Logic.{dite}
use native.Mathlib.Decide.{ℕ_discrete}
use Rattle.kk_rows.specs.Span.{in_span}
use Rattle.kk_machine.specs.declared.log.Log.{Log}
use Rattle.kk_machine.specs.declared.call.Call.{Call}
use Rattle.kk_machine.specs.declared.call.Call.TheVariants.{Insert, Freeze, Peek}
use Rattle.kk_machine.specs.declared.call.Reply.{Reply}
use Rattle.kk_machine.specs.declared.call.Reply.TheVariants.{Innovative, Redundant, Late, Frozen, Already}
use Rattle.kk_machine.specs.declared.call.Entry.{Entry}
use Rattle.kk_machine.specs.Spaces.{log, generation_of, reply_to, log_after}
use Rattle.kk_machine.specs.Steps.{Sees}
use Rattle.kk_machine.specs.History.{log_of, log_step, Legal, LegalAfter}
use Rattle.kk_machine.specs.Inserts.{innovative, in_generation, tally}
use Rattle.kk_machine.proofs.Histories.{log_of-push}
use Rattle.kk_machine.proofs.Logs.{not_both}
use Rattle.kk_machine.proofs.Turns.{Sees-itself}

-- a log only grows, and a closed one stays: the earlier is seen by the later
after_sees : (l : Log) (call : Call) → Sees (log_after l call) l
after_sees l (Insert g row) = at l.closed (in_span l.rows row.0) refl
  where
    at : (c s : Bool) → l.closed ≡ c → Sees (if c then l else (if s then l else log (l.rows ++ row.0 ∷ []) false)) l
    at true s e = Sees-itself l
    at false true e = Sees-itself l
    at false false e = record { rest = row.0 ∷ []; begins = refl; whole = λ shut. absurd (not_both shut e) }
after_sees l (Freeze g) = record { rest = []; begins = sym (append-nil l.rows); whole = λ shut. λ i. log l.rows (sym shut i) }
after_sees l (Peek g) = Sees-itself l

sees_through : (a b c : Log) → Sees b a → Sees c b → Sees c a
sees_through a b c ab bc = record {
  rest = ab.rest ++ bc.rest;
  begins = bc.begins ∙ ap (λ x. x ++ bc.rest) ab.begins ∙ append_assoc a.rows ab.rest bc.rest;
  whole = λ shut. bc.whole (ap (λ (l : Log). l.closed) (ab.whole shut) ∙ shut) ∙ ab.whole shut;
}

step_sees : (g : ℕ) (l : Log) (e : Entry) → Sees (log_step g l e) l
step_sees g l e = dite (ℕ_discrete (generation_of e.call) g)
    (λ same. rw (eq-eqb (generation_of e.call) g same) (after_sees l e.call))
    (λ other. rw (ne_eqb (generation_of e.call) g other) (Sees-itself l))

-- a prefix of a history has a prefix of each log, and the whole of it once it is closed
pub log_sees_before : (g : ℕ) (h more : List Entry) → Sees (log_of g (h ++ more)) (log_of g h)
log_sees_before g h [] = subst (λ (x : List Entry). Sees (log_of g x) (log_of g h)) (sym (append-nil h)) (Sees-itself (log_of g h))
log_sees_before g h (e ∷ es) =
    let one : Sees (log_of g (h ++ e ∷ [])) (log_of g h) = subst (λ x. Sees x (log_of g h)) (sym (log_of-push g h e)) (step_sees g (log_of g h) e) in
    let more = log_sees_before g (h ++ e ∷ []) es in
    subst (λ (x : List Entry). Sees (log_of g x) (log_of g h)) (append_assoc h (e ∷ []) es) (sees_through _ _ _ one more)

counts_one : (l : Log) (call : Call) → length (log_after l call).rows ≡ length l.rows + innovative (reply_to l call)
counts_one l (Insert g row) = at l.closed (in_span l.rows row.0)
  where
    at : (c s : Bool) → length (if c then l else (if s then l else log (l.rows ++ row.0 ∷ []) false)).rows ≡ length l.rows + innovative (if c then Late else (if s then Redundant else Innovative (length l.rows + 1)))
    at true s = omega arith
    at false true = omega arith
    at false false = omega (arith, length-append l.rows (row.0 ∷ []))
counts_one l (Freeze g) = at l.closed
  where
    at : (c : Bool) → length l.rows ≡ length l.rows + innovative (if c then Already else Frozen (length l.rows))
    at true = omega arith
    at false = omega arith
counts_one l (Peek g) = omega arith

-- the innovative replies of a generation number its rows
pub innovations_after : (g : ℕ) (before h : List Entry) → LegalAfter before h → length (log_of g (before ++ h)).rows ≡ length (log_of g before).rows + tally (in_generation g innovative) h
unfolding LegalAfter tally
innovations_after g before [] legal = ap (λ (x : List Entry). length (log_of g x).rows) (append-nil before) ∙ omega arith
innovations_after g before (e ∷ es) legal =
    let rest = innovations_after g (before ++ e ∷ []) es legal.1 in
    let one : length (log_of g (before ++ e ∷ [])).rows ≡ length (log_of g before).rows + (if generation_of e.call == g then innovative e.reply else 0) =
    ap (λ (x : Log). length x.rows) (log_of-push g before e) ∙ dite (ℕ_discrete (generation_of e.call) g)
    (λ same. rw (eq-eqb (generation_of e.call) g same)
    (counts_one (log_of g before) e.call ∙ ap (λ (r : Reply). length (log_of g before).rows + innovative r) (sym (legal.0 ∙ ap (λ (k : ℕ). reply_to (log_of k before) e.call) same))))
    (λ other. rw (ne_eqb (generation_of e.call) g other) (omega arith)) in
    ap (λ (x : List Entry). length (log_of g x).rows) (sym (append_assoc before (e ∷ []) es)) ∙ omega (arith, rest, one)

-- after a whole history
pub innovations : (g : ℕ) (h : List Entry) → Legal h → tally (in_generation g innovative) h ≡ length (log_of g h).rows
unfolding log_of
innovations g h legal = omega (arith, innovations_after g [] h legal)
