-- Which freeze of a generation is told that it froze.
use Rattle.std.proofs.Common.{◌≡◌, ◌≢◌, ◌==◌, ℕ, ◌+◌, ◌<◌, ◌≤◌, Bool, true, false, if◌then◌else◌, List, [], ◌∷◌, ◌++◌, length, refl, sym, ap, ◌∙◌, subst, arith, ⊎_elim, true≢false}
use mathlib.Core.Logic.{dite}
use native.Mathlib.Decide.{ℕ_discrete}
use Rattle.kk_rows.specs.Span.{in_span}
use Rattle.kk_machine.specs.declared.log.Log.{Log}
use Rattle.kk_machine.specs.declared.call.Call.{Call}
use Rattle.kk_machine.specs.declared.call.Call.TheVariants.{Insert, Freeze, Peek}
use Rattle.kk_machine.specs.declared.call.Reply.{Reply}
use Rattle.kk_machine.specs.declared.call.Reply.TheVariants.{Innovative, Redundant, Late, Frozen, Already}
use Rattle.kk_machine.specs.declared.call.Entry.{Entry}
use Rattle.kk_machine.specs.Spaces.{log, generation_of, reply_to, log_after}
use Rattle.kk_machine.specs.History.{log_of, log_step, own, Legal, LegalAfter}
use Rattle.kk_machine.specs.Inserts.{closes, freezes, froze, in_generation, one_if, tally, StandsBefore}
use Rattle.kk_machine.proofs.Histories.{log_of-push}
use Rattle.kk_machine.proofs.Logs.{true_or_false}
use Rattle.kk_machine.proofs.Counted.{frozen_once_after, own_there, own_elsewhere, tally_of_own}
use Rattle.kk_machine.proofs.Tallies.{tally-none}

-- ---- only a freeze is told so

one_froze : (g : ℕ) (l : Log) (call : Call) → (if generation_of call == g then froze (reply_to l call) else 0) ≤ one_if (closes g call)
one_froze g l (Insert k row) = by_case (k == g) l.closed (in_span l.rows row.0)
  where
    by_case : (b c s : Bool) → (if b then froze (if c then Late else (if s then Redundant else Innovative (length l.rows + 1))) else 0) ≤ 0
    by_case false c s = omega arith
    by_case true true s = omega arith
    by_case true false true = omega arith
    by_case true false false = omega arith
one_froze g l (Freeze k) = by_case (k == g) l.closed
  where
    by_case : (b c : Bool) → (if b then froze (if c then Already else Frozen (length l.rows)) else 0) ≤ one_if b
    by_case false c = omega arith
    by_case true true = omega arith
    by_case true false = omega arith
one_froze g l (Peek k) = by_case (k == g)
  where
    by_case : (b : Bool) → (if b then 0 else 0) ≤ 0
    by_case true = omega arith
    by_case false = omega arith

own_froze_after : (g n : ℕ) (before h : List Entry) → LegalAfter before h → tally (in_generation g froze) (own n h) ≤ tally (freezes g) (own n h)
unfolding LegalAfter tally own
own_froze_after g n before [] legal = omega arith
own_froze_after g n before (e ∷ es) legal =
    let rest = own_froze_after g n (before ++ e ∷ []) es legal.1 in
    dite (ℕ_discrete e.number n)
    (λ same.
    let one : in_generation g froze e ≤ freezes g e =
    subst (λ (r : Reply). (if generation_of e.call == g then froze r else 0) ≤ freezes g e) (sym legal.0) (one_froze g (log_of (generation_of e.call) before) e.call) in
    subst (λ (l : List Entry). tally (in_generation g froze) l ≤ tally (freezes g) l) (sym (own_there n e es same)) (omega (arith, one, rest)))
    (λ other. subst (λ (l : List Entry). tally (in_generation g froze) l ≤ tally (freezes g) l) (sym (own_elsewhere n e es other)) rest)

pub own_froze : (g n : ℕ) (h : List Entry) → Legal h → tally (in_generation g froze) (own n h) ≤ tally (freezes g) (own n h)
own_froze g n h legal = own_froze_after g n [] h legal

-- ---- and the first one is

shut : (g : ℕ) (l : Log) (e : Entry) → closes g e.call ≡ true → (log_step g l e).closed ≡ true
shut g l e is = by_call e.call is
  where
    by_case : (b : Bool) (rows : List ℕ) → b ≡ true → (if b then log rows true else l).closed ≡ true
    by_case true rows at = refl
    by_case false rows at = absurd (true≢false (sym at))

    by_call : (call : Call) → closes g call ≡ true → (if generation_of call == g then log_after l call else l).closed ≡ true
    by_call (Insert k row) at = absurd (true≢false (sym at))
    by_call (Freeze k) at = by_case (k == g) l.rows at
    by_call (Peek k) at = absurd (true≢false (sym at))

at_most_one : (b : Bool) → one_if b ≤ 1
at_most_one true = omega arith
at_most_one false = omega arith

-- where a number freezes the generation before all calls of c, no freeze of c is told that it froze
pub frozen_before_after : (g c m : ℕ) (before h : List Entry) → LegalAfter before h → StandsBefore m c h → m ≢ c → 0 < tally (freezes g) (own m h) → tally (in_generation g froze) (own c h) ≡ 0
unfolding LegalAfter tally own StandsBefore
frozen_before_after g c m before [] legal stands apart some = absurd (omega (arith, some))
frozen_before_after g c m before (e ∷ es) legal stands apart some = dite (ℕ_discrete e.number c)
    (λ mine.
    let none : tally (freezes g) (own m (e ∷ es)) ≡ 0 = ap (tally (freezes g)) (own_elsewhere m e es (λ same. apart (sym same ∙ mine)) ∙ stands.0 mine) ∙ tally-none (freezes g) in
    absurd (omega (arith, none, some)))
    (λ other. ap (tally (in_generation g froze)) (own_elsewhere c e es other) ∙ ⊎_elim
    (λ shuts.
    let closed : one_if (log_of g (before ++ e ∷ [])).closed ≡ 1 = ap (λ (l : Log). one_if l.closed) (log_of-push g before e) ∙ ap one_if (shut g (log_of g before) e shuts) in
    omega (arith, closed, frozen_once_after g (before ++ e ∷ []) es legal.1, at_most_one (log_of g ((before ++ e ∷ []) ++ es)).closed, tally_of_own (in_generation g froze) c es))
    (λ stays.
    let none : freezes g e ≡ 0 = ap one_if stays in
    let later : 0 < tally (freezes g) (own m es) = dite (ℕ_discrete e.number m)
    (λ same. omega (arith, some, none, ap (tally (freezes g)) (own_there m e es same)))
    (λ elsewhere. omega (arith, some, ap (tally (freezes g)) (own_elsewhere m e es elsewhere))) in
    frozen_before_after g c m (before ++ e ∷ []) es legal.1 stands.1 apart later)
    (true_or_false (closes g e.call)))

pub frozen_before : (g c m : ℕ) (h : List Entry) → Legal h → StandsBefore m c h → m ≢ c → 0 < tally (freezes g) (own m h) → tally (in_generation g froze) (own c h) ≡ 0
frozen_before g c m h legal stands apart some = frozen_before_after g c m [] h legal stands apart some
