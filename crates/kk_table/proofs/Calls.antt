-- What one step of a pass does to what it knows.
use Rattle.std.proofs.Common.{◌≡◌, ℕ, ◌<◌, ◌≤◌, ◌+◌, Bool, true, false, not, List, [], ◌∷◌, ◌++◌, length, get_or, Option, Some, None, sym, refl, ap, ◌∙◌, subst, arith, append-nil, length-append, get_or-set_same, get_or-set_other, lt_of_lt_of_le, pow_mono}
use native.Mathlib.Decide.{ℕ_discrete}
use Rattle.kk_rows.specs.Span.{in_span}
use Rattle.kk_machine.specs.declared.log.Log.{Log}
use Rattle.kk_machine.specs.declared.call.Call.{Call}
use Rattle.kk_machine.specs.declared.call.Call.TheVariants.{Insert, Freeze, Peek}
use Rattle.kk_machine.specs.declared.call.Reply.{Reply}
use Rattle.kk_machine.specs.Spaces.{log, unseen, generation_of, reply_to, IsInWidth}
use Rattle.kk_machine.specs.declared.log.TheConstants.{CLOSED}
use Rattle.kk_machine.specs.Steps.{IsLog, sight_after, exchanged, stored, changes, decided}
use Rattle.kk_machine.specs.History.{entries}
use Rattle.kk_machine.proofs.Turns.{sight_other, decided_other, exchanged_other, outside_is_some}
use Rattle.atomic_table.specs.Table.{Me}
use Rattle.kk_machine.specs.Sights.{Seen}
use Rattle.kk_machine.proofs.Worlds.{length_log}
use Rattle.kk_table.specs.declared.view.Shape.{Shape}
use Rattle.kk_table.specs.declared.view.View.{View}
use Rattle.kk_table.specs.declared.view.Known.{Known}
use Rattle.kk_table.specs.Rule.{sight, Tried}
use Rattle.kk_table.specs.Pass.{known_in, IsPass, GoesOn, Told, StepsOn}
use Rattle.kk_table.proofs.Passes.{IsStep, length_seen, step_taken, makes_step}

-- of the generation of the call: what is seen before and after, and the answer
abbrev Ends : Call → Log → Log → Option Reply → Type 0
Ends call s s' None = length s'.rows ≡ length s.rows + 1
Ends call s s' (Some reply) = Told call s' reply

record Ended (call : Call) (s s' : Log) (r : Option Reply) : Type 0 where
  pub grows : (more : List ℕ) × (s'.rows ≡ s.rows ++ more)
  pub closed : s.closed ≡ true → s' ≡ s
  pub ends : Ends call s s' r

-- at what the step finds
abbrev EndedAt : Call → Log → Bool → ℕ → Type 0
EndedAt call s changing f = Ended call s (sight_after s (exchanged f (stored changing call))) (decided changing s f call)

-- who sees the mark is answered as on a closed log
told_closed : (rows : List ℕ) (call : Call) → Told call (log rows true) (reply_to (log rows true) call)
told_closed rows (Insert g row) = refl
told_closed rows (Freeze g) = refl
told_closed rows (Peek g) = refl

ended_open : (w : ℕ) (call : Call) (rows : List ℕ) → w ≤ 63 → IsInWidth w call → EndedAt call (log rows false) (changes (log rows false) call) 0
ended_open w (Insert g row) rows fits below = at (in_span rows row.0) refl
  where
    at : (b : Bool) → in_span rows row.0 ≡ b → EndedAt (Insert g row) (log rows false) (not (in_span rows row.0)) 0
    at true e = rw e (record { grows = ([], sym (append-nil rows)); closed = λ shut. refl; ends = e })
    at false e =
        let some : 0 < row.0 = outside_is_some rows row.0 e in
        let less = lt_of_lt_of_le below (pow_mono fits) in
        rw (e, sight_other (log rows false) row.0 (λ z. omega arith) (λ z. omega arith)) (record {
          grows = (row.0 ∷ [], refl);
          closed = λ shut. absurd (cc);
          ends = (omega (arith, length-append rows (row.0 ∷ [])), (rows, refl));
        })
ended_open w (Freeze g) rows fits below = record { grows = ([], sym (append-nil rows)); closed = λ shut. absurd (cc); ends = (refl, refl) }
ended_open w (Peek g) rows fits below = record { grows = ([], sym (append-nil rows)); closed = λ shut. refl; ends = refl }

ended_at : (w : ℕ) (call : Call) (rows : List ℕ) (closed : Bool) (f : ℕ) → w ≤ 63 → IsInWidth w call → (closed ≡ true → f ≡ CLOSED) → Dec (f ≡ 0) → Dec (f ≡ CLOSED)
    → EndedAt call (log rows closed) (changes (log rows closed) call) f
ended_at w call rows true f fits below mark (yes z) d = absurd (let m = mark refl in omega arith)
ended_at w call rows false f fits below mark (yes z) d =
    subst (EndedAt call (log rows false) (changes (log rows false) call)) (sym z) (ended_open w call rows fits below)
ended_at w call rows closed f fits below mark (no nz) (yes m) =
    subst (EndedAt call (log rows closed) (changes (log rows closed) call)) (sym m)
    (record { grows = ([], sym (append-nil rows)); closed = λ shut. (λ i. log rows (sym shut i)); ends = told_closed rows call })
ended_at w call rows closed f fits below mark (no nz) (no nm) =
    let s = log rows closed in
    rw (decided_other (changes s call) s f call nz nm, exchanged_other f (stored (changes s call) call) nz, sight_other s f nz nm) (record {
      grows = (f ∷ [], refl);
      closed = λ shut. absurd (nm (mark shut));
      ends = omega (arith, length-append rows (f ∷ []));
    })

steps_of : (call : Call) (k k' : Known) (r : Option Reply) → k'.calls ≡ k.calls ++ entries k.number call r
    → Ends call (sight k (generation_of call)) (sight k' (generation_of call)) r → StepsOn call k k' r
steps_of call k k' None calls ends = (calls ∙ append-nil k.calls, ends)
steps_of call k k' (Some reply) calls ends = (calls, ends)

-- what a step does
pub record Stepped (call : Call) (k k' : Known) (r : Option Reply) : Type 0 where
  pub goes_on : GoesOn (generation_of call) k k'
  pub accesses : k'.accesses ≡ k.accesses + 1
  pub steps : StepsOn call k k' r

pub stepped : (w : ℕ) (call : Call) (k k' : Known) (r : Option Reply) → w ≤ 63 → IsInWidth w call → generation_of call < length k.seen
    → IsStep call k r k' → Stepped call k k' r
stepped w call k k' r fits below near (f, reply_is, k_is, mark) =
    let g = generation_of call in
    let s = sight k g in
    let s' = sight_after s (exchanged f (stored (changes s call) call)) in
    let here : sight k' g ≡ s' = ap (λ (x : Known). sight x g) k_is ∙ get_or-set_same k.seen g s' unseen near in
    let done : EndedAt call s (changes s call) f = ended_at w call s.rows s.closed f fits below mark (ℕ_discrete f 0) (ℕ_discrete f CLOSED) in
    let ends : Ends call s (sight k' g) r = subst (λ (x : Log × Option Reply). Ends call s x.0 x.1) (λ i. (sym here i, sym reply_is i)) done.ends in
    let calls : k'.calls ≡ k.calls ++ entries k.number call r = ap (λ (x : Known). x.calls) k_is ∙ ap (λ x. k.calls ++ entries k.number call x) (sym reply_is) in
    record {
      goes_on = record {
        number = ap (λ (x : Known). x.number) k_is;
        note = ap (λ (x : Known). x.note) k_is;
        others = λ j ne. ap (λ (x : Known). sight x j) k_is ∙ get_or-set_other k.seen g j s' unseen ne;
        grows = (done.grows.0, ap (λ (x : Log). x.rows) here ∙ done.grows.1);
        closed = λ shut. here ∙ done.closed shut;
      };
      accesses = ap (λ (x : Known). x.accesses) k_is;
      steps = steps_of call k k' r calls ends;
    }

-- what the seat's step does to what the pass knows, of which it has then still seen rows that fit
pub does_step : (shape : Shape) (number : ℕ) (me me' : Me (Unit {0}) View) (sights : List Seen) (g : ℕ) (old : Seen) (changing : Bool) (call : Call) (found : ℕ) (reply : Option Reply) (k : Known) → IsPass shape number me sights
    → known_in me.0 ≡ k → shape.width ≤ 63 → IsInWidth shape.width call → g ≡ generation_of call → g < shape.generations → Tried shape.width changing call me.0 found me'.0 → old ≡ get_or sights g old
    → changing ≡ changes old.log call → reply ≡ decided changing old.log found call
    → Stepped call k (known_in me'.0) reply × (length (sight (known_in me'.0) (generation_of call)).rows ≤ shape.width)
does_step shape number me me' sights g old changing call found reply k is known fits below same near tried at change reply_is =
    let taken = step_taken shape number me me' sights changing call found is tried in
    let long : generation_of call < length (known_in me.0).seen = omega (arith, near, same, length_seen shape number me sights is) in
    let log : IsLog shape.width (sight (known_in me'.0) (generation_of call)) =
    subst (λ (v : View). IsLog shape.width (sight (known_in v) (generation_of call))) (sym taken.0) taken.1 in (
      subst (λ (x : Known). Stepped call x (known_in me'.0) reply) known
          (stepped shape.width call (known_in me.0) (known_in me'.0) reply fits below long (makes_step shape number me me' sights g old changing call found reply is same near tried at change reply_is)),
      length_log shape.width _ log,
    )
