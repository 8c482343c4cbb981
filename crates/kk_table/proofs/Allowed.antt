-- The steps of a pass as the table asks for them.
use Rattle.std.proofs.Common.{◌≡◌, ℕ, zero, suc, ◌<◌, Bool, true, false, [], get_or, set, sym, refl, ap, ◌∙◌, subst, true≢false, arith, eqb, eq-eqb, ne_eqb}
use mathlib.Core.Logic.{dite}
use mathlib.Core.Option.{some}
use native.Mathlib.Decide.{ℕ_discrete}
use lib.ListN.{get_elem?}
use prog.Atomic.{either}
use Rattle.atomic_table.specs.Table.{keeps, Allows}
use Rattle.kk_machine.specs.declared.call.Call.{Call}
use Rattle.kk_machine.specs.Spaces.{generation_of, IsInWidth}
use Rattle.kk_machine.specs.Steps.{exchanged, stored, changes}
use Rattle.kk_table.specs.declared.view.Shape.{Shape}
use Rattle.kk_table.specs.declared.view.Known.{Known}
use Rattle.kk_table.specs.declared.view.View.TheVariants.{Pass}
use Rattle.kk_table.specs.Rule.{sight, known_after, IsAllowed, Tried, FitsKnown, IsKept, Holds}
use Rattle.kk_table.specs.Moves.{next_place}
use Rattle.kk_table.specs.Worlds.{IsReached}
use Rattle.kk_table.proofs.Moves.{steps_are_moves, reached_more}
use Rattle.kk_table.proofs.Tries.{history_after, pass_fits, try_keeps}

-- a step whose word becomes what an exchange of 0 makes of it
tries : {S : Type 0} (shape : Shape) (slots id : ℕ) (k : Known) (changing : Bool) (call : Call) (i : ℕ) (turn : ℕ → ℕ)
    → generation_of call < shape.generations → IsAllowed shape.width changing call (sight k (generation_of call))
    → i ≡ next_place shape k call → ((n : ℕ) → turn n ≡ exchanged n (stored changing call))
    → Allows {S = S} (Holds shape) slots id (Pass k, []) i turn (λ found after. Tried shape.width changing call (Pass k) found after.0 × (after.1 ≡ []))
tries {S} shape slots id k changing call i turn near can place turns s (h, given, records, is, reached) long at small =
    let fit = pass_fits shape h given records s.words s.views is id k at in
    let e : id ≡ k.number = sym fit.1.numbered in
    let f = get_or s.words i 0 in
    let at' : get_elem? s.views k.number ≡ some (Pass k) = subst (λ (x : ℕ). get_elem? s.views x ≡ some (Pass k)) e at in
    let fit' : FitsKnown shape h s.views k.number k = subst (λ (x : ℕ). FitsKnown shape h s.views x k) e fit.1 in
    let kept = try_keeps shape h given records s.words s.views is k at' (subst (λ (x : ℕ). 0 < x) e fit.0) fit' changing call near can f (ap (λ (x : ℕ). get_or s.words x 0) (sym place)) in (
      Pass (known_after changing call k f),
      keeps,
      tt,
      (
        history_after changing call h k f,
        given,
        records,
        subst (λ (x : ℕ × (ℕ × ℕ)). IsKept shape (history_after changing call h k f) given records (set s.words x.0 x.1.0) (set s.views x.1.1 (Pass (known_after changing call k f))))
            (λ j. (sym place j, (sym (turns f) j, sym e j))) kept.0,
        subst (λ (x : ℕ × (ℕ × ℕ)). IsReached shape (history_after changing call h k f) (set s.words x.0 x.1.0) (set s.views x.1.1 (Pass (known_after changing call k f))))
            (λ j. (sym place j, (sym (turns f) j, sym e j)))
            (reached_more shape h s.words _ s.views _ _ _ reached
            (steps_are_moves shape h given records s.words s.views _ k.number k changing call is reached.world at' near can f (ap (λ (x : ℕ). get_or s.words x 0) (sym place)))),
      ),
      ((refl, kept.1, kept.2), refl),
    )

exchanged_nothing : (n : ℕ) → n ≡ exchanged n 0
exchanged_nothing zero = refl
exchanged_nothing (suc n) = sym (rw (ne_eqb (suc n) 0 (λ e. omega arith)) refl)

exchanged_either : (new n : ℕ) → either (eqb n 0) new n ≡ exchanged n new
exchanged_either new n = dite (ℕ_discrete n 0) (λ e. rw (eq-eqb n 0 e) refl) (λ ne. rw (ne_eqb n 0 ne) refl)

pub look_allowed : {S : Type 0} (shape : Shape) (slots id : ℕ) (k : Known) (call : Call) (i : ℕ) → generation_of call < shape.generations → IsInWidth shape.width call → i ≡ next_place shape k call
    → Allows {S = S} (Holds shape) slots id (Pass k, []) i (λ n. n) (λ found after. Tried shape.width false call (Pass k) found after.0 × (after.1 ≡ []))
look_allowed {S} shape slots id k call i near below place =
    tries {S = S} shape slots id k false call i (λ n. n) near (below, λ e. absurd (true≢false (sym e))) place exchanged_nothing

pub change_allowed : {S : Type 0} (shape : Shape) (slots id : ℕ) (k : Known) (call : Call) (i new : ℕ) → generation_of call < shape.generations
    → IsInWidth shape.width call → changes (sight k (generation_of call)) call ≡ true → i ≡ next_place shape k call → new ≡ stored true call
    → Allows {S = S} (Holds shape) slots id (Pass k, []) i (λ n. either (eqb n 0) new n) (λ found after. Tried shape.width true call (Pass k) found after.0 × (after.1 ≡ []))
change_allowed {S} shape slots id k call i new near below change place is =
    tries {S = S} shape slots id k true call i (λ n. either (eqb n 0) new n) near (below, λ e. change) place
    (λ n. exchanged_either new n ∙ ap (exchanged n) is)
