-- A pass's step, as the table asks for it.
use Rattle.std.proofs.Common.{◌≡◌, ℕ, ◌+◌, Bool, true, false, [], length, sym, refl, ap, ◌∙◌, subst, eqb}
use prog.Atomic.{either}
use Rattle.atomic_table.specs.Table.{Me, Allows}
use Rattle.kk_machine.specs.declared.call.Call.{Call}
use Rattle.kk_machine.specs.Spaces.{generation_of, IsInWidth}
use Rattle.kk_machine.specs.Steps.{stored}
use Rattle.kk_table.specs.declared.view.Shape.{Shape}
use Rattle.kk_table.specs.declared.view.View.{View}
use Rattle.kk_table.specs.Places.{place_of}
use Rattle.kk_table.specs.Rule.{sight, Tried, Holds}
use Rattle.kk_table.specs.Pass.{IsAimed, known_in, IsPassing}
use Rattle.kk_table.proofs.Allowed.{look_allowed, change_allowed}

-- what the step tells
abbrev Told : ℕ → Bool → Call → Me (Unit {0}) View → ℕ → Me (Unit {0}) View → Type 0
Told width changing call me found after = Tried width changing call me.0 found after.0 × (after.1 ≡ [])

pub look_aimed : (key : Shape) (slots id : ℕ) (me : Me (Unit {0}) View) (width : ℕ) (call : Call) (word words : ℕ) (width' : ℕ) (call' : Call)
    → call' ≡ call → width' ≡ width → IsAimed key width false call me word words
    → Allows (Holds key) slots id me word (λ n. n) (λ found after. Tried width' false call' me.0 found after.0 × (after.1 ≡ []))
look_aimed key slots id me width call word words width' call' same_call same_width aim =
    subst (λ (x : ℕ × (Call × Me (Unit {0}) View)). Allows (Holds key) slots id x.1.1 word (λ n. n) (Told x.0 false x.1.0 x.1.1))
    (λ i. (sym (same_width ∙ sym aim.wide) i, (sym same_call i, sym aim.knows i)))
    (look_allowed {S = Unit {0}} key slots id (known_in me.0) call word aim.in_range (subst (λ (w : ℕ). IsInWidth w call) (sym aim.wide) aim.allowed.0)
    (aim.here ∙ ap (λ (w : ℕ). place_of w (generation_of call) (length (sight (known_in me.0) (generation_of call)).rows)) (sym aim.wide)))

pub change_aimed : (key : Shape) (slots id : ℕ) (me : Me (Unit {0}) View) (width : ℕ) (call : Call) (word words new : ℕ) (width' : ℕ) (call' : Call)
    → call' ≡ call → width' ≡ width → new ≡ stored true call → IsAimed key width true call me word words
    → Allows (Holds key) slots id me word (λ n. either (eqb n 0) new n) (λ found after. Tried width' true call' me.0 found after.0 × (after.1 ≡ []))
change_aimed key slots id me width call word words new width' call' same_call same_width is aim =
    subst (λ (x : ℕ × (Call × Me (Unit {0}) View)). Allows (Holds key) slots id x.1.1 word (λ n. either (eqb n 0) new n) (Told x.0 true x.1.0 x.1.1))
    (λ i. (sym (same_width ∙ sym aim.wide) i, (sym same_call i, sym aim.knows i)))
    (change_allowed {S = Unit {0}} key slots id (known_in me.0) call word new aim.in_range
    (subst (λ (w : ℕ). IsInWidth w call) (sym aim.wide) aim.allowed.0) (aim.allowed.1 refl)
    (aim.here ∙ ap (λ (w : ℕ). place_of w (generation_of call) (length (sight (known_in me.0) (generation_of call)).rows)) (sym aim.wide)) is)

-- a step is one access more
pub counted : (width : ℕ) (changing : Bool) (call : Call) (me : Me (Unit {0}) View) (found : ℕ) (after : View) → IsPassing me → Tried width changing call me.0 found after
    → (known_in after).accesses ≡ (known_in me.0).accesses + 1
counted width changing call me found after knows tried =
    ap (λ (v : View). (known_in v).accesses) (subst (λ (v : View). Tried width changing call v found after) (ap (λ (m : Me (Unit {0}) View). m.0) knows) tried).0
