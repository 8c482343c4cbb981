-- Totals, one answer after another.
use Rattle.std.proofs.Common.{◌≡◌, ℕ, ◌+◌, ◌≤◌, Bool, true, false, if◌then◌else◌, List, [], ◌∷◌, ◌++◌, refl, sym, ap, ◌∙◌, subst, arith}
use Rattle.kk_rows.specs.declared.rows.Row.{Row}
use Rattle.kk_machine.specs.declared.call.Call.TheVariants.{Insert, Freeze}
use Rattle.kk_machine.specs.declared.call.Entry.{Entry}
use Rattle.kk_machine.specs.History.{entry}
use Rattle.kk_machine.specs.Inserts.{tally, of_reply, inserts, innovative, redundant, late, froze}
use Rattle.kk_machine.proofs.Tallies.{tally-none, tally-push}
use Rattle.kk_table.specs.declared.answers.Inserted.{Inserted}
use Rattle.kk_table.specs.declared.answers.Inserted.TheVariants.{Innovative, Redundant, Late}
use Rattle.kk_table.specs.declared.answers.Freeze.{Freeze as FreezeAnswer}
use Rattle.kk_table.specs.declared.answers.Freeze.TheVariants.{Frozen, Already}
use Rattle.kk_table.specs.Answers.{insert_reply, freeze_reply}
use Rattle.kk_workers.specs.declared.totals.Totals.{Totals}
use Rattle.kk_workers.specs.Totals.{totals_in, no_totals, counted, AreWithin}
use Rattle.kk_workers.specs.WorkerLoop.{AreTotals}

-- totals with equal parts
pub same_totals : {a a' b b' c c' d d' : ℕ} → a ≡ a' → b ≡ b' → c ≡ c' → d ≡ d'
    → ◌≡◌ {A = Totals} (record { inserts = a; innovative = b; redundant = c; late = d }) (record { inserts = a'; innovative = b'; redundant = c'; late = d' })
same_totals p q r s = λ i. record { inserts = p i; innovative = q i; redundant = r i; late = s i }

pub totals-none : totals_in [] ≡ no_totals
totals-none = same_totals (tally-none inserts) (tally-none (of_reply innovative)) (tally-none (of_reply redundant)) (tally-none (of_reply late))

-- one insert more
pub totals-insert : (calls : List Entry) (n g : ℕ) (row : Row) (answer : Inserted) → totals_in (calls ++ entry n (Insert g row) (insert_reply answer) ∷ []) ≡ counted answer (totals_in calls)
totals-insert calls n g row answer = by_answer answer
  where
    push : (count : Entry → ℕ) (a : Inserted) → tally count (calls ++ entry n (Insert g row) (insert_reply a) ∷ []) ≡ tally count calls + count (entry n (Insert g row) (insert_reply a))
    push count a = tally-push count calls (entry n (Insert g row) (insert_reply a))

    by_answer : (a : Inserted) → totals_in (calls ++ entry n (Insert g row) (insert_reply a) ∷ []) ≡ counted a (totals_in calls)
    by_answer (Innovative rank) = let a = Innovative rank in same_totals (push inserts a) (push (of_reply innovative) a) (omega (arith, push (of_reply redundant) a)) (omega (arith, push (of_reply late) a))
    by_answer Redundant = let a = Redundant in same_totals (push inserts a) (omega (arith, push (of_reply innovative) a)) (push (of_reply redundant) a) (omega (arith, push (of_reply late) a))
    by_answer Late = let a = Late in same_totals (push inserts a) (omega (arith, push (of_reply innovative) a)) (omega (arith, push (of_reply redundant) a)) (push (of_reply late) a)

-- one freeze more
pub totals-freeze : (calls : List Entry) (n g : ℕ) (answer : FreezeAnswer) → totals_in (calls ++ entry n (Freeze g) (freeze_reply answer) ∷ []) ≡ totals_in calls
totals-freeze calls n g answer = by_answer answer
  where
    push : (count : Entry → ℕ) (a : FreezeAnswer) → tally count (calls ++ entry n (Freeze g) (freeze_reply a) ∷ []) ≡ tally count calls + count (entry n (Freeze g) (freeze_reply a))
    push count a = tally-push count calls (entry n (Freeze g) (freeze_reply a))

    by_answer : (a : FreezeAnswer) → totals_in (calls ++ entry n (Freeze g) (freeze_reply a) ∷ []) ≡ totals_in calls
    by_answer (Frozen rank) = let a = Frozen rank in same_totals (omega (arith, push inserts a)) (omega (arith, push (of_reply innovative) a)) (omega (arith, push (of_reply redundant) a)) (omega (arith, push (of_reply late) a))
    by_answer Already = let a = Already in same_totals (omega (arith, push inserts a)) (omega (arith, push (of_reply innovative) a)) (omega (arith, push (of_reply redundant) a)) (omega (arith, push (of_reply late) a))

-- no insert is told that it froze
pub insert_unfrozen : (answer : Inserted) → froze (insert_reply answer) ≡ 0
insert_unfrozen (Innovative rank) = refl
insert_unfrozen Redundant = refl
insert_unfrozen Late = refl

-- a generation's part of a count
pub part : (b : Bool) (n : ℕ) → (if b then n else 0) ≤ n
part true n = omega arith
part false n = omega arith

pub counted_inserts : (answer : Inserted) (t : Totals) → (counted answer t).inserts ≡ t.inserts + 1
counted_inserts (Innovative rank) t = refl
counted_inserts Redundant t = refl
counted_inserts Late t = refl

pub AreTotals-none : (totals : Totals) (calls : List Entry) → totals ≡ no_totals → calls ≡ [] → AreTotals totals calls
AreTotals-none totals calls nothing none = record {
  are = nothing ∙ sym totals-none ∙ ap totals_in (sym none);
  within = subst AreWithin (sym nothing) (record { innovative = omega arith; redundant = omega arith; late = omega arith });
}
