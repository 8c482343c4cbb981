-- A step of a pass keeps the rule.
use Rattle.std.proofs.Common.{◌≡◌, ◌≢◌, ℕ, zero, suc, ◌+◌, ◌<◌, ◌^◌, Bool, true, false, List, [], ◌∷◌, ◌++◌, length, get_or, set, sym, refl, ap, ◌∙◌, subst, ⊎_elim, true≢false, arith, length-set, length-append, Option, get_or-set_same, get_or-set_other}
use mathlib.Core.Logic.{dite}
use mathlib.Core.Option.{some, some-injective, some-ne-none}
use native.Mathlib.Decide.{ℕ_discrete}
use lib.ListN.{get_elem?}
use Rattle.atomic_table.proofs.Lists.{at_set, set_else}
use Rattle.std.proofs.lemmas.List.{get_or_append_left}
use Rattle.kk_rows.specs.Span.{IsIndependent}
use Rattle.kk_rows.proofs.Independence.{independent-front}
use Rattle.kk_machine.specs.declared.log.Log.{Log}
use Rattle.kk_machine.specs.declared.call.Call.{Call}
use Rattle.kk_machine.specs.declared.call.Reply.{Reply}
use Rattle.kk_machine.specs.declared.call.Entry.{Entry}
use Rattle.kk_machine.specs.Spaces.{generation_of}
use Rattle.kk_machine.specs.declared.log.TheConstants.{CLOSED}
use Rattle.kk_machine.specs.Steps.{word_at, IsLog, Sees, exchanged, stored, decided}
use Rattle.kk_machine.specs.History.{log_of, entries}
use Rattle.kk_machine.specs.Spaces.{unseen}
use Rattle.kk_machine.proofs.Turns.{seen_after}
use Rattle.kk_machine.proofs.Advances.{Advance, advance}
use Rattle.kk_machine.proofs.Logs.{closed_found}
use Rattle.kk_machine.proofs.Worlds.{length_sight}
use Rattle.kk_table.specs.declared.view.Shape.{Shape}
use Rattle.kk_table.specs.declared.view.Known.{Known}
use Rattle.kk_table.specs.declared.view.View.{View}
use Rattle.kk_table.specs.declared.view.View.TheVariants.{Founder, Pass, Spent}
use Rattle.kk_table.specs.Places.{place_of}
use Rattle.kk_table.specs.Rule.{sight, known_after, IsAllowed, FitsKnown, FitsView, spent_as_one, count_spent, IsKept}
use Rattle.kk_table.specs.Moves.{next_place}
use Rattle.kk_table.proofs.Places.{place_inside, places_apart}
use Rattle.kk_table.proofs.Owns.{own_more, own_same, stands_before_more}

is_pass : View → Bool
is_pass (Founder gens given records) = false
is_pass (Pass k) = true
is_pass Spent = false

is_spent : View → Bool
is_spent (Founder gens given records) = false
is_spent (Pass k) = false
is_spent Spent = true

pub not_spent : (k : Known) → Pass k ≡ Spent → ⊥
unfolding is_pass
not_spent k e = true≢false (ap is_pass e)

pub not_founder : (k : Known) (gens given : ℕ) (records : List Known) → Pass k ≡ Founder gens given records → ⊥
unfolding is_pass
not_founder k gens given records e = true≢false (ap is_pass e)

pub count_same : (views : List View) (n : ℕ) (v w : View) → get_elem? views n ≡ some v → spent_as_one v ≡ spent_as_one w → count_spent (set views n w) ≡ count_spent views
count_same [] n v w at same = absurd (some-ne-none v (sym at))
count_same (x ∷ xs) zero v w at same = ap (λ k. k + count_spent xs) (sym same ∙ ap spent_as_one (sym (some-injective x v at)))
count_same (x ∷ xs) (suc n) v w at same = ap (λ k. spent_as_one x + k) (count_same xs n v w at same)

pub inside : (views : List View) (n : ℕ) (v : View) → get_elem? views n ≡ some v → n < length views
inside [] n v at = absurd (some-ne-none v (sym at))
inside (x ∷ xs) zero v at = omega arith
inside (x ∷ xs) (suc n) v at = omega (arith, inside xs n v at)

pub one_view : (views : List View) (n : ℕ) (v w : View) → get_elem? views n ≡ some v → get_elem? views n ≡ some w → v ≡ w
one_view views n v w a b = some-injective v w (sym a ∙ b)

-- what is seen of a log is a log
pub sight_is_log : (w : ℕ) (l s : Log) → IsLog w l → Sees l s → IsLog w s
sight_is_log w l s is sees = record {
  below = λ k d h. subst (λ (x : ℕ). x < 2 ^ w) (get_or_append_left s.rows sees.rest d k h) (subst (λ (xs : List ℕ). get_or xs k d < 2 ^ w) sees.begins (is.below k d (omega (arith, ap (λ (x : List ℕ). length x) sees.begins, length-append s.rows sees.rest))));
  independent = independent-front s.rows sees.rest (subst IsIndependent sees.begins is.independent);
}

-- what a step of the pass `by` keeps of a pass n that is another, or of a record
pub others_fit : (shape : Shape) (h : List Entry) (views views' : List View) (by : ℕ) (call : Call) (d : Option Reply) (n : ℕ) (r : Known)
    → by ≢ n → ((m : ℕ) → get_elem? views m ≡ some Spent → (get_elem? views' m ≡ some Spent) × (by ≢ m))
    → ((g : ℕ) (o : Log) → Sees (log_of g h) o → Sees (log_of g (h ++ entries by call d)) o)
    → FitsKnown shape h views n r → FitsKnown shape (h ++ entries by call d) views' n r
others_fit shape h views views' by call d n r ne spent sees fit = record {
  numbered = fit.numbered;
  calls = own_same n by h call d ne ∙ fit.calls;
  sights = fit.sights;
  seen = λ g near. sees g (sight r g) (fit.seen g near);
  noted = λ m has. let was = fit.noted m has in let now = spent m was.0 in (now.0, stands_before_more m n by h call d now.1 was.1);
}

view_fits : (shape : Shape) (h : List Entry) (views views' : List View) (by : ℕ) (call : Call) (d : Option Reply) (records : List Known) (m : ℕ) (v : View)
    → by ≢ m → ((j : ℕ) → get_elem? views j ≡ some Spent → (get_elem? views' j ≡ some Spent) × (by ≢ j))
    → ((g : ℕ) (o : Log) → Sees (log_of g h) o → Sees (log_of g (h ++ entries by call d)) o)
    → FitsView shape h views records m v → FitsView shape (h ++ entries by call d) views' records m v
view_fits shape h views views' by call d records m (Founder gens given' records') ne spent sees fit = absurd fit
view_fits shape h views views' by call d records m (Pass r) ne spent sees fit = others_fit shape h views views' by call d m r ne spent sees fit
view_fits shape h views views' by call d records m Spent ne spent sees fit = fit

abbrev pub history_after : Bool → Call → List Entry → Known → ℕ → List Entry
history_after changing call h k f = h ++ entries k.number call (decided changing (sight k (generation_of call)) f call)

-- what stands of a pass that is out
pub pass_fits : (shape : Shape) (h : List Entry) (given : ℕ) (records : List Known) (words : List ℕ) (views : List View) → IsKept shape h given records words views
    → (n : ℕ) (k : Known) → get_elem? views n ≡ some (Pass k) → (0 < n) × FitsKnown shape h views n k
pass_fits shape h given records words views is zero k at = absurd (not_founder k _ _ _ (one_view views 0 (Pass k) _ at is.founder))
pass_fits shape h given records words views is (suc n) k at = (omega arith, is.passes n (Pass k) at)

try_advances : (shape : Shape) (h : List Entry) (given : ℕ) (records : List Known) (words : List ℕ) (views : List View) → IsKept shape h given records words views
    → (n : ℕ) (k : Known) → FitsKnown shape h views n k → (changing : Bool) (call : Call) → generation_of call < shape.generations
    → IsAllowed shape.width changing call (sight k (generation_of call)) → (f : ℕ) → get_or words (next_place shape k call) 0 ≡ f
    → Advance shape.width h (history_after changing call h k f) (generation_of call) (seen_after changing (sight k (generation_of call)) f call) (length (sight k (generation_of call)).rows) (exchanged f (stored changing call))
try_advances shape h given records words views is n k fit changing call near can f found =
    let g = generation_of call in
    let s = sight k g in
    let room = length_sight shape.width (log_of g h) s (is.logs g near) (fit.seen g near) in
    advance shape.width h k.number changing s call is.fits is.legal (is.logs g near) (fit.seen g near) can.0 can.1 f (sym found ∙ is.placed g (length s.rows) near room)

-- the pass itself afterwards
mine_fits : (shape : Shape) (h : List Entry) (views views' : List View) (k : Known) (changing : Bool) (call : Call) (f : ℕ) → generation_of call < shape.generations
    → FitsKnown shape h views k.number k
    → ((m : ℕ) → get_elem? views m ≡ some Spent → (get_elem? views' m ≡ some Spent) × (k.number ≢ m))
    → Advance shape.width h (history_after changing call h k f) (generation_of call) (seen_after changing (sight k (generation_of call)) f call) (length (sight k (generation_of call)).rows) (exchanged f (stored changing call))
    → FitsKnown shape (history_after changing call h k f) views' k.number (known_after changing call k f)
mine_fits shape h views views' k changing call f near fit spent step =
    let g = generation_of call in
    let s' = seen_after changing (sight k g) f call in
    let d = decided changing (sight k g) f call in
    record {
      numbered = refl;
      calls = own_more k.number h call d ∙ ap (λ x. x ++ entries k.number call d) fit.calls;
      sights = length-set k.seen g s' ∙ fit.sights;
      seen = λ j close. dite (ℕ_discrete j g)
          (λ e. subst (λ (x : ℕ). Sees (log_of x (history_after changing call h k f)) (get_or (set k.seen g s') x unseen)) (sym e)
          (subst (Sees (log_of g (history_after changing call h k f))) (sym (get_or-set_same k.seen g s' unseen (subst (λ (x : ℕ). g < x) (sym fit.sights) near))) step.mine))
          (λ ne. subst (Sees (log_of j (history_after changing call h k f))) (sym (get_or-set_other k.seen g j s' unseen ne)) (step.sees j (sight k j) (fit.seen j close)));
      noted = λ m has. let was = fit.noted m has in let now = spent m was.0 in (now.0, stands_before_more m k.number k.number h call d now.1 was.1);
    }

pub try_keeps : (shape : Shape) (h : List Entry) (given : ℕ) (records : List Known) (words : List ℕ) (views : List View) → IsKept shape h given records words views
    → (k : Known) → get_elem? views k.number ≡ some (Pass k) → 0 < k.number → FitsKnown shape h views k.number k → (changing : Bool) (call : Call) → generation_of call < shape.generations
    → IsAllowed shape.width changing call (sight k (generation_of call)) → (f : ℕ) → get_or words (next_place shape k call) 0 ≡ f
    → IsKept shape (history_after changing call h k f) given records (set words (next_place shape k call) (exchanged f (stored changing call))) (set views k.number (Pass (known_after changing call k f)))
    × IsLog shape.width (sight (known_after changing call k f) (generation_of call))
    × ((sight k (generation_of call)).closed ≡ true → f ≡ CLOSED)
try_keeps shape h given records words views is k at pos fit changing call near can f found =
    let n = k.number in
    let g = generation_of call in
    let s = sight k g in
    let p = length s.rows in
    let i = next_place shape k call in
    let now = exchanged f (stored changing call) in
    let k' = known_after changing call k f in
    let h' = history_after changing call h k f in
    let d = decided changing s f call in
    let views' = set views n (Pass k') in
    let room = length_sight shape.width (log_of g h) s (is.logs g near) (fit.seen g near) in
    let step = try_advances shape h given records words views is n k fit changing call near can f found in
    let spent : (m : ℕ) → get_elem? views m ≡ some Spent → (get_elem? views' m ≡ some Spent) × (n ≢ m) = λ m gone.
    let ne : m ≢ n = λ e. not_spent k (one_view views n (Pass k) Spent at (subst (λ (x : ℕ). get_elem? views x ≡ some Spent) e gone)) in
    (set_else views n m (Pass k') ne ∙ gone, λ e. ne (sym e)) in
    let mine = mine_fits shape h views views' k changing call f near fit spent step in
    let there = inside views n (Pass k) at in (
      record {
        fits = is.fits;
        legal = step.legal;
        logs = λ j close. step.logs j (is.logs j close);
        size = length-set words i now ∙ is.size;
        first = get_or-set_other words i 0 now 0 (λ e. omega arith) ∙ is.first;
        placed = λ j q close in_place. dite (ℕ_discrete j g)
            (λ e. dite (ℕ_discrete q p)
            (λ eq. subst (λ (x : ℕ × ℕ). get_or (set words i now) (place_of shape.width x.0 x.1) 0 ≡ word_at (log_of x.0 h') x.1) (λ t. (sym e t, sym eq t))
            (get_or-set_same words i now 0 (subst (λ (x : ℕ). i < x) (sym is.size) (place_inside shape.width shape.generations g p near room)) ∙ sym step.here))
            (λ ne. get_or-set_other words i (place_of shape.width j q) now 0 (places_apart shape.width g p j q room in_place (λ _. ne)) ∙ is.placed j q close in_place ∙ sym (step.elsewhere j q (λ _. ne))))
            (λ ne. get_or-set_other words i (place_of shape.width j q) now 0 (places_apart shape.width g p j q room in_place (λ e. absurd (ne e))) ∙ is.placed j q close in_place ∙ sym (step.elsewhere j q (λ e. absurd (ne e))));
        founder = set_else views n 0 (Pass k') (λ e. omega arith) ∙ is.founder;
        counted = length-set views n (Pass k') ∙ is.counted;
        spent = count_same views n (Pass k) (Pass k') at refl ∙ is.spent;
        passes = λ m v e. ⊎_elim
            (λ (t : (suc m ≡ n) × (Pass k' ≡ v)). subst (λ (x : ℕ × View). FitsView shape h' views' records x.0 x.1) (λ j. (sym t.0 j, t.1 j)) mine)
            (λ (t : (suc m ≢ n) × (get_elem? views (suc m) ≡ some v)). view_fits shape h views views' n call d records (suc m) v (λ e'. t.0 (sym e')) spent step.sees (is.passes m v t.1))
            (at_set views n (suc m) (Pass k') v e);
        recorded = λ r has. let was = is.recorded r has in let gone = spent r.number was.0 in
            (gone.0, others_fit shape h views views' n call d r.number r gone.1 spent step.sees was.1);
        strangers = λ m far. own_same m n h call d (λ e. ⊎_elim (λ (z : m ≡ 0). omega arith) (λ (z : given < m). omega (arith, is.counted)) far) ∙ is.strangers m far;
      },
      sight_is_log shape.width (log_of g h') (sight k' g) (step.logs g (is.logs g near)) (mine.seen g near),
      λ shut. sym found ∙ is.placed g p near room ∙ closed_found shape.width (log_of g h) s is.fits (is.logs g near) (fit.seen g near) shut,
    )
