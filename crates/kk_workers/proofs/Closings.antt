-- Generations closed one after another.
use Rattle.std.proofs.Common.{◌≡◌, ℕ, zero, suc, ◌+◌, Bool, true, false, if◌then◌else◌, Option, List, [], ◌∷◌, ◌++◌, refl, sym, ap, ◌∙◌, subst, append-nil, append_assoc, true≢false, arith}
use Rattle.std.specs.Prelude.{filter, is_none}
use Rattle.std.specs.List.{range_with_len}
use Rattle.std.proofs.lemmas.List.Elements.{filter-append}
use mathlib.Core.Logic.{dite}
use native.Mathlib.Decide.{ℕ_discrete}
use Rattle.kk_machine.specs.declared.log.Log.{Log}
use Rattle.kk_machine.specs.declared.call.Call.TheVariants.{Freeze}
use Rattle.kk_machine.specs.declared.call.Entry.{Entry}
use Rattle.kk_machine.specs.History.{entry}
use Rattle.kk_machine.specs.Inserts.{EachCall, AreBelow, is_freeze}
use Rattle.kk_machine.proofs.Tallies.{EachCall-none, EachCall-push, AreBelow-none, AreBelow-push}
use Rattle.kk_table.specs.declared.view.Known.{Known}
use Rattle.kk_table.specs.declared.answers.Freeze.{Freeze as FreezeAnswer}
use Rattle.kk_table.specs.declared.answers.Freeze.TheVariants.{Frozen, Already}
use Rattle.kk_table.specs.Answers.{freeze_reply, FreezeTold}
use Rattle.kk_table.specs.Rule.{sight}
use Rattle.kk_table.specs.Pass.{GoesOn}
use Rattle.kk_workers.specs.Totals.{totals_in}
use Rattle.kk_workers.specs.Runs.{closed_by, all_closed_by, kept_answer, Closes}
use Rattle.kk_workers.proofs.Counting.{totals-none, totals-freeze}

all_closed_by-none : all_closed_by [] ≡ []
unfolding all_closed_by
all_closed_by-none = refl

all_closed_by-push : (es : List Entry) (e : Entry) → all_closed_by (es ++ e ∷ []) ≡ all_closed_by es ++ closed_by e.call
unfolding all_closed_by
all_closed_by-push [] e = append-nil (closed_by e.call)
all_closed_by-push (x ∷ xs) e = ap (λ (l : List ℕ). closed_by x.call ++ l) (all_closed_by-push xs e) ∙ sym (append_assoc (closed_by x.call) (all_closed_by xs) (closed_by e.call))

-- numbers in a row, one more
range-more : (a n : ℕ) → range_with_len a (suc n) ≡ range_with_len a n ++ (a + n) ∷ []
range-more a zero = ap (λ (k : ℕ). k ∷ []) (omega arith)
range-more a (suc n) = ap (λ (l : List ℕ). a ∷ l) (range-more (a + 1) n ∙ ap (λ (k : ℕ). range_with_len (a + 1) n ++ k ∷ []) (omega arith))

range_next : (n : ℕ) → range_with_len 0 (n + 1) ≡ range_with_len 0 n ++ n ∷ []
range_next n = ap (range_with_len 0) {x = n + 1} {y = suc n} (omega arith) ∙ range-more 0 n ∙ ap (λ (k : ℕ). range_with_len 0 n ++ k ∷ []) {x = 0 + n} {y = n} (omega arith)

told_closed : (s : Log) (answer : FreezeAnswer) → FreezeTold s answer → s.closed ≡ true
told_closed s (Frozen rank) told = told.0
told_closed s Already told = told

-- ---- those that are open

open_next : (kept : List (List (Option (Option (List ℕ))))) (n : ℕ) (b : Bool) → is_none (kept_answer kept n) ≡ b
    → filter (λ g. is_none (kept_answer kept g)) (range_with_len 0 (n + 1)) ≡ filter (λ g. is_none (kept_answer kept g)) (range_with_len 0 n) ++ (if b then n ∷ [] else [])
open_next kept n b is =
    let test : ℕ → Bool = λ g. is_none (kept_answer kept g) in
    ap (filter test) (range_next n) ∙ filter-append test (range_with_len 0 n) (n ∷ []) ∙ ap (λ (c : Bool). filter test (range_with_len 0 n) ++ (if c then n ∷ [] else [])) is

closes_none : (calls : List Entry) → calls ≡ [] → EachCall is_freeze calls × (all_closed_by calls ≡ []) × (totals_in calls ≡ totals_in []) × AreBelow 0 calls
closes_none calls none =
    subst (λ (es : List Entry). EachCall is_freeze es × (all_closed_by es ≡ []) × (totals_in es ≡ totals_in []) × AreBelow 0 es) (sym none)
    (EachCall-none is_freeze, all_closed_by-none, refl, AreBelow-none 0)

pub Closes-none : (kept : List (List (Option (Option (List ℕ))))) (k : Known) → k.calls ≡ [] → Closes kept 0 k
Closes-none kept k none =
    let all = closes_none k.calls none in
    record {
      closed = λ g near none. absurd (omega (arith, near));
      freezes = all.0;
      in_order = all.1;
      totals = all.2 ∙ totals-none;
      below = all.3;
    }

below_more : (n : ℕ) (es : List Entry) → AreBelow n es → AreBelow (n + 1) es
unfolding AreBelow
below_more n [] below = tt
below_more n (e ∷ es) below = (omega (arith, below.0), below_more n es below.1)

-- one that is open, and is frozen
pub Closes-more : (kept : List (List (Option (Option (List ℕ))))) (n : ℕ) (k k' : Known) (answer : FreezeAnswer) → is_none (kept_answer kept n) ≡ true → Closes kept n k → GoesOn n k k' → FreezeTold (sight k' n) answer
    → k'.calls ≡ k.calls ++ entry k.number (Freeze n) (freeze_reply answer) ∷ [] → Closes kept (n + 1) k'
Closes-more kept n k k' answer left closes goes told is =
    let e = entry k.number (Freeze n) (freeze_reply answer) in
    record {
      closed = λ g near none. dite (ℕ_discrete g n)
          (λ same. subst (λ (m : ℕ). (sight k' m).closed ≡ true) (sym same) (told_closed (sight k' n) answer told))
          (λ other. ap (λ (l : Log). l.closed) (goes.others g other) ∙ closes.closed g (omega (arith, near, other)) none);
      freezes = subst (EachCall is_freeze) (sym is) (EachCall-push is_freeze k.calls e closes.freezes refl);
      in_order = ap all_closed_by is ∙ all_closed_by-push k.calls e ∙ ap (λ (l : List ℕ). l ++ n ∷ []) closes.in_order ∙ sym (open_next kept n true left);
      totals = ap totals_in is ∙ totals-freeze k.calls k.number n answer ∙ closes.totals;
      below = subst (AreBelow (n + 1)) (sym is) (AreBelow-push (n + 1) k.calls e (below_more n k.calls closes.below) (omega arith));
    }

-- one that a worker froze
pub Closes-skip : (kept : List (List (Option (Option (List ℕ))))) (n : ℕ) (k : Known) → is_none (kept_answer kept n) ≡ false → Closes kept n k → Closes kept (n + 1) k
Closes-skip kept n k there closes = record {
  closed = λ g near none. dite (ℕ_discrete g n)
      (λ same. absurd (true≢false (sym (ap is_none (ap (kept_answer kept) (sym same) ∙ none)) ∙ there)))
      (λ other. closes.closed g (omega (arith, near, other)) none);
  freezes = closes.freezes;
  in_order = closes.in_order ∙ sym (append-nil (filter (λ g. is_none (kept_answer kept g)) (range_with_len 0 n))) ∙ sym (open_next kept n false there);
  totals = closes.totals;
  below = below_more n k.calls closes.below;
}
