-- One step, over a whole history: what it keeps of every generation.
use Rattle.std.proofs.Common.{◌≡◌, ◌≢◌, ℕ, ◌≤◌, Bool, true, List, ◌++◌, length, Option, Some, sym, ap, ◌∙◌, subst}
use mathlib.Core.Logic.{dite}
use native.Mathlib.Decide.{ℕ_discrete}
use Rattle.kk_machine.specs.declared.log.Log.{Log}
use Rattle.kk_machine.specs.declared.call.Call.{Call}
use Rattle.kk_machine.specs.declared.call.Reply.{Reply}
use Rattle.kk_machine.specs.declared.call.Entry.{Entry}
use Rattle.kk_machine.specs.Spaces.{generation_of, IsInWidth}
use Rattle.kk_machine.specs.Steps.{word_at, IsLog, Sees, exchanged, stored, changes, decided, log_then}
use Rattle.kk_machine.specs.History.{log_of, Legal, entries}
use Rattle.kk_machine.proofs.Turns.{Turn, Turns, seen_after, turn, answer}
use Rattle.kk_machine.proofs.Histories.{legal_entries, log_of-entries, log_of-entries_other}

-- the history goes on from h to h' by a step at this place of the generation, which leaves the word `now` there
pub record Advance (w : ℕ) (h h' : List Entry) (g : ℕ) (s' : Log) (place now : ℕ) : Type 0 where
  pub legal : Legal h'
  pub logs : (k : ℕ) → IsLog w (log_of k h) → IsLog w (log_of k h')
  pub sees : (k : ℕ) (o : Log) → Sees (log_of k h) o → Sees (log_of k h') o
  pub mine : Sees (log_of g h') s'
  pub here : word_at (log_of g h') place ≡ now
  pub elsewhere : (k q : ℕ) → (k ≡ g → q ≢ place) → word_at (log_of k h') q ≡ word_at (log_of k h) q

advance_by : (w : ℕ) (h : List Entry) (n : ℕ) (call : Call) (d : Option Reply) (s' : Log) (place now : ℕ) → Legal (h ++ entries n call d)
    → Turn w (log_of (generation_of call) h) (log_then (log_of (generation_of call) h) call d) s' place now
    → Advance w h (h ++ entries n call d) (generation_of call) s' place now
advance_by w h n call d s' place now legal t =
    let g = generation_of call in
    let same : log_of g (h ++ entries n call d) ≡ log_then (log_of g h) call d = log_of-entries h n call d in
    let other : (k : ℕ) → k ≢ g → log_of k (h ++ entries n call d) ≡ log_of k h = λ k ne. log_of-entries_other k h n call d (λ e. ne (sym e)) in
    record {
      legal = legal;
      logs = λ k is. dite (ℕ_discrete k g)
          (λ e. subst (λ (x : ℕ). IsLog w (log_of x (h ++ entries n call d))) (sym e) (subst (IsLog w) (sym same) t.is_log))
          (λ ne. subst (IsLog w) (sym (other k ne)) is);
      sees = λ k o sees. dite (ℕ_discrete k g)
          (λ e. subst (λ (x : ℕ). Sees (log_of x (h ++ entries n call d)) o) (sym e)
          (subst (λ x. Sees x o) (sym same) (t.others o (subst (λ (x : ℕ). Sees (log_of x h) o) e sees))))
          (λ ne. subst (λ x. Sees x o) (sym (other k ne)) sees);
      mine = subst (λ x. Sees x s') (sym same) t.mine;
      here = ap (λ x. word_at x place) same ∙ t.word_here;
      elsewhere = λ k q apart. dite (ℕ_discrete k g)
          (λ e. subst (λ (x : ℕ). word_at (log_of x (h ++ entries n call d)) q ≡ word_at (log_of x h) q) (sym e)
          (ap (λ x. word_at x q) same ∙ t.word_else q (apart e)))
          (λ ne. ap (λ x. word_at x q) (other k ne));
    }

pub advance : (w : ℕ) (h : List Entry) (n : ℕ) (changing : Bool) (s : Log) (call : Call) → w ≤ 63 → Legal h → IsLog w (log_of (generation_of call) h)
    → Sees (log_of (generation_of call) h) s → IsInWidth w call → (changing ≡ true → changes s call ≡ true) → (f : ℕ) → f ≡ word_at (log_of (generation_of call) h) (length s.rows)
    → Advance w h (h ++ entries n call (decided changing s f call)) (generation_of call) (seen_after changing s f call) (length s.rows) (exchanged f (stored changing call))
advance w h n changing s call fits legal is sees below change f found =
    let l = log_of (generation_of call) h in
    let t : Turns w changing l s call f = subst (Turns w changing l s call) (sym found) (turn w changing l s call fits is sees below change) in
    advance_by w h n call (decided changing s f call) (seen_after changing s f call) (length s.rows) (exchanged f (stored changing call))
    (legal_entries h n call (decided changing s f call) legal
    (λ r d. answer w changing l s call fits is sees r (subst (λ (x : ℕ). decided changing s x call ≡ Some r) found d)))
    t
