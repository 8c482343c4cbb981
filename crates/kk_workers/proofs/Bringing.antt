-- Calls that go on by the inserts of frames.
use Rattle.std.proofs.Common.{◌≡◌, ℕ, ◌<◌, true, false, List, [], ◌∷◌, ◌++◌, length, Option, refl, sym, ap, ◌∙◌, append-nil, append_assoc, length-append, arith}
use Rattle.kk_rows.specs.declared.rows.Row.{Row}
use Rattle.kk_machine.specs.declared.call.Call.{Call}
use Rattle.kk_machine.specs.declared.call.Call.TheVariants.{Insert, Freeze, Peek}
use Rattle.kk_machine.specs.declared.call.Reply.{Reply}
use Rattle.kk_machine.specs.declared.call.Entry.{Entry}
use Rattle.kk_machine.specs.History.{entry}
use Rattle.kk_machine.specs.Inserts.{AreBelow, tally, inserts}
use Rattle.kk_machine.proofs.Tallies.{AreBelow-none, AreBelow-append}
use Rattle.kk_table.specs.declared.answers.Inserted.{Inserted}
use Rattle.kk_table.specs.Answers.{insert_reply}
use Rattle.kk_workers.specs.WorkerCalls.{brought, all_brought, reaches}
use Rattle.kk_workers.specs.WorkerLoop.{InsertsInOrder}
use Rattle.kk_workers.proofs.Goals.{InsertsFor-none, InsertsFor-append, inserts_alone, inserts_to_goal}

pub all_brought-none : all_brought [] ≡ []
unfolding all_brought
all_brought-none = refl

pub all_brought-append : (a b : List Entry) → all_brought (a ++ b) ≡ all_brought a ++ all_brought b
unfolding all_brought
all_brought-append [] b = refl
all_brought-append (e ∷ es) b = ap (λ (x : List (ℕ × ℕ)). brought e.call ++ x) (all_brought-append es b) ∙ sym (append_assoc (brought e.call) (all_brought es) (all_brought b))

-- an insert brings one frame, another call none
brings_as_many : (e : Entry) → inserts e ≡ length (brought e.call)
brings_as_many e = by_call e.call
  where
    by_call : (call : Call) → inserts (record { number = e.number; call = call; reply = e.reply }) ≡ length (brought call)
    by_call (Insert g row) = refl
    by_call (Freeze g) = refl
    by_call (Peek g) = refl

pub inserts-brought : (es : List Entry) → tally inserts es ≡ length (all_brought es)
unfolding tally all_brought
inserts-brought [] = refl
inserts-brought (e ∷ es) = omega (arith, brings_as_many e, inserts-brought es, length-append (brought e.call) (all_brought es))

pub InsertsInOrder-nothing : (n : ℕ) (goal : Option ℕ) (calls : List Entry) → InsertsInOrder n goal calls calls []
InsertsInOrder-nothing n goal calls = record {
  more = [];
  goes_on = sym (append-nil calls);
  inserts = InsertsFor-none goal;
  below = AreBelow-none n;
  in_order = all_brought-none;
}

pub InsertsInOrder-append : (n : ℕ) (goal : Option ℕ) (a b c : List Entry) (fs gs : List (ℕ × ℕ)) → InsertsInOrder n goal a b fs → InsertsInOrder n goal b c gs → InsertsInOrder n goal a c (fs ++ gs)
InsertsInOrder-append n goal a b c fs gs ab bc = record {
  more = ab.more ++ bc.more;
  goes_on = bc.goes_on ∙ ap (λ (x : List Entry). x ++ bc.more) ab.goes_on ∙ append_assoc a ab.more bc.more;
  inserts = InsertsFor-append goal ab.more bc.more ab.inserts bc.inserts;
  below = AreBelow-append n ab.more bc.more ab.below bc.below;
  in_order = all_brought-append ab.more bc.more ∙ ap (λ (x : List (ℕ × ℕ)). x ++ all_brought bc.more) ab.in_order ∙ ap (λ (x : List (ℕ × ℕ)). fs ++ x) bc.in_order;
}

-- one insert, which doesn't reach the goal
pub InsertsInOrder-insert : (n : ℕ) (goal : Option ℕ) (a b : List Entry) (number g : ℕ) (row : Row) (answer : Inserted) → g < n → reaches goal answer ≡ false
    → b ≡ a ++ entry number (Insert g row) (insert_reply answer) ∷ [] → InsertsInOrder n goal a b ((g, row.0) ∷ [])
unfolding all_brought AreBelow
InsertsInOrder-insert n goal a b number g row answer below short is = record {
  more = entry number (Insert g row) (insert_reply answer) ∷ [];
  goes_on = is;
  inserts = inserts_alone goal number g row answer short;
  below = (below, tt);
  in_order = refl;
}

-- one that reaches it, and the freeze after it
pub InsertsInOrder-freeze : (n : ℕ) (goal : Option ℕ) (a b c : List Entry) (number number' g : ℕ) (row : Row) (answer : Inserted) (reply : Reply) → g < n → reaches goal answer ≡ true
    → b ≡ a ++ entry number (Insert g row) (insert_reply answer) ∷ [] → c ≡ b ++ entry number' (Freeze g) reply ∷ [] → InsertsInOrder n goal a c ((g, row.0) ∷ [])
unfolding all_brought AreBelow
InsertsInOrder-freeze n goal a b c number number' g row answer reply below there is freeze =
    let e = entry number (Insert g row) (insert_reply answer) in
    let f = entry number' (Freeze g) reply in
    record {
      more = e ∷ f ∷ [];
      goes_on = freeze ∙ ap (λ (x : List Entry). x ++ f ∷ []) is ∙ append_assoc a (e ∷ []) (f ∷ []);
      inserts = inserts_to_goal goal number number' g row answer reply there;
      below = (below, (below, tt));
      in_order = refl;
    }
