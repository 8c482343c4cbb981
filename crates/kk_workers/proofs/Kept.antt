-- The answers of the generations that a pass froze.
use Rattle.std.proofs.Common.{◌≡◌, ◌==◌, ℕ, zero, suc, ◌+◌, ◌<◌, ◌≤◌, true, List, [], ◌∷◌, ◌++◌, length, drop, get_or, set, replicate, Option, Some, None, refl, sym, ap, ◌∙◌, subst, eq-eqb, ne_eqb, arith}
use Rattle.std.specs.Option.{option_or}
use Rattle.std.specs.declared.alloc.Global.{Global}
use Rattle.std.specs.declared.vec.Vec.{Vec}
use Rattle.std.proofs.lemmas.List.{get_or-replicate, length-replicate, get_or-set_same, get_or-set_other, length-set, at_drop_more, at_drop_all}
use mathlib.Core.Logic.{dite}
use native.Mathlib.Decide.{ℕ_discrete}
use Rattle.kk_rows.specs.declared.rows.Row.{Row}
use Rattle.kk_code.specs.Codeword.{Parameters}
use Rattle.kk_code.specs.Decoding.{answer}
use Rattle.kk_code.specs.Ticket.{TicketFields, generations}
use Rattle.kk_machine.specs.declared.log.Log.{Log}
use Rattle.kk_machine.specs.declared.call.Call.TheVariants.{Insert, Freeze}
use Rattle.kk_machine.specs.declared.call.Reply.TheVariants.{Frozen}
use Rattle.kk_machine.specs.declared.call.Entry.{Entry}
use Rattle.kk_machine.specs.Spaces.{generation_of}
use Rattle.kk_machine.specs.History.{entry}
use Rattle.kk_machine.specs.Inserts.{tally, in_generation, froze}
use Rattle.kk_machine.proofs.Tallies.{tally-none, tally-push}
use Rattle.kk_table.specs.declared.answers.Inserted.{Inserted}
use Rattle.kk_table.specs.declared.answers.Freeze.{Freeze as FreezeAnswer}
use Rattle.kk_table.specs.declared.answers.Freeze.TheVariants as freeze_answers
use Rattle.kk_table.specs.Answers.{insert_reply, freeze_reply}
use Rattle.kk_table.specs.declared.view.Known.{Known}
use Rattle.kk_table.specs.Rule.{sight}
use Rattle.kk_table.specs.Pass.{GoesOn}
use Rattle.kk_workers.specs.declared.inserter.Inserter.{Inserter}
use Rattle.kk_workers.specs.Totals.{totals_in, no_totals, counted, AreWithin}
use Rattle.kk_workers.specs.WorkerCalls.{AreAnswers}
use Rattle.kk_workers.specs.WorkerLoop.{AreTotals, IsInserter}
use Rattle.kk_workers.specs.Runs.{lists_in, kept_answer}
use Rattle.kk_workers.proofs.Counting.{part, AreTotals-none, totals-insert, totals-freeze, insert_unfrozen}

-- ---- one pass

-- what a pass knows of a closed generation stays
still : (g j : ℕ) (k k' : Known) → GoesOn g k k' → (sight k j).closed ≡ true → sight k' j ≡ sight k j
still g j k k' goes closed = dite (ℕ_discrete j g)
    (λ same. subst (λ (i : ℕ). sight k' i ≡ sight k i) (sym same) (goes.closed (subst (λ (i : ℕ). (sight k i).closed ≡ true) same closed)))
    (λ other. goes.others j other)

-- one call more, which isn't told that it froze
pub AreAnswers-more : (p : Parameters) (g : ℕ) (k k' : Known) (answers : List (Option (Option (List ℕ)))) (e : Entry) → GoesOn g k k' → k'.calls ≡ k.calls ++ e ∷ [] → froze e.reply ≡ 0
    → AreAnswers p k answers → AreAnswers p k' answers
AreAnswers-more p g k k' answers e goes call unfrozen are = λ j inside.
    let count : tally (in_generation j froze) k'.calls ≡ tally (in_generation j froze) k.calls =
    ap (tally (in_generation j froze)) call ∙ omega (arith, tally-push (in_generation j froze) k.calls e, part (generation_of e.call == j) (froze e.reply), unfrozen) in (
      λ some.
          let old = (are j inside).0 (omega (arith, some, count)) in
          let same = still g j k k' goes old.1 in
          (old.0 ∙ ap (λ (l : Log). Some (answer p l.rows)) (sym same), ap (λ (l : Log). l.closed) same ∙ old.1),
      λ none. (are j inside).1 (sym count ∙ none),
    )

-- a freeze that is told so, whose answer is kept
pub AreAnswers-frozen : (p : Parameters) (g : ℕ) (k k' : Known) (answers : List (Option (Option (List ℕ)))) (number rank : ℕ) → GoesOn g k k'
    → k'.calls ≡ k.calls ++ entry number (Freeze g) (Frozen rank) ∷ [] → (sight k' g).closed ≡ true → g < length answers → AreAnswers p k answers
    → AreAnswers p k' (set answers g (Some (answer p (sight k' g).rows)))
AreAnswers-frozen p g k k' answers number rank goes call closed there are = λ j inside.
    let e = entry number (Freeze g) (Frozen rank) in
    let new = Some (answer p (sight k' g).rows) in
    let push : tally (in_generation j froze) k'.calls ≡ tally (in_generation j froze) k.calls + in_generation j froze e =
    ap (tally (in_generation j froze)) call ∙ tally-push (in_generation j froze) k.calls e in
    dite (ℕ_discrete j g)
    (λ same.
    let one : in_generation j froze e ≡ 1 = rw (eq-eqb g j (sym same)) refl in (
      λ some. (
        subst (λ (i : ℕ). get_or (set answers g new) i None ≡ Some (answer p (sight k' i).rows)) (sym same) (get_or-set_same answers g new None there),
        subst (λ (i : ℕ). (sight k' i).closed ≡ true) (sym same) closed,
      ),
      λ none. absurd (omega (arith, none, push, one)),
    ))
    (λ other.
    let nothing : in_generation j froze e ≡ 0 = rw (ne_eqb g j (λ same. other (sym same))) refl in
    let count : tally (in_generation j froze) k'.calls ≡ tally (in_generation j froze) k.calls = omega (arith, push, nothing) in
    let inside' : j < length answers = omega (arith, inside, length-set answers g new) in
    let at : get_or (set answers g new) j None ≡ get_or answers j None = get_or-set_other answers g j new None other in (
      λ some.
          let old = (are j inside').0 (omega (arith, some, count)) in
          let same = goes.others j other in
          (at ∙ old.0 ∙ ap (λ (l : Log). Some (answer p l.rows)) (sym same), ap (λ (l : Log). l.closed) same ∙ old.1),
      λ none. at ∙ (are j inside').1 (sym count ∙ none),
    ))

-- a pass that has made no call
pub IsInserter-start : (t : TicketFields) (i : Inserter) → i.totals ≡ no_totals → i.pass.known.calls ≡ [] → i.answers.items ≡ replicate (generations t) None → IsInserter t i
IsInserter-start t i no_inserts no_calls none =
    let all : length i.answers.items ≡ generations t = ap length none ∙ length-replicate {A = Option (Option (List ℕ))} (generations t) None in
    record {
      totals = AreTotals-none i.totals i.pass.known.calls no_inserts no_calls;
      all = all;
      answers = λ g inside. (
        λ some. absurd (omega (arith, some, ap (tally (in_generation g froze)) no_calls, tally-none (in_generation g froze))),
        λ nothing. ap (λ (x : List (Option (Option (List ℕ)))). get_or x g None) none ∙ get_or-replicate (generations t) g None None (omega (arith, inside, all)),
      );
    }

-- after an insert
pub IsInserter-insert : (t : TicketFields) (i j : Inserter) (number g : ℕ) (row : Row) (told : Inserted) → GoesOn g i.pass.known j.pass.known
    → j.pass.known.calls ≡ i.pass.known.calls ++ entry number (Insert g row) (insert_reply told) ∷ [] → j.totals ≡ counted told i.totals → AreWithin j.totals → j.answers.items ≡ i.answers.items
    → IsInserter t i → IsInserter t j
IsInserter-insert t i j number g row told goes call count within same is = record {
  totals = record { are = count ∙ ap (counted told) is.totals.are ∙ sym (totals-insert i.pass.known.calls number g row told) ∙ ap totals_in (sym call); within = within };
  all = ap length same ∙ is.all;
  answers = subst (AreAnswers t.code j.pass.known) (sym same)
      (AreAnswers-more t.code g i.pass.known j.pass.known i.answers.items (entry number (Insert g row) (insert_reply told)) goes call (insert_unfrozen told) is.answers);
}

totals_stay : (i j : Inserter) (number g : ℕ) (told : FreezeAnswer) → j.pass.known.calls ≡ i.pass.known.calls ++ entry number (Freeze g) (freeze_reply told) ∷ [] → j.totals ≡ i.totals
    → AreTotals i.totals i.pass.known.calls → AreTotals j.totals j.pass.known.calls
totals_stay i j number g told call same is = record {
  are = same ∙ is.are ∙ sym (totals-freeze i.pass.known.calls number g told) ∙ ap totals_in (sym call);
  within = subst AreWithin (sym same) is.within;
}

-- after a freeze of a generation that another had frozen
pub IsInserter-already : (t : TicketFields) (i j : Inserter) (number g : ℕ) → GoesOn g i.pass.known j.pass.known
    → j.pass.known.calls ≡ i.pass.known.calls ++ entry number (Freeze g) (freeze_reply freeze_answers.Already) ∷ [] → j.totals ≡ i.totals → j.answers.items ≡ i.answers.items → IsInserter t i → IsInserter t j
IsInserter-already t i j number g goes call totals same is = record {
  totals = totals_stay i j number g freeze_answers.Already call totals is.totals;
  all = ap length same ∙ is.all;
  answers = subst (AreAnswers t.code j.pass.known) (sym same)
      (AreAnswers-more t.code g i.pass.known j.pass.known i.answers.items (entry number (Freeze g) (freeze_reply freeze_answers.Already)) goes call refl is.answers);
}

-- after one that froze, and the decoding of what it closed
pub IsInserter-frozen : (t : TicketFields) (i j : Inserter) (number g rank : ℕ) (a : Option (List ℕ)) → GoesOn g i.pass.known j.pass.known
    → j.pass.known.calls ≡ i.pass.known.calls ++ entry number (Freeze g) (freeze_reply (freeze_answers.Frozen rank)) ∷ [] → (sight j.pass.known g).closed ≡ true → g < generations t
    → a ≡ answer t.code (sight j.pass.known g).rows → j.totals ≡ i.totals → j.answers.items ≡ set i.answers.items g (Some a) → IsInserter t i → IsInserter t j
IsInserter-frozen t i j number g rank a goes call closed below at totals new is = record {
  totals = totals_stay i j number g (freeze_answers.Frozen rank) call totals is.totals;
  all = ap length new ∙ length-set i.answers.items g (Some a) ∙ is.all;
  answers = subst (AreAnswers t.code j.pass.known) (sym (new ∙ ap (λ (b : Option (List ℕ)). set i.answers.items g (Some b)) at))
      (AreAnswers-frozen t.code g i.pass.known j.pass.known i.answers.items number rank goes call closed (omega (arith, below, is.all)) is.answers);
}

-- ---- the answers of several

abbrev Kept : Type 0
Kept = List (Option (Option (List ℕ)))

-- who kept an answer
pub kept_some : (kept : List Kept) (g : ℕ) (a : Option (List ℕ)) → kept_answer kept g ≡ Some a → (i : ℕ) × (i < length kept) × ((room : Kept) → get_or (get_or kept i room) g None ≡ Some a)
unfolding kept_answer
kept_some [] g a is = absurd (cc is)
kept_some (first ∷ rooms) g a is = by_case (get_or first g None) refl is (kept_some rooms g a)
  where
    by_case : (o : Option (Option (List ℕ))) → get_or first g None ≡ o → option_or o (kept_answer rooms g) ≡ Some a
        → (kept_answer rooms g ≡ Some a → (i : ℕ) × (i < length rooms) × ((room : Kept) → get_or (get_or rooms i room) g None ≡ Some a))
        → (i : ℕ) × (i < length (first ∷ rooms)) × ((room : Kept) → get_or (get_or (first ∷ rooms) i room) g None ≡ Some a)
    by_case None at is rest = let r = rest is in (suc r.0, omega (arith, r.1), r.2)
    by_case (Some x) at is rest = (0, omega arith, λ room. at ∙ is)

-- where nobody did, there is none
pub kept_none : (kept : List Kept) (g : ℕ) → kept_answer kept g ≡ None → (i : ℕ) (room : Kept) → i < length kept → get_or (get_or kept i room) g None ≡ None
unfolding kept_answer
kept_none [] g is i room near = absurd (omega (arith, near))
kept_none (first ∷ rooms) g is i room near = by_case (get_or first g None) refl is (kept_none rooms g) i near
  where
    by_case : (o : Option (Option (List ℕ))) → get_or first g None ≡ o → option_or o (kept_answer rooms g) ≡ None
        → (kept_answer rooms g ≡ None → (j : ℕ) (d : Kept) → j < length rooms → get_or (get_or rooms j d) g None ≡ None)
        → (j : ℕ) → j < length (first ∷ rooms) → get_or (get_or (first ∷ rooms) j room) g None ≡ None
    by_case None at is rest zero near = at
    by_case None at is rest (suc j) near = rest is j room (omega (arith, near))
    by_case (Some x) at is rest j near = absurd (cc is)

-- ---- the search for one

module _ (rooms : List (Vec (Option (Option (List ℕ))) Global)) (i g : ℕ) (left : kept_answer (lists_in (drop i rooms)) g ≡ kept_answer (lists_in rooms) g) where
  first_left : (room : Vec (Option (Option (List ℕ))) Global) → i < length rooms → room ≡ get_or rooms i room
      → kept_answer (lists_in rooms) g ≡ option_or (get_or room.items g None) (kept_answer (lists_in (drop (i + 1) rooms)) g)
  unfolding kept_answer
  first_left room near is =
      sym left ∙ at_drop_more (λ (rs : List (Vec (Option (Option (List ℕ))) Global)). kept_answer (lists_in rs) g) rooms i room near
      ∙ ap (λ (r : Vec (Option (Option (List ℕ))) Global). option_or (get_or r.items g None) (kept_answer (lists_in (drop (i + 1) rooms)) g)) (sym is)

  pub kept_here : (room : Vec (Option (Option (List ℕ))) Global) (a : Option (List ℕ)) → i < length rooms → room ≡ get_or rooms i room → Some a ≡ get_or room.items g None
      → Some a ≡ kept_answer (lists_in rooms) g
  kept_here room a near is at = ap (λ (o : Option (Option (List ℕ))). option_or o (kept_answer (lists_in (drop (i + 1) rooms)) g)) at ∙ sym (first_left room near is)

  pub kept_further : (room : Vec (Option (Option (List ℕ))) Global) → i < length rooms → room ≡ get_or rooms i room → None ≡ get_or room.items g None
      → kept_answer (lists_in (drop (i + 1) rooms)) g ≡ kept_answer (lists_in rooms) g
  kept_further room near is at = ap (λ (o : Option (Option (List ℕ))). option_or o (kept_answer (lists_in (drop (i + 1) rooms)) g)) at ∙ sym (first_left room near is)

  pub kept_nowhere : length rooms ≤ i → None ≡ kept_answer (lists_in rooms) g
  unfolding kept_answer
  kept_nowhere over = sym (at_drop_all (λ (rs : List (Vec (Option (Option (List ℕ))) Global)). kept_answer (lists_in rs) g) rooms i over) ∙ left
