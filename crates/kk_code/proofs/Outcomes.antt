-- A text is a ticket or has a first fault, and `ticket_of` tells which.
use Rattle.std.proofs.Common.{◌≡◌, ◌⊎◌, ℕ, ◌+◌, ◌^◌, Bool, true, false, not, ◌&&◌, cond, leb, ltb, List, Option, Some, None, Result, Ok, Err, inl, inr, refl, sym, subst, ◌∙◌, arith}
use Rattle.std.proofs.lemmas.Bool.{cases_lt, cases_Bool, and_parts, leb-true, ltb-true, lt-ltb, le-ltb}
use Rattle.std.proofs.lemmas.Bool.Decides.{not_from_Decides}
use Rattle.kk_field.specs.Field.{polynomial}
use Rattle.kk_field.specs.Polynomial.{irreducible}
use Rattle.kk_field.proofs.Irreducible.{irreducible-Decides}
use Rattle.kk_code.specs.Codeword.{Parameters, IsInRange, IsNarrow}
use Rattle.kk_code.specs.Ticket.{TicketFields, generations}
use Rattle.kk_code.specs.TicketText.{shape_fault, range_fault, spelled, ticket_of, IsFirstFault, IsTicketText}
use Rattle.kk_code.specs.Reading.{IsAnswer}
use Rattle.kk_code.specs.declared.ticket.TheConstants.{MAX_GENERATIONS}
use Rattle.kk_code.specs.declared.fault.TicketFault.{TicketFault}
use Rattle.kk_code.specs.declared.fault.TicketFault.TheVariants.{Shape, Range, NotIrreducible, TooMany}
use Rattle.kk_code.specs.Laws.{TextIsOfATicket, TextIsATicketOrFaulty, TicketOfIsExact}
use Rattle.kk_code.proofs.Answers.{some_is_none, answer_every, answer_fault}
use Rattle.kk_code.proofs.Texts.{session_below}

passed : (b : Bool) (n : ℕ) (later : Option ℕ) → cond (not b) (Some n) later ≡ None → (b ≡ true) × (later ≡ None)
passed true n later h = (refl, h)
passed false n later h = absurd (some_is_none (Some n) n refl h)

pub IsInRange-from_no_fault : (p : Parameters) → range_fault p ≡ None → IsInRange p
unfolding range_fault
IsInRange-from_no_fault p h =
    let m = p.field.degree in
    let first = passed (leb 2 m && leb m 62) 2 _ h in
    let second = passed (ltb p.field.low (2 ^ m)) 3 _ first.1 in
    let third = passed (leb 1 p.l && leb p.l m && leb (p.l + m) 63) 4 _ second.1 in
    let fourth = passed (leb 1 p.k && leb p.k p.l) 5 _ third.1 in
    let degree = and_parts (leb 2 m) (leb m 62) first.0 in
    let points = and_parts (leb 1 p.l && leb p.l m) (leb (p.l + m) 63) third.0 in
    let some_points = and_parts (leb 1 p.l) (leb p.l m) points.0 in
    let symbols = and_parts (leb 1 p.k) (leb p.k p.l) fourth.0 in
    record {
      m_low = leb-true 2 m degree.0;
      m_high = omega (arith, leb-true m 62 degree.1);
      low = ltb-true p.field.low (2 ^ m) second.0;
      l_low = leb-true 1 p.l some_points.0;
      l_high = leb-true p.l m some_points.1;
      k_low = leb-true 1 p.k symbols.0;
      k_high = leb-true p.k p.l symbols.1;
    }

pub IsNarrow-from_no_fault : (p : Parameters) → range_fault p ≡ None → IsNarrow p
unfolding range_fault
IsNarrow-from_no_fault p h =
    let m = p.field.degree in
    let first = passed (leb 2 m && leb m 62) 2 _ h in
    let second = passed (ltb p.field.low (2 ^ m)) 3 _ first.1 in
    let third = passed (leb 1 p.l && leb p.l m && leb (p.l + m) 63) 4 _ second.1 in
    let degree = and_parts (leb 2 m) (leb m 62) first.0 in
    let points = and_parts (leb 1 p.l && leb p.l m) (leb (p.l + m) 63) third.0 in
    record { m_high = leb-true m 62 degree.1; wide = leb-true (p.l + m) 63 points.1 }

pub text_is_of_a_ticket : TextIsOfATicket
text_is_of_a_ticket text t h = record { session = session_below text t h; code = IsInRange-from_no_fault t.code h.range; narrow = IsNarrow-from_no_fault t.code h.range; irreducible = h.irreducible; few = h.few }

value_of : {A : Type 0} (o : Option A) → ((x : A) × (o ≡ Some x)) ⊎ (o ≡ None)
value_of None = inr refl
value_of (Some x) = inl (x, refl)

-- ---- what `ticket_of` gives

ticket_of-shape : (text : List ℕ) (at : ℕ) → shape_fault text ≡ Some at → ticket_of text ≡ Err (Shape at)
unfolding ticket_of
ticket_of-shape text at shape = rw (shape, ticket_of) refl

ticket_of-range : (text : List ℕ) (part : ℕ) → shape_fault text ≡ None → range_fault (spelled text).code ≡ Some part → ticket_of text ≡ Err (Range part)
unfolding ticket_of
ticket_of-range text part shape range = rw (shape, range, ticket_of) refl

ticket_of-in_range : (text : List ℕ) → shape_fault text ≡ None → range_fault (spelled text).code ≡ None → ticket_of text ≡ cond (not (irreducible (polynomial (spelled text).code.field))) (Err NotIrreducible) (cond (ltb MAX_GENERATIONS (generations (spelled text))) (Err (TooMany (generations (spelled text)))) (Ok (spelled text)))
unfolding ticket_of
ticket_of-in_range text shape range = rw (shape, range, ticket_of) refl

answer_in_range : (text : List ℕ) → shape_fault text ≡ None → range_fault (spelled text).code ≡ None → IsAnswer text (ticket_of text)
answer_in_range text shape range =
    let t = spelled text in
    let p = polynomial t.code.field in
    let answer = ticket_of-in_range text shape range in
    elim (cases_Bool (irreducible p)) [
      | inr product ↦
          let is : ticket_of text ≡ Err NotIrreducible = answer ∙ rw product refl in
          subst (IsAnswer text) (sym is) (shape, range, not_from_Decides (irreducible p) (irreducible-Decides p) product)
      | inl prime ↦
          let irreducible = (irreducible-Decides p).0 prime in
          elim (cases_lt MAX_GENERATIONS (generations t)) [
            | inl many ↦
                let is : ticket_of text ≡ Err (TooMany (generations t)) = answer ∙ rw (prime, lt-ltb MAX_GENERATIONS (generations t) many) refl in
                subst (IsAnswer text) (sym is) (shape, range, irreducible, refl, many)
            | inr few ↦
                let is : ticket_of text ≡ Ok t = answer ∙ rw (prime, le-ltb MAX_GENERATIONS (generations t) few) refl in
                subst (IsAnswer text) (sym is) (record { shape = shape; spells = refl; range = range; irreducible = irreducible; few = few })
          ]
    ]

pub answer_of : (text : List ℕ) → IsAnswer text (ticket_of text)
answer_of text =
    elim (value_of (shape_fault text)) [
      | inl at ↦ subst (IsAnswer text) (sym (ticket_of-shape text at.0 at.1)) (at.1)
      | inr shape ↦ elim (value_of (range_fault (spelled text).code)) [
        | inl part ↦ subst (IsAnswer text) (sym (ticket_of-range text part.0 shape part.1)) (shape, part.1)
        | inr range ↦ answer_in_range text shape range
      ]
    ]

outcome : (text : List ℕ) (r : Result TicketFields TicketFault) → IsAnswer text r → ((t : TicketFields) × IsTicketText text t) ⊎ ((fault : TicketFault) × IsFirstFault text fault)
outcome text (Ok t) h = inl (t, h)
outcome text (Err fault) h = inr (fault, h)

pub outcome_of : TextIsATicketOrFaulty
outcome_of text = outcome text (ticket_of text) (answer_of text)

pub ticket_of_is_exact : TicketOfIsExact
ticket_of_is_exact = record {
  ok = λ text t. (λ is. subst (IsAnswer text) is (answer_of text), λ h. answer_every text (ticket_of text) t (answer_of text) h);
  err = λ text fault. answer_fault text (ticket_of text) fault (answer_of text);
}

pub answer_is : (text : List ℕ) (r : Result TicketFields TicketFault) → IsAnswer text r → r ≡ ticket_of text
answer_is text (Ok t) h = sym (answer_every text (ticket_of text) t (answer_of text) h)
answer_is text (Err fault) h = sym ((answer_fault text (ticket_of text) fault (answer_of text)).1 h)
