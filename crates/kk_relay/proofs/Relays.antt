-- What a relay holds and sends, with one data frame more.
use Rattle.std.proofs.Common.{◌≡◌, ◌≢◌, ◌⊎◌, ℕ, ◌+◌, ◌<◌, ◌≤◌, List, [], ◌∷◌, ◌++◌, length, get_or, refl, ap, sym, subst, ◌∙◌, inl, inr, arith, append_assoc, length-append, get_or-set_same, get_or-set_other}
use Rattle.std.specs.Prelude.{IsTrue}
use Rattle.std.specs.List.{range_with_len}
use Rattle.std.proofs.Math.ListN.{set, length-set}
use Rattle.std.proofs.lemmas.Bool.{cases_eq, cases_Bool}
use Rattle.std.proofs.lemmas.List.{append-nil, same_lists}
use Rattle.std.proofs.lemmas.List.Elements.{All-map}
use Rattle.std.proofs.lemmas.List.FromFn.{length-map-range_with_len, get_or-map-range_with_len}
use Rattle.kk_rows.specs.Combination.{combination}
use Rattle.kk_rows.specs.Span.{in_span, innovative, innovative_after}
use Rattle.kk_rows.proofs.Combinations.{in_span-combination}
use Rattle.kk_rows.proofs.Dimensions.{innovative-push_inside, innovative-push_outside, in_span_innovative}
use Rattle.kk_code.specs.Codeword.{width}
use Rattle.kk_code.specs.Ticket.{TicketFields, generations}
use Rattle.kk_frame.specs.Generation.{rows_of}
use Rattle.kk_frame.proofs.Generations.{rows_of-push_same, rows_of-push_other}
use Rattle.kk_relay.specs.Laws.{RelayedRowsAreSpanned}
use Rattle.kk_relay.specs.RelayState.{BasisState, no_rows, with_row, basis_after, relay_after}
use Rattle.kk_relay.specs.Relaying.{held, emissions, combinations, sent_for, sent_after, relayed}
use Rattle.kk_relay.proofs.Bases.{with_row-inside, with_row-outside}

-- ---- what is sent

pub length-combinations : (word : ℕ → ℕ) (g : ℕ) (rows : List ℕ) (first n : ℕ) → length (combinations word g rows first n) ≡ n
length-combinations word g rows first n = length-map-range_with_len (λ i. (g, combination rows (word i))) first n

pub sent_after-cons : (rate : ℕ) (word : ℕ → ℕ) (first : ℕ) (before : List (ℕ × ℕ)) (frame : ℕ × ℕ) (frames : List (ℕ × ℕ)) → sent_after rate word first before (frame ∷ frames) ≡ sent_for rate word first before frame ++ sent_after rate word (first + length (sent_for rate word first before frame)) (before ++ frame ∷ []) frames
unfolding sent_after
sent_after-cons rate word first before frame frames = refl

pub sent_after-nil : (rate : ℕ) (word : ℕ → ℕ) (first : ℕ) (before : List (ℕ × ℕ)) → sent_after rate word first before [] ≡ []
unfolding sent_after
sent_after-nil rate word first before = refl

-- for some data frames, and then for others
pub sent_after-append : (rate : ℕ) (word : ℕ → ℕ) (first : ℕ) (before frames more : List (ℕ × ℕ)) → sent_after rate word first before (frames ++ more) ≡ sent_after rate word first before frames ++ sent_after rate word (first + length (sent_after rate word first before frames)) (before ++ frames) more
sent_after-append rate word first before [] more =
    let none = sent_after-nil rate word first before in
    let same : first + length (sent_after rate word first before []) ≡ first = omega (arith, ap length none) in
    ap (λ (n : ℕ). sent_after rate word n before more) (sym same)
    ∙ ap (λ (l : List (ℕ × ℕ)). sent_after rate word (first + length (sent_after rate word first before [])) l more) (sym (append-nil before))
    ∙ ap (λ (l : List (ℕ × ℕ)). l ++ sent_after rate word (first + length (sent_after rate word first before [])) (before ++ []) more) (sym none)
sent_after-append rate word first before (frame ∷ frames) more =
    let now = before ++ frame ∷ [] in
    let sent = sent_for rate word first before frame in
    let next = first + length sent in
    let rest = sent_after rate word next now frames in
    let whole = sent_after-cons rate word first before frame frames in
    let count : next + length rest ≡ first + length (sent_after rate word first before (frame ∷ frames)) = omega (arith, ap length whole, length-append sent rest) in
    let joined : now ++ frames ≡ before ++ (frame ∷ frames) = append_assoc before (frame ∷ []) frames in
    sent_after-cons rate word first before frame (frames ++ more)
    ∙ ap (λ (l : List (ℕ × ℕ)). sent ++ l) (sent_after-append rate word next now frames more)
    ∙ sym (append_assoc sent rest (sent_after rate word (next + length rest) (now ++ frames) more))
    ∙ ap (λ (n : ℕ). (sent ++ rest) ++ sent_after rate word n (now ++ frames) more) count
    ∙ ap (λ (l : List (ℕ × ℕ)). (sent ++ rest) ++ sent_after rate word (first + length (sent_after rate word first before (frame ∷ frames))) l more) joined
    ∙ ap (λ (l : List (ℕ × ℕ)). l ++ sent_after rate word (first + length (sent_after rate word first before (frame ∷ frames))) (before ++ frame ∷ frames) more) (sym whole)

-- what is sent for more data frames comes after what is sent for these
pub relayed-append : (rate : ℕ) (word : ℕ → ℕ) (frames more : List (ℕ × ℕ)) → relayed rate word (frames ++ more) ≡ relayed rate word frames ++ sent_after rate word (length (relayed rate word frames)) frames more
relayed-append rate word frames more =
    sent_after-append rate word 0 [] frames more
    ∙ ap (λ (n : ℕ). relayed rate word frames ++ sent_after rate word n frames more) (omega arith)

-- one data frame more
pub relayed-push : (rate : ℕ) (word : ℕ → ℕ) (frames : List (ℕ × ℕ)) (frame : ℕ × ℕ) → relayed rate word (frames ++ frame ∷ []) ≡ relayed rate word frames ++ sent_for rate word (length (relayed rate word frames)) frames frame
relayed-push rate word frames frame =
    let first = length (relayed rate word frames) in
    let sent = sent_for rate word first frames frame in
    let one : sent_after rate word first frames (frame ∷ []) ≡ sent =
    sent_after-cons rate word first frames frame []
    ∙ ap (λ (l : List (ℕ × ℕ)). sent ++ l) (sent_after-nil rate word (first + length sent) (frames ++ frame ∷ []))
    ∙ append-nil sent in
    relayed-append rate word frames (frame ∷ []) ∙ ap (λ (l : List (ℕ × ℕ)). relayed rate word frames ++ l) one

emissions-le : (rate : ℕ) (rows : List ℕ) → emissions rate rows ≤ rate
emissions-le rate [] = omega arith
emissions-le rate (row ∷ rows) = omega arith

pub length-sent_for : (rate : ℕ) (word : ℕ → ℕ) (first : ℕ) (before : List (ℕ × ℕ)) (frame : ℕ × ℕ) → length (sent_for rate word first before frame) ≤ rate
length-sent_for rate word first before frame =
    let rows = held (before ++ frame ∷ []) frame.0 in
    omega (arith, length-combinations word frame.0 rows first (emissions rate rows), emissions-le rate rows)

-- ---- what is held

-- a row more of a generation
held-push_same : (t : TicketFields) (frames : List (ℕ × ℕ)) (g row : ℕ) → basis_after t (frames ++ (g, row) ∷ []) g ≡ with_row (basis_after t frames g) row
held-push_same t frames g row =
    let rows = rows_of g frames in
    let basis : List ℕ → BasisState = λ l. record { width = width t.code; rows = l } in
    let more : held (frames ++ (g, row) ∷ []) g ≡ innovative (rows ++ row ∷ []) = ap innovative (rows_of-push_same g frames row) in
    elim (cases_Bool (in_span rows row)) [
      | inl inside ↦
          ap basis (more ∙ innovative-push_inside rows row inside)
          ∙ sym (with_row-inside (basis (innovative rows)) row (in_span_innovative rows row ∙ inside))
      | inr outside ↦
          ap basis (more ∙ innovative-push_outside rows row outside)
          ∙ sym (with_row-outside (basis (innovative rows)) row (in_span_innovative rows row ∙ outside))
    ]

-- a row of another generation
held-push_other : (t : TicketFields) (frames : List (ℕ × ℕ)) (g generation row : ℕ) → generation ≢ g → basis_after t (frames ++ (generation, row) ∷ []) g ≡ basis_after t frames g
held-push_other t frames g generation row other =
    ap (λ (l : List ℕ). let b : BasisState = record { width = width t.code; rows = innovative l } in b) (rows_of-push_other g frames generation row other)

pub basis_after-none : (t : TicketFields) (g : ℕ) → basis_after t [] g ≡ no_rows (width t.code)
unfolding rows_of innovative_after
basis_after-none t g = refl

pub length-relay_after : (t : TicketFields) (frames : List (ℕ × ℕ)) → length (relay_after t frames) ≡ generations t
length-relay_after t frames = length-map-range_with_len (basis_after t frames) 0 (generations t)

pub get_or-relay_after : (t : TicketFields) (frames : List (ℕ × ℕ)) (g : ℕ) (d : BasisState) → g < generations t → get_or (relay_after t frames) g d ≡ basis_after t frames g
get_or-relay_after t frames g d within = get_or-map-range_with_len (basis_after t frames) 0 (generations t) g g d within (omega arith)

-- one data frame more
pub relay_after-push : (t : TicketFields) (frames : List (ℕ × ℕ)) (g row : ℕ) → g < generations t → relay_after t (frames ++ (g, row) ∷ []) ≡ set (relay_after t frames) g (with_row (basis_after t frames g) row)
relay_after-push t frames g row within =
    let old = relay_after t frames in
    let new = with_row (basis_after t frames g) row in
    same_lists (relay_after t (frames ++ (g, row) ∷ [])) (set old g new)
    (length-relay_after t (frames ++ (g, row) ∷ []) ∙ sym (length-set old g new ∙ length-relay_after t frames))
    (λ h d below.
    let inside : h < generations t = omega (arith, length-relay_after t (frames ++ (g, row) ∷ [])) in
    get_or-relay_after t (frames ++ (g, row) ∷ []) h d inside ∙ basis_at t frames g row within h d inside (cases_eq h g))
  where
    basis_at : (t : TicketFields) (frames : List (ℕ × ℕ)) (g row : ℕ) → g < generations t → (h : ℕ) (d : BasisState) → h < generations t → (h ≡ g) ⊎ (h ≢ g) → basis_after t (frames ++ (g, row) ∷ []) h ≡ get_or (set (relay_after t frames) g (with_row (basis_after t frames g) row)) h d
    basis_at t frames g row within h d inside (inl same) =
        let here : g < length (relay_after t frames) = omega (arith, length-relay_after t frames, within) in
        let P : ℕ → Type 0 = λ i. basis_after t (frames ++ (g, row) ∷ []) i ≡ get_or (set (relay_after t frames) g (with_row (basis_after t frames g) row)) i d in
        subst P (sym same) (held-push_same t frames g row ∙ rw get_or-set_same refl)
    basis_at t frames g row within h d inside (inr other) =
        let back : g ≢ h = λ e. other (sym e) in
        held-push_other t frames h g row back ∙ sym (get_or-relay_after t frames h d inside) ∙ rw get_or-set_other refl

-- ---- the law

in_span_of_all : (rows : List ℕ) (word : ℕ) → IsTrue (in_span rows (combination (innovative rows) word))
in_span_of_all rows word = sym (in_span_innovative rows (combination (innovative rows) word)) ∙ in_span-combination (innovative rows) word

pub sent-spanned : RelayedRowsAreSpanned
sent-spanned rate word before frame = record {
  next = relayed-push rate word before frame;
  spanned = λ first.
      let rows = rows_of frame.0 (before ++ frame ∷ []) in
      let n = emissions rate (held (before ++ frame ∷ []) frame.0) in
      let P : ℕ × ℕ → Type 0 = λ sent. (sent.0 ≡ frame.0) × IsTrue (in_span rows sent.1) in
      All-map P (λ (i : ℕ). (frame.0, combination (innovative rows) (word i))) (range_with_len first n) (λ k d below. (refl, in_span_of_all rows (word (get_or (range_with_len first n) k d))));
}
