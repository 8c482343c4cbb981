-- The row spaces of a receiver, one data frame after another, and what they decode to.
use Rattle.std.proofs.Common.{◌≡◌, ◌≢◌, ◌⊎◌, inl, inr, subst, ℕ, ◌<◌, List, [], ◌∷◌, ◌++◌, length, get_or, ap, sym, ◌∙◌, arith, get_or-set_same, get_or-set_other}
use Rattle.std.specs.Prelude.{map}
use Rattle.std.proofs.Math.ListN.{set, length-set}
use Rattle.std.proofs.lemmas.List.{same_lists, length-map, get_or-map}
use Rattle.std.proofs.lemmas.List.FromFn.{length-map-range_with_len, get_or-map-range_with_len}
use Rattle.std.proofs.lemmas.Bool.{cases_eq}
use Rattle.kk_rows.specs.Span.{in_span}
use Rattle.kk_rows.specs.Space.{Space}
use Rattle.kk_rows.proofs.Spans.{in_span-inserted}
use Rattle.kk_rows.proofs.Dimensions.{in_span_innovative}
use Rattle.kk_code.specs.Codeword.{Parameters, width}
use Rattle.kk_code.specs.Decoding.{answer}
use Rattle.kk_code.specs.Ticket.{TicketFields, generations}
use Rattle.kk_frame.specs.Generation.{rows_of}
use Rattle.kk_frame.proofs.Generations.{rows_of-push_same, rows_of-push_other}
use Rattle.kk_outcome.specs.Answers.{frozen, answers}
use Rattle.kk_run_unpack.specs.Spaces.{Spans, AreSpanned, no_space}
use Rattle.kk_decode.proofs.Answering.{answer-same_span}

-- a row into the space of these rows
Spans-inserted : (w : ℕ) (old new : Space) (rows : List ℕ) (row : ℕ) → Spans w old rows → new.width ≡ old.width → ((x : ℕ) → in_span new.rows x ≡ in_span (old.rows ++ row ∷ []) x) → Spans w new (rows ++ row ∷ [])
Spans-inserted w old new rows row spans wide grown = record {
  wide = wide ∙ spans.wide;
  same = in_span-inserted rows old.rows new.rows row spans.same grown;
}

-- what a generation's space decodes to
pub answer-spanned : (p : Parameters) (w : ℕ) (space : Space) (vectors : List (ℕ × ℕ)) (g : ℕ) → Spans w space (rows_of g vectors) → answer p space.rows ≡ answer p (frozen vectors g)
answer-spanned p w space vectors g spans =
    answer-same_span p space.rows (frozen vectors g) (λ x. spans.same x ∙ sym (in_span_innovative (rows_of g vectors) x))

-- what one generation's space is after a row of one of them
spans_after : (t : TicketFields) (spaces : List Space) (vectors : List (ℕ × ℕ)) (g row : ℕ) (new : Space) → AreSpanned t spaces vectors → g < generations t → Spans (width t.code) new (rows_of g vectors ++ row ∷ []) → (h : ℕ) → h < generations t → (h ≡ g) ⊎ (h ≢ g) → Spans (width t.code) (get_or (set spaces g new) h no_space) (rows_of h (vectors ++ (g, row) ∷ []))
spans_after t spaces vectors g row new spanned within spans h below (inl same) =
    let here : g < length spaces = omega (arith, spanned.count) in
    let P : ℕ → Type 0 = λ i. Spans (width t.code) (get_or (set spaces g new) i no_space) (rows_of i (vectors ++ (g, row) ∷ [])) in
    subst P (sym same) (rw (get_or-set_same, rows_of-push_same g vectors row) spans)
spans_after t spaces vectors g row new spanned within spans h below (inr other) =
    let back : g ≢ h = λ e. other (sym e) in
    rw (get_or-set_other, rows_of-push_other h vectors g row back) (spanned.each h below)

-- a data frame's row goes into its generation's space
pub AreSpanned-push : (t : TicketFields) (spaces : List Space) (vectors : List (ℕ × ℕ)) (g row : ℕ) (new : Space) → AreSpanned t spaces vectors → g < generations t → new.width ≡ (get_or spaces g no_space).width → ((x : ℕ) → in_span new.rows x ≡ in_span ((get_or spaces g no_space).rows ++ row ∷ []) x) → AreSpanned t (set spaces g new) (vectors ++ (g, row) ∷ [])
AreSpanned-push t spaces vectors g row new spanned within wide grown = record {
  count = length-set spaces g new ∙ spanned.count;
  each = λ h below. spans_after t spaces vectors g row new spanned within (Spans-inserted (width t.code) (get_or spaces g no_space) new (rows_of g vectors) row (spanned.each g within) wide grown) h below (cases_eq h g);
}

-- ---- what the spaces decode to

-- the answers of the spaces are those of the data frames
pub answers-spanned : (t : TicketFields) (p : Parameters) (spaces : List Space) (vectors : List (ℕ × ℕ)) → p ≡ t.code → AreSpanned t spaces vectors → map (λ (space : Space). answer p space.rows) spaces ≡ answers t vectors
answers-spanned t p spaces vectors same spanned =
    let f = λ (space : Space). answer t.code space.rows in
    let h = λ (g : ℕ). answer t.code (frozen vectors g) in
    ap (λ (q : Parameters). map (λ (space : Space). answer q space.rows) spaces) same
    ∙ same_lists (map f spaces) (answers t vectors)
    (length-map spaces f ∙ spanned.count ∙ sym (length-map-range_with_len h 0 (generations t)))
    (λ g d within.
    let below : g < generations t = omega (arith, length-map spaces f, spanned.count) in
    get_or-map f spaces g no_space d (omega (arith, spanned.count))
    ∙ answer-spanned t.code (width t.code) (get_or spaces g no_space) vectors g (spanned.each g below)
    ∙ sym (get_or-map-range_with_len h 0 (generations t) g g d below (omega arith)))
