-- How many inserts raise the rank of a space.
use Rattle.std.proofs.Common.{◌≡◌, ℕ, zero, suc, ◌+◌, ◌<◌, ◌≤◌, true, false, cond, eqb, List, [], ◌∷◌, length, get_or, map, inl, inr, refl, ap, sym, ◌∙◌, arith}
use Rattle.std.specs.Prelude.{sum_by}
use Rattle.std.specs.List.{range_with_len}
use Rattle.std.proofs.lemmas.Bool.{cases_eq}
use Rattle.std.proofs.lemmas.Bool.Decides.{nat_tests}
use Rattle.std.proofs.lemmas.List.{same_lists, length-map, get_or-map}
use Rattle.std.proofs.lemmas.List.FromFn.{length-map-range_with_len, get_or-map-range_with_len}
use Rattle.std.proofs.lemmas.List.Sums.{sum-map, sum_by-cons, sum_by-le-sum_by}
use Rattle.kk_rows.specs.Span.{dimension}
use Rattle.kk_rows.specs.Space.{Space}
use Rattle.kk_rows.proofs.Dimensions.{dimension-same_span, dimension-le_length, in_span_innovative}
use Rattle.kk_code.specs.Codeword.{width}
use Rattle.kk_code.specs.Ticket.{TicketFields, generations}
use Rattle.kk_frame.specs.Generation.{rows_of}
use Rattle.kk_outcome.specs.Answers.{frozen}
use Rattle.kk_run_unpack.specs.Spaces.{Spans, AreSpanned, no_space}

pub rank_is : (w : ℕ) (space : Space) (vectors : List (ℕ × ℕ)) (g : ℕ) → Spans w space (rows_of g vectors) → dimension space.rows ≡ dimension (frozen vectors g)
rank_is w space vectors g spans =
    dimension-same_span space.rows (frozen vectors g) (λ x. spans.same x ∙ sym (in_span_innovative (rows_of g vectors) x))

-- the ranks of the spaces are those of the data frames
pub ranks-spanned : (t : TicketFields) (spaces : List Space) (vectors : List (ℕ × ℕ)) → AreSpanned t spaces vectors → sum_by (λ space. dimension space.rows) spaces ≡ sum_by (λ g. dimension (frozen vectors g)) (range_with_len 0 (generations t))
ranks-spanned t spaces vectors spanned =
    let rank = λ (space : Space). dimension space.rows in
    let dim = λ (g : ℕ). dimension (frozen vectors g) in
    let all = range_with_len 0 (generations t) in
    sym (sum-map rank spaces)
    ∙ ap (sum_by (λ n. n)) (same_lists (map rank spaces) (map dim all)
    (length-map spaces rank ∙ spanned.count ∙ sym (length-map-range_with_len dim 0 (generations t)))
    (λ g d within.
    let below : g < generations t = omega (arith, within, length-map spaces rank, spanned.count) in
    get_or-map rank spaces g no_space d (omega (arith, below, spanned.count))
    ∙ rank_is (width t.code) (get_or spaces g no_space) vectors g (spanned.each g below)
    ∙ sym (get_or-map-range_with_len dim 0 (generations t) g g d below (omega arith))))
    ∙ sum-map dim all

-- ---- no more than all

-- a test that is one at no more than one place
is_at : ℕ → ℕ → ℕ
is_at x g = cond (eqb x g) 1 0

none_below : (n first x : ℕ) → x < first → sum_by (is_at x) (range_with_len first n) ≡ 0
unfolding is_at
none_below zero first x below = refl
none_below (suc n) first x below =
    let other : eqb x first ≡ false = grind (arith, nat_tests) in
    let here : is_at x first ≡ 0 = rw other refl in
    omega (arith, sum_by-cons (is_at x) first (range_with_len (first + 1) n), here, none_below n (first + 1) x (omega (arith, below)))

at_most_once : (n first x : ℕ) → sum_by (is_at x) (range_with_len first n) ≤ 1
unfolding is_at
at_most_once zero first x = omega arith
at_most_once (suc n) first x =
    let split = sum_by-cons (is_at x) first (range_with_len (first + 1) n) in
    elim (cases_eq x first) [
      | inl same ↦
          let here : eqb x first ≡ true = grind (arith, nat_tests) in
          let none = none_below n (first + 1) x (omega (arith, same)) in
          let one : is_at x first ≡ 1 = rw here refl in
          omega (arith, split, one, none)
      | inr other ↦
          let here : eqb x first ≡ false = grind (arith, nat_tests) in
          let zero_ : is_at x first ≡ 0 = rw here refl in
          omega (arith, split, zero_, at_most_once n (first + 1) x)
    ]

sum_by-plus : (f g h : ℕ → ℕ) (xs : List ℕ) → ((x : ℕ) → h x ≡ f x + g x) → sum_by h xs ≡ sum_by f xs + sum_by g xs
sum_by-plus f g h [] is = refl
sum_by-plus f g h (x ∷ xs) is =
    omega (arith, sum_by-cons f x xs, sum_by-cons g x xs, sum_by-cons h x xs, is x, sum_by-plus f g h xs is)

one_more_row : (vector : ℕ × ℕ) (vectors : List (ℕ × ℕ)) (g : ℕ) → length (rows_of g (vector ∷ vectors)) ≡ is_at vector.0 g + length (rows_of g vectors)
unfolding rows_of is_at
one_more_row vector vectors g =
    elim (eqb vector.0 g) as (λ b. length (cond b (vector.1 ∷ rows_of g vectors) (rows_of g vectors)) ≡ cond b 1 0 + length (rows_of g vectors)) [ true ↦ omega arith | false ↦ omega arith ]

no_rows : (n first : ℕ) → sum_by (λ g. length (rows_of g [])) (range_with_len first n) ≡ 0
unfolding rows_of
no_rows zero first = refl
no_rows (suc n) first = omega (arith, sum_by-cons (λ g. length (rows_of g [])) first (range_with_len (first + 1) n), no_rows n (first + 1))

-- the rows of the first n generations are no more than all
rows_at_most : (n : ℕ) (vectors : List (ℕ × ℕ)) → sum_by (λ g. length (rows_of g vectors)) (range_with_len 0 n) ≤ length vectors
rows_at_most n [] = omega (arith, no_rows n 0)
rows_at_most n (vector ∷ vectors) =
    let all = range_with_len 0 n in
    let split = sum_by-plus (is_at vector.0) (λ g. length (rows_of g vectors)) (λ g. length (rows_of g (vector ∷ vectors))) all (one_more_row vector vectors) in
    omega (arith, split, at_most_once n 0 vector.0, rows_at_most n vectors)

rank_at_most : (vectors : List (ℕ × ℕ)) (g : ℕ) → dimension (frozen vectors g) ≤ length (rows_of g vectors)
rank_at_most vectors g =
    omega (arith, dimension-same_span (frozen vectors g) (rows_of g vectors) (in_span_innovative (rows_of g vectors)), dimension-le_length (rows_of g vectors))

-- the ranks sum to no more than there are data frames
pub innovative_at_most : (t : TicketFields) (spaces : List Space) (vectors : List (ℕ × ℕ)) → AreSpanned t spaces vectors → sum_by (λ space. dimension space.rows) spaces ≤ length vectors
innovative_at_most t spaces vectors spanned =
    let all = range_with_len 0 (generations t) in
    omega (arith, ranks-spanned t spaces vectors spanned, sum_by-le-sum_by (λ g. dimension (frozen vectors g)) (λ g. length (rows_of g vectors)) all (rank_at_most vectors), rows_at_most (generations t) vectors)
