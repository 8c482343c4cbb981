-- Mixed rows span what the rows span.
use Rattle.std.proofs.Common.{◌≡◌, ℕ, zero, suc, ◌+◌, ◌<◌, ◌≤◌, true, List, [], ◌∷◌, ◌++◌, length, map, take, drop, get_or, sym, ◌∙◌, subst, ap, bit_xor, inl, inr, arith, add-one}
use Rattle.std.specs.Prelude.{All, slice_index}
use Rattle.std.specs.List.{range_with_len}
use Rattle.std.proofs.lemmas.Bool.{cases_lt}
use Rattle.std.proofs.lemmas.List.{take_more, take_all, take-map, get_or-map, get_or_past, drop-append-le}
use Rattle.std.proofs.lemmas.List.Elements.{All-nil, All-push, All-weaker, All-get_or, All-take, All-map}
use Rattle.std.proofs.lemmas.List.FromFn.{map-range_with_len_more, length-map-range_with_len}
use Rattle.kk_rows.specs.Span.{in_span, IsIndependent}
use Rattle.kk_rows.specs.Combination.{combination}
use Rattle.kk_rows.specs.Rows.{numbers}
use Rattle.kk_rows.specs.declared.rows.Row.{Row}
use Rattle.kk_rows.proofs.Sums.{xor_twice_left}
use Rattle.kk_rows.proofs.Spans.{same_bool, in_span-zero, in_span-xor, in_span-each, in_span-within, in_span-push_skip, in_span-push_use}
use Rattle.kk_rows.proofs.Dimensions.{dimension-le_within, dimension-le_length}
use Rattle.kk_rows.proofs.Combinations.{in_span-combination}
use Rattle.kk_channel.specs.Channel.{mixed_row, mixed_rows}

module _ (word : ℕ → ℕ) (rows : List ℕ) where
  -- the first n mixed rows
  abbrev pub first_mixed : ℕ → List ℕ
  first_mixed n = map (mixed_row word rows) (range_with_len 0 n)

  pub first_mixed-more : (n : ℕ) → first_mixed (n + 1) ≡ first_mixed n ++ mixed_row word rows n ∷ []
  first_mixed-more n = map-range_with_len_more (mixed_row word rows) 0 n n (omega arith)

  pub length-mixed_rows : length (mixed_rows word rows) ≡ length rows
  length-mixed_rows = length-map-range_with_len (mixed_row word rows) 0 (length rows)

  -- a row and the combination that is added to it give it back
  row_in_mixed : (n : ℕ) → All (λ r. in_span (first_mixed n) r ≡ true) (take n rows) → in_span (first_mixed n ++ mixed_row word rows n ∷ []) (slice_index rows n) ≡ true
  row_in_mixed n each =
      let sum = combination (take n rows) (word n) in
      let inside = in_span-within (take n rows) (first_mixed n) each sum (in_span-combination (take n rows) (word n)) in
      in_span-push_use (first_mixed n) (mixed_row word rows n) (slice_index rows n)
      (subst (λ x. in_span (first_mixed n) x ≡ true) (sym (xor_twice_left (slice_index rows n) sum)) inside)

  -- the first n rows are in the span of the first n mixed rows
  rows_in_mixed : (n : ℕ) → n ≤ length rows → All (λ r. in_span (first_mixed n) r ≡ true) (take n rows)
  rows_in_mixed zero few = All-nil _
  rows_in_mixed (suc n) few =
      let mixed = first_mixed n in
      let more = mixed ++ mixed_row word rows n ∷ [] in
      let before = rows_in_mixed n (omega arith) in
      let older = All-weaker (λ r. in_span mixed r ≡ true) (λ r. in_span more r ≡ true) (in_span-push_skip mixed (mixed_row word rows n)) (take n rows) before in
      let all = All-push (λ r. in_span more r ≡ true) (take n rows) (slice_index rows n) older (row_in_mixed n before) in
      let longer = subst (λ l. All (λ r. in_span more r ≡ true) l) (sym (take_more rows n 0 (omega arith))) all in
      let mixed_more = subst (λ l. All (λ r. in_span l r ≡ true) (take (n + 1) rows)) (sym (first_mixed-more n)) longer in
      subst (λ k. All (λ r. in_span (first_mixed k) r ≡ true) (take k rows)) (add-one n) mixed_more

  row_in_rows : (i : ℕ) → in_span rows (slice_index rows i) ≡ true
  row_in_rows i = elim (cases_lt i (length rows)) [
    | inl less ↦ All-get_or (λ r. in_span rows r ≡ true) rows i 0 less (in_span-each rows)
    | inr past ↦ subst (λ r. in_span rows r ≡ true) (sym (get_or_past rows i 0 past)) (in_span-zero rows)
  ]

  -- each mixed row is in the span of the rows
  mixed_in_rows : (i : ℕ) → in_span rows (mixed_row word rows i) ≡ true
  mixed_in_rows i =
      let sum = combination (take i rows) (word i) in
      let front = All-take (λ r. in_span rows r ≡ true) i rows (in_span-each rows) in
      in_span-xor rows (slice_index rows i) sum (row_in_rows i) (in_span-within (take i rows) rows front sum (in_span-combination (take i rows) (word i)))

  all_mixed_in_rows : All (λ r. in_span rows r ≡ true) (mixed_rows word rows)
  all_mixed_in_rows =
      let places = range_with_len 0 (length rows) in
      All-map (λ r. in_span rows r ≡ true) (mixed_row word rows) places (λ k d less. mixed_in_rows (get_or places k d))

  pub in_span-mixed_rows : (x : ℕ) → in_span (mixed_rows word rows) x ≡ in_span rows x
  in_span-mixed_rows x =
      let whole = subst (λ l. All (λ r. in_span (mixed_rows word rows) r ≡ true) l) (take_all (length rows) rows (omega arith)) (rows_in_mixed (length rows) (omega arith)) in
      same_bool _ _ (in_span-within (mixed_rows word rows) rows all_mixed_in_rows x) (in_span-within rows (mixed_rows word rows) whole x)

  -- independent rows are mixed to independent rows
  pub mixed_rows-independent : IsIndependent rows → IsIndependent (mixed_rows word rows)
  mixed_rows-independent independent =
      omega (arith, independent, length-mixed_rows, dimension-le_length (mixed_rows word rows), dimension-le_within rows (mixed_rows word rows) (λ x inside. in_span-mixed_rows x ∙ inside))

-- ---- as the channel keeps them

-- one more of the rows that are kept
pub kept-more : (word : ℕ → ℕ) (rows : List Row) (erase i : ℕ) (d : Row) → erase ≤ i → i < length rows
    → drop erase (first_mixed word (numbers rows) (i + 1))
    ≡ drop erase (first_mixed word (numbers rows) i) ++ bit_xor (get_or rows i d).0 (combination (numbers (take i rows)) (word i)) ∷ []
kept-more word rows erase i d from less =
    let see = λ (r : Row). r.0 in
    let mixed = first_mixed word (numbers rows) i in
    let front = drop erase mixed in
    let row : mixed_row word (numbers rows) i ≡ bit_xor (get_or rows i d).0 (combination (numbers (take i rows)) (word i)) =
    ap (λ r. bit_xor r (combination (take i (numbers rows)) (word i))) (get_or-map see rows i d 0 less)
    ∙ ap (λ l. bit_xor (get_or rows i d).0 (combination l (word i))) (take-map see i rows) in
    ap (drop erase) (first_mixed-more word (numbers rows) i)
    ∙ drop-append-le erase mixed (mixed_row word (numbers rows) i ∷ []) (omega (arith, from, length-map-range_with_len (mixed_row word (numbers rows)) 0 i))
    ∙ ap (λ r. front ++ r ∷ []) row
