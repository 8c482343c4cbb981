-- Rows that are injected add to a codeword what the unit rows add.
use Rattle.std.proofs.Common.{◌≡◌, ℕ, zero, suc, ◌+◌, ◌*◌, ◌%◌, ◌^◌, ◌<◌, ◌≤◌, true, List, [], ◌∷◌, ◌++◌, length, refl, sym, ap, ◌∙◌, subst, bit_xor, arith, append_assoc, add-one}
use Rattle.std.proofs.Math.Nat.{div-eq_of_lt}
use Rattle.std.proofs.Math.Pow.{pow_mono}
use Rattle.std.proofs.lemmas.Bool.{and_parts, and_from}
use Rattle.std.proofs.lemmas.List.FromFn.{map-range_with_len_more, length-map-range_with_len}
use Rattle.std.proofs.lemmas.Nat.{xor_comm, mod_below, pow_pos}
use Rattle.kk_linpoly.proofs.Values.{value-zero}
use Rattle.kk_rows.specs.AdditiveMap.{unit_rows}
use Rattle.kk_rows.specs.Combination.{combination}
use Rattle.kk_rows.specs.Distance.{meet_dimension}
use Rattle.kk_rows.specs.Span.{in_span, dimension}
use Rattle.kk_rows.proofs.AdditiveMaps.{in_span-unit_rows, unit_rows-below, unit_rows-independent, unit_rows-more}
use Rattle.kk_rows.proofs.Combinations.{in_span-combination}
use Rattle.kk_rows.proofs.Dimensions.{innovative_after-nil}
use Rattle.kk_rows.proofs.Meets.{meet_dimension_of_common, sum_and_meet_dimension}
use Rattle.kk_rows.proofs.Spans.{same_bool, in_span-nil, in_span-zero, in_span-xor, in_span-lt, in_span-append_left, in_span-append_right, in_span-push_same, in_span-push_shifted}
use Rattle.kk_rows.proofs.Sums.{xor_twice, xor_swap}
use Rattle.kk_code.specs.Codeword.{Parameters, codeword}
use Rattle.kk_code.proofs.Graphs.{row_at, row_from_codeword, dimension-codeword}
use Rattle.kk_channel.specs.Channel.{foreign_row, injected_row, injected_rows}

-- ---- what the injected rows span with the codeword

-- what a foreign row has beside its leading bit is a sum of lower bits and of rows of the codeword
lower_parts : (rows : List ℕ) (j lower word : ℕ) → in_span (rows ++ unit_rows j) (bit_xor (foreign_row rows j lower word) (2 ^ j)) ≡ true
lower_parts rows j lower word =
    let top = 2 ^ j in
    let low = lower % top in
    let sum = combination rows word in
    let both : bit_xor (bit_xor (bit_xor top low) sum) top ≡ bit_xor low sum =
    xor_swap (bit_xor top low) sum top ∙ ap (λ x. bit_xor (bit_xor x top) sum) (xor_comm top low) ∙ ap (λ x. bit_xor x sum) (xor_twice low top) in
    let low_in = in_span-append_right rows (unit_rows j) low (in_span-unit_rows j low (mod_below lower top (pow_pos j))) in
    let sum_in = in_span-append_left rows (unit_rows j) sum (in_span-combination rows word) in
    subst (λ x. in_span (rows ++ unit_rows j) x ≡ true) (sym both) (in_span-xor (rows ++ unit_rows j) low sum low_in sum_in)

module _ (word : ℕ → ℕ) (rows : List ℕ) where
  pub injected_rows-more : (n : ℕ) → injected_rows word rows (n + 1) ≡ injected_rows word rows n ++ injected_row word rows n ∷ []
  injected_rows-more n = map-range_with_len_more (injected_row word rows) 0 n n (omega arith)

  pub length-injected_rows : (n : ℕ) → length (injected_rows word rows n) ≡ n
  length-injected_rows n = length-map-range_with_len (injected_row word rows) 0 n

  pub in_span-injected_rows : (n x : ℕ) → in_span (rows ++ injected_rows word rows n) x ≡ in_span (rows ++ unit_rows n) x
  in_span-injected_rows zero x = refl
  in_span-injected_rows (suc n) x =
      let rows_so_far = injected_rows word rows n in
      let row = injected_row word rows n in
      let units = unit_rows n in
      let longer : rows ++ injected_rows word rows (suc n) ≡ (rows ++ rows_so_far) ++ row ∷ [] =
      ap (λ k. rows ++ injected_rows word rows k) (sym (add-one n)) ∙ ap (λ l. rows ++ l) (injected_rows-more n) ∙ sym (append_assoc rows rows_so_far (row ∷ [])) in
      let units_longer : (rows ++ units) ++ 2 ^ n ∷ [] ≡ rows ++ unit_rows (suc n) =
      append_assoc rows units (2 ^ n ∷ []) ∙ ap (λ l. rows ++ l) (sym (unit_rows-more n)) in
      ap (λ l. in_span l x) longer
      ∙ in_span-push_same (rows ++ rows_so_far) (rows ++ units) (in_span-injected_rows n) row x
      ∙ in_span-push_shifted (rows ++ units) row (2 ^ n) (lower_parts rows n (word (length rows + 2 * n)) (word (length rows + 2 * n + 1))) x
      ∙ ap (λ l. in_span l x) units_longer

-- ---- a codeword has no member with x-part 0 other than 0

module _ (p : Parameters) (h : p.field.low < 2 ^ p.field.degree) (u : List ℕ) (n : ℕ) (few : n ≤ p.field.degree) where
  only_zero : (x : ℕ) → in_span (codeword p u) x ≡ true → in_span (unit_rows n) x ≡ true → x ≡ 0
  only_zero x inside low =
      let below : x < 2 ^ p.field.degree = omega (arith, in_span-lt n (unit_rows n) (unit_rows-below n) x low, pow_mono few) in
      let at_zero : row_at p h u 0 ≡ 0 = omega (arith, value-zero p.field h u) in
      sym (row_from_codeword p h u x inside).1 ∙ ap (row_at p h u) (div-eq_of_lt below) ∙ at_zero

  nothing_in_common : meet_dimension (codeword p u) (unit_rows n) ≡ 0
  nothing_in_common =
      let common = meet_dimension_of_common (codeword p u) (unit_rows n) [] (λ x. same_bool _ _
      (λ k. let zero_is = in_span-nil x k in and_from _ _ (subst (λ y. in_span (codeword p u) y ≡ true) (sym zero_is) (in_span-zero (codeword p u))) (subst (λ y. in_span (unit_rows n) y ≡ true) (sym zero_is) (in_span-zero (unit_rows n))))
      (λ k. let both = and_parts _ _ k in subst (λ y. in_span [] y ≡ true) (sym (only_zero x both.0 both.1)) (in_span-zero []))) in
      sym common ∙ ap length (innovative_after-nil [])

  -- so unit rows with x-part 0 add their number to its dimension
  pub dimension-with_unit_rows : dimension (codeword p u ++ unit_rows n) ≡ p.l + n
  dimension-with_unit_rows =
      omega (arith, sum_and_meet_dimension (codeword p u) (unit_rows n), nothing_in_common, dimension-codeword p h u, unit_rows-independent n, length-map-range_with_len (λ i. 2 ^ i) 0 n)
