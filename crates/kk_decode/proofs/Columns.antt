-- The fixed map gives the message of the values.
use Rattle.std.proofs.Common.{◌≡◌, ℕ, suc, ◌-◌, ◌^◌, ◌<◌, ◌≤◌, List, [], length, slice_index, get_or, sym, ap, ◌∙◌, subst, arith}
use Rattle.std.specs.Prelude.{All}
use Rattle.std.proofs.lemmas.Nat.{pow_below}
use Rattle.std.proofs.lemmas.List.Elements.{All-from_get_or}
use Rattle.kk_field.specs.Field.{Modulus, field_product, frobenius}
use Rattle.kk_field.proofs.Residues.{field_product_comm, field_product_assoc, xor-field_product, zero-field_product, one-field_product}
use Rattle.kk_linpoly.specs.LinPoly.{IsOver, xor_sum, value}
use Rattle.kk_linpoly.proofs.Coefficients.{coefficient-lt}
use Rattle.kk_linpoly.specs.Matrix.{row_product}
use Rattle.kk_linpoly.proofs.XorSums.{xor_sum-same, xor_sum-mapped, xor_sum-single, xor_sum-swap}
use Rattle.kk_code.specs.Codeword.{Parameters}
use Rattle.kk_code.proofs.TermSums.{value-terms}
use Rattle.kk_decode.specs.Solving.{IsOnGraph}
use Rattle.kk_decode.specs.FixedMap.{element, column_value, IsFixedMap, AreValues}

-- a column depends on the first k rows alone
pub column_value-same : (f : Modulus) (rows rows' : List (List ℕ)) (k c x : ℕ) → ((j : ℕ) → j < k → get_or rows j [] ≡ get_or rows' j [])
    → column_value f rows k c x ≡ column_value f rows' k c x
column_value-same f rows rows' k c x same =
    xor_sum-same _ _ k (λ j less. ap (λ row. field_product f (slice_index row c) (frobenius f j x)) (same j less))

module _ (f : Modulus) (h : f.low < 2 ^ f.degree) where
  -- the middle factor goes last
  product-swap : (a b c : ℕ) → field_product f (field_product f a b) c ≡ field_product f (field_product f a c) b
  product-swap a b c =
      field_product_assoc f h a b c ∙ ap (field_product f a) (field_product_comm f h b c) ∙ sym (field_product_assoc f h a c b)

  -- a polynomial whose coefficients are sums of columns has the sums of their values
  pub value_by_columns : (rows : List (List ℕ)) (v u : List ℕ) (k x : ℕ) → length u ≡ k
      → ((j : ℕ) → j < k → slice_index u j ≡ xor_sum (λ c. field_product f (element rows j c) (slice_index v c)) k)
      → value f u x ≡ xor_sum (λ c. field_product f (column_value f rows k c x) (slice_index v c)) k
  value_by_columns rows v u k x long each =
      let power : ℕ → ℕ = λ j. frobenius f j x in
      let two : ℕ → ℕ → ℕ = λ j c. field_product f (element rows j c) (slice_index v c) in
      let three : ℕ → ℕ → ℕ = λ j c. field_product f (field_product f (element rows j c) (power j)) (slice_index v c) in
      value-terms f h u x ∙ ap (xor_sum (λ j. field_product f (slice_index u j) (power j))) long
      ∙ xor_sum-same _ (λ j. xor_sum (three j) k) k (λ j less.
      ap (λ a. field_product f a (power j)) (each j less)
      ∙ xor_sum-mapped (λ a. field_product f a (power j)) (zero-field_product f h (power j)) (λ a b. xor-field_product f h a b (power j)) (two j) k
      ∙ xor_sum-same (λ c. field_product f (two j c) (power j)) (three j) k (λ c below. product-swap (element rows j c) (slice_index v c) (power j)))
      ∙ xor_sum-swap three k k
      ∙ xor_sum-same _ _ k (λ c below.
      sym (xor_sum-mapped (λ a. field_product f a (slice_index v c)) (zero-field_product f h (slice_index v c)) (λ a b. xor-field_product f h a b (slice_index v c))
      (λ j. field_product f (element rows j c) (power j)) k))

module _ (p : Parameters) (h : p.field.low < 2 ^ p.field.degree) (rows : List (List ℕ)) (fixed : IsFixedMap p rows) (w u : List ℕ) (long : length w ≡ p.k) (over : IsOver p.field.degree w) (message : length u ≡ p.k) (each : (j : ℕ) → j < p.k → slice_index u j ≡ row_product p.field w (get_or rows j [])) where
  by_columns : (x : ℕ) → value p.field u x ≡ xor_sum (λ c. field_product p.field (column_value p.field rows p.k c x) (slice_index w c)) p.k
  by_columns x =
      value_by_columns p.field h rows w u p.k x message
      (λ j less. each j less ∙ ap (xor_sum (λ c. field_product p.field (element rows j c) (slice_index w c))) long)

  -- at the first k points it has the values
  pub value_at_first : (i : ℕ) → i < p.k → value p.field u (2 ^ i) ≡ slice_index w i
  value_at_first i less =
      let f = p.field in
      by_columns (2 ^ i)
      ∙ xor_sum-single (λ c. field_product f (column_value f rows p.k c (2 ^ i)) (slice_index w c)) p.k i less
      (λ c below apart. ap (λ a. field_product f a (slice_index w c)) (fixed.zeros c i below less apart) ∙ zero-field_product f h (slice_index w c))
      ∙ ap (λ a. field_product f a (slice_index w i)) (fixed.one i less) ∙ one-field_product f h (slice_index w i) (coefficient-lt f.degree w over i)

  -- at the others it has those of the map
  pub value_at_other : (i : ℕ) → p.k ≤ i → i < p.l → value p.field u (2 ^ i) ≡ row_product p.field w (get_or rows i [])
  value_at_other i past less =
      let f = p.field in
      by_columns (2 ^ i)
      ∙ xor_sum-same _ _ p.k (λ c below. ap (λ a. field_product f a (slice_index w c)) (fixed.others c i below past less))
      ∙ ap (xor_sum (λ c. field_product f (element rows i c) (slice_index w c))) (sym long)

-- the rows of the values are on the graph of a polynomial that has them
pub rows_on_graph : (p : Parameters) (rows values u : List ℕ) → AreValues p rows values
    → ((i : ℕ) → i < p.l → value p.field u (2 ^ i) ≡ slice_index values i) → All (IsOnGraph p u) rows
rows_on_graph p rows values u are same = All-from_get_or (IsOnGraph p u) rows 0 (λ t within.
    let n = 2 ^ p.field.degree in
    let less : t < p.l = omega (arith, within, are.count) in
    let i = p.l - suc t in
    let inside : i < p.l = omega (arith, less) in
    record {
      x = subst (λ x. x < 2 ^ p.l) (sym (are.x t less)) (pow_below i p.l inside);
      y = are.y t less ∙ sym (same i inside) ∙ ap (value p.field u) (sym (are.x t less));
    })
