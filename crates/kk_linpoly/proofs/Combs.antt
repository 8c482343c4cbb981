-- Sums of carry-less products by digits of four bits, and their residues.
use Rattle.std.proofs.Common.{◌≡◌, ℕ, suc, ◌+◌, ◌-◌, ◌*◌, ◌/◌, ◌%◌, ◌^◌, ◌<◌, ◌≤◌, List, [], ◌++◌, length, drop, set, get_or, All, bit_xor, slice_index, map, replicate, refl, sym, ap, ◌∙◌, arith, inl, inr}
use Rattle.std.proofs.Math.Nat.{zero-mul, mod-lt, div-one, div-eq_of_lt}
use Rattle.std.proofs.Math.Pow.{pow_pos, pow_mono, shr_lt}
use Rattle.std.proofs.lemmas.Bool.{cases_lt, cases_eq}
use Rattle.std.proofs.lemmas.List.{get_or-set_same, get_or-set_other, get_or_past, get_or-map, length-map, length-set, length-append, length-drop, length-replicate, get_or_append_left, get_or-append_right, get_or-drop}
use Rattle.std.proofs.lemmas.List.Elements.{All-same, All-append, All-replicate}
use Rattle.std.proofs.lemmas.List.FromFn.{get_or-map-range_with_len}
use Rattle.std.specs.Int.Bits.{xor_lt}
use Rattle.kk_field.proofs.Sums.{xor_shl}
use Rattle.kk_field.proofs.Elimination.{slice_index-zeros}
use Rattle.kk_field.proofs.Products.{product-zero, product_comm}
use Rattle.kk_field.proofs.Residues.{residue-xor, residue-small}
use Rattle.kk_field.specs.Polynomial.{product, remainder, remainder_below}
use Rattle.kk_field.specs.Field.{Modulus, residue, field_product}
use Rattle.kk_tables.proofs.WindowProducts.{product-lt, digit_next}
use Rattle.kk_tables.proofs.ByteImages.{product-fits}
use Rattle.kk_linpoly.specs.LinPoly.{IsOver, xor_sum}
use Rattle.kk_linpoly.specs.Matrix.{AreWindows, block_product, digit, digits_of, row_product}
use Rattle.kk_linpoly.specs.declared.comb.TheConstants.{BLOCK}
use Rattle.kk_linpoly.specs.declared.matrix.TheConstants.{MAX_COLUMNS}
use Rattle.kk_linpoly.proofs.Coefficients.{coefficient-lt}
use Rattle.kk_linpoly.proofs.XorSums.{xor_sum-start, xor_sum-split, xor_sum-same, xor_sum-none, xor_sum-xor, xor_sum-add, xor_sum-mapped, xor_sum-lt}

-- ---- windows

pub IsOver-mono : (m n : ℕ) (xs : List ℕ) → m ≤ n → IsOver m xs → IsOver n xs
IsOver-mono m n xs most over k d within =
    let powers : 2 ^ m ≤ 2 ^ n = pow_mono most in
    omega (arith, over k d within, powers)

-- the zeros after the elements of a row are elements too
pub IsOver-row : (m : ℕ) (xs row : List ℕ) (n : ℕ) → row ≡ xs ++ replicate n 0 → IsOver m xs → IsOver m row
IsOver-row m xs row n e over =
    All-same (λ x. x < 2 ^ m) row (xs ++ replicate n 0) e
    (All-append (λ x. x < 2 ^ m) xs (replicate n 0) over (All-replicate (λ x. x < 2 ^ m) n 0 (pow_pos m)))

-- one window more
pub windows_more : (vector : List ℕ) (first i : ℕ) (windows : List (List ℕ)) (window : List ℕ) → i < length windows
    → ((j k : ℕ) → j < i → k < 16 → slice_index (get_or windows j []) k ≡ product (slice_index vector (first + j)) k)
    → ((k : ℕ) → k < 16 → slice_index window k ≡ product (slice_index vector (first + i)) k)
    → (j k : ℕ) → j < i + 1 → k < 16 → slice_index (get_or (set windows i window) j []) k ≡ product (slice_index vector (first + j)) k
windows_more vector first i windows window room before made j k less few = elim (cases_eq j i) [
  | inl here ↦ rw here (ap (λ w. slice_index w k) (get_or-set_same windows i window [] room) ∙ made k few)
  | inr apart ↦ ap (λ w. slice_index w k) (get_or-set_other windows i j window [] apart) ∙ before j k (omega (arith, less, apart)) few
]

-- ---- the digits of a row

pub digits_of-at : (row : List ℕ) (d : ℕ) → d < 16 → get_or (digits_of row) d [] ≡ map (digit d) row
digits_of-at row d few = get_or-map-range_with_len (λ d. map (digit d) row) 0 16 d d [] few (omega arith)

pub digits_of-lt : (row : List ℕ) (d : ℕ) → d < 16 → All (λ x. x < 16) (get_or (digits_of row) d [])
digits_of-lt row d few = rw (digits_of-at row d few) (λ k e within.
    let inside : k < length row = omega (arith, within, length-map row (digit d)) in
    rw (get_or-map (digit d) row k 0 e inside) (mod-lt (slice_index row k / 2 ^ (4 * d)) (omega arith)))

-- ---- from one place of the digits to the next

module _ (v e : ℕ → ℕ) (n : ℕ) where
  -- the sum of the products with the digits from place s on
  abbrev pub from_place : ℕ → ℕ
  from_place s = xor_sum (λ i. product (v i) (e i / 2 ^ s)) n

  abbrev pub at_place : ℕ → ℕ
  at_place s = xor_sum (λ i. product (v i) (e i / 2 ^ s % 16)) n

  pub place_next : (s : ℕ) → bit_xor (from_place (s + 4) * 16) (at_place s) ≡ from_place s
  place_next s =
      let up : from_place (s + 4) * 16 ≡ xor_sum (λ i. product (v i) (e i / 2 ^ (s + 4)) * 16) n =
      xor_sum-mapped (λ x. x * 16) (zero-mul 16) (λ a b. xor_shl a b 4) (λ i. product (v i) (e i / 2 ^ (s + 4))) n in
      ap (λ x. bit_xor x (at_place s)) up
      ∙ sym (xor_sum-xor (λ i. product (v i) (e i / 2 ^ (s + 4)) * 16) (λ i. product (v i) (e i / 2 ^ s % 16)) n)
      ∙ xor_sum-same (λ i. bit_xor (product (v i) (e i / 2 ^ (s + 4)) * 16) (product (v i) (e i / 2 ^ s % 16))) (λ i. product (v i) (e i / 2 ^ s)) n
      (λ i _. digit_next (v i) (e i) s (product (v i) (e i / 2 ^ (s + 4))) refl)

  -- no digit from place s on
  pub from_none : (s : ℕ) → ((i : ℕ) → e i < 2 ^ s) → 0 ≡ from_place s
  from_none s below = sym (xor_sum-none (λ i. product (v i) (e i / 2 ^ s)) n
      (λ i _. ap (product (v i)) (div-eq_of_lt (below i)) ∙ product-zero (v i)))

  pub from_all : (s : ℕ) → s ≡ 0 → from_place s ≡ xor_sum (λ i. product (v i) (e i)) n
  from_all s none = ap from_place none ∙ xor_sum-same (λ i. product (v i) (e i / 2 ^ 0)) (λ i. product (v i) (e i)) n (λ i _. ap (product (v i)) (div-one (e i)))

  -- a word has room for one digit more
  pub from_lt : (m s : ℕ) → 4 ≤ m → ((i : ℕ) → v i < 2 ^ m) → ((i : ℕ) → e i < 2 ^ m) → 4 ≤ s → from_place s < 2 ^ (m + (m - 5))
  from_lt m s least v_below e_below four = xor_sum-lt (m + (m - 5)) (λ i. product (v i) (e i / 2 ^ s)) n (λ i _.
      let powers : 2 ^ m ≤ 2 ^ (suc (m - 5) + s) = pow_mono (omega (arith, four, least)) in
      product-lt m (v i) (e i / 2 ^ s) (m - 5) (v_below i) (shr_lt (suc (m - 5)) s (omega (arith, e_below i, powers))))

-- what the windows have at the digits of one place
pub at_place-windows : (vector row : List ℕ) (windows : List (List ℕ)) (first d : ℕ) → AreWindows vector first windows → length row ≡ MAX_COLUMNS
    → first + BLOCK ≤ MAX_COLUMNS → d < 16
    → xor_sum (λ i. slice_index (get_or windows i []) (slice_index (get_or (digits_of row) d []) (first + i))) BLOCK
    ≡ at_place (λ i. slice_index vector (first + i)) (λ i. slice_index row (first + i)) BLOCK (4 * d)
at_place-windows vector row windows first d made long columns few =
    xor_sum-same (λ i. slice_index (get_or windows i []) (slice_index (get_or (digits_of row) d []) (first + i)))
    (λ i. product (slice_index vector (first + i)) (slice_index row (first + i) / 2 ^ (4 * d) % 16)) BLOCK
    (λ i less.
    let x = digit d (slice_index row (first + i)) in
    let at : slice_index (get_or (digits_of row) d []) (first + i) ≡ x =
    ap (λ digits. slice_index digits (first + i)) (digits_of-at row d few)
    ∙ get_or-map (digit d) row (first + i) 0 0 (omega (arith, less, long, columns)) in
    ap (slice_index (get_or windows i [])) at
    ∙ made.entries i x less (mod-lt (slice_index row (first + i) / 2 ^ (4 * d)) (omega arith)))

-- ---- one reduction for the columns that are taken together

module _ (f : Modulus) (vector : List ℕ) (first : ℕ) (row : List ℕ) where
  abbrev pub carryless : ℕ
  carryless = xor_sum (λ i. product (slice_index vector (first + i)) (slice_index row (first + i))) BLOCK

  pub carryless-fits : (n : ℕ) → f.degree ≤ n → IsOver f.degree vector → IsOver f.degree row → carryless < 2 ^ (f.degree + n)
  carryless-fits n most vector_over row_over =
      xor_sum-lt (f.degree + n) (λ i. product (slice_index vector (first + i)) (slice_index row (first + i))) BLOCK
      (λ i _. product-fits (slice_index vector (first + i)) (slice_index row (first + i)) f.degree n most
      (coefficient-lt f.degree vector vector_over (first + i)) (coefficient-lt f.degree row row_over (first + i)))

  pub residue-carryless : f.low < 2 ^ f.degree → residue f carryless ≡ block_product f vector first row
  unfolding field_product
  residue-carryless h =
      xor_sum-mapped (residue f) (residue-small f h 0 (pow_pos f.degree)) (residue-xor f h)
      (λ i. product (slice_index vector (first + i)) (slice_index row (first + i))) BLOCK
      ∙ xor_sum-same (λ i. residue f (product (slice_index vector (first + i)) (slice_index row (first + i))))
      (λ i. residue f (product (slice_index row (first + i)) (slice_index vector (first + i)))) BLOCK
      (λ i _. ap (residue f) (product_comm (slice_index vector (first + i)) (slice_index row (first + i))))

-- the columns from first on are added to the first n entries, and the others are as they were
pub record AreAdded (f : Modulus) (vector : List ℕ) (matrix : List (List ℕ)) (first : ℕ) (start image : List ℕ) (n : ℕ) : Type 0 where
  pub long : length image ≡ length start
  pub values : (j : ℕ) → j < n → slice_index image j ≡ bit_xor (slice_index start j) (block_product f vector first (get_or matrix j []))
  pub below : (j : ℕ) → j < n → slice_index start j < 2 ^ f.degree → slice_index image j < 2 ^ f.degree
  pub others : (j : ℕ) → n ≤ j → slice_index image j ≡ slice_index start j

pub AreAdded-none : (f : Modulus) (vector : List ℕ) (matrix : List (List ℕ)) (first : ℕ) (start : List ℕ)
    → AreAdded f vector matrix first start start 0
AreAdded-none f vector matrix first start = record {
  long = refl;
  values = λ j less. absurd (omega (arith, less));
  below = λ j less. absurd (omega (arith, less));
  others = λ j more. refl;
}

pub AreAdded-more : (f : Modulus) (vector : List ℕ) (matrix : List (List ℕ)) (first : ℕ) (start image : List ℕ) (n x : ℕ) → n < length start
    → AreAdded f vector matrix first start image n → x ≡ block_product f vector first (get_or matrix n []) → x < 2 ^ f.degree
    → AreAdded f vector matrix first start (set image n (bit_xor (slice_index image n) x)) (n + 1)
AreAdded-more f vector matrix first start image n x room before value small =
    let y = bit_xor (slice_index image n) x in
    let here : slice_index (set image n y) n ≡ bit_xor (slice_index start n) x =
    get_or-set_same image n y 0 (omega (arith, room, before.long)) ∙ ap (λ old. bit_xor old x) (before.others n (omega arith)) in
    record {
      long = length-set image n y ∙ before.long;
      values = λ j less. elim (cases_lt j n) [
        | inl earlier ↦ get_or-set_other image n j y 0 (λ e. omega (arith, e, earlier)) ∙ before.values j earlier
        | inr last ↦ let e : j ≡ n = omega (arith, less, last) in rw e (here ∙ ap (bit_xor (slice_index start n)) value)
      ];
      below = λ j less old. elim (cases_lt j n) [
        | inl earlier ↦ rw (get_or-set_other image n j y 0 (λ e. omega (arith, e, earlier))) (before.below j earlier old)
        | inr last ↦
            let e : j ≡ n = omega (arith, less, last) in
            let at : slice_index (set image n y) j ≡ bit_xor (slice_index start j) x =
            ap (slice_index (set image n y)) e ∙ here ∙ ap (λ k. bit_xor (slice_index start k) x) (sym e) in
            rw at (xor_lt f.degree (slice_index start j) x old small)
      ];
      others = λ j more. get_or-set_other image n j y 0 (λ e. omega (arith, e, more)) ∙ before.others j (omega (arith, more));
    }

-- ---- the columns in blocks

-- the entries have the sums over the first n columns, and those past the last row are as they were
pub record AreImages (f : Modulus) (vector : List ℕ) (matrix : List (List ℕ)) (start image : List ℕ) (n : ℕ) : Type 0 where
  pub long : length image ≡ length start
  pub values : (j : ℕ) → j < length matrix
      → slice_index image j ≡ xor_sum (λ i. field_product f (slice_index (get_or matrix j []) i) (slice_index vector i)) n
  pub below : (j : ℕ) → j < length matrix → slice_index image j < 2 ^ f.degree
  pub others : (j : ℕ) → length matrix ≤ j → slice_index image j ≡ slice_index start j

pub AreImages-none : (f : Modulus) (vector : List ℕ) (matrix : List (List ℕ)) (start image : List ℕ) → length matrix ≤ length start
    → image ≡ replicate (length matrix) 0 ++ drop (length matrix) start → AreImages f vector matrix start image 0
AreImages-none f vector matrix start image room e =
    let n = length matrix in
    let none : List ℕ = replicate n 0 in
    let zeros : length none ≡ n = length-replicate n 0 in
    let front : (j : ℕ) → j < n → slice_index image j ≡ 0 =
    λ j less. ap (λ l. slice_index l j) e ∙ get_or_append_left none (drop n start) 0 j (omega (arith, zeros, less)) ∙ slice_index-zeros n j in
    record {
      long = omega (arith, ap length e, length-append none (drop n start), zeros, length-drop n start, room);
      values = λ j less. front j less ∙ xor_sum-start (λ i. field_product f (slice_index (get_or matrix j []) i) (slice_index vector i));
      below = λ j less. rw (front j less) (pow_pos f.degree);
      others = λ j more.
          let place : n + (j - n) ≡ j = omega (arith, more) in
          ap (λ l. slice_index l j) e ∙ get_or-append_right none (drop n start) n j 0 zeros more
          ∙ get_or-drop n start (j - n) 0 ∙ ap (slice_index start) place;
    }

pub AreImages-more : (f : Modulus) (vector : List ℕ) (matrix : List (List ℕ)) (start before after : List ℕ) (b : ℕ)
    → AreImages f vector matrix start before (BLOCK * b) → AreAdded f vector matrix (BLOCK * b) before after (length matrix)
    → AreImages f vector matrix start after (BLOCK * (b + 1))
AreImages-more f vector matrix start before after b so_far added =
    let next : BLOCK * b + BLOCK ≡ BLOCK * (b + 1) = omega arith in
    record {
      long = added.long ∙ so_far.long;
      values = λ j less.
          let term : ℕ → ℕ = λ i. field_product f (slice_index (get_or matrix j []) i) (slice_index vector i) in
          added.values j less ∙ ap (λ x. bit_xor x (xor_sum (λ i. term (BLOCK * b + i)) BLOCK)) (so_far.values j less)
          ∙ xor_sum-split term (BLOCK * b) BLOCK ∙ ap (xor_sum term) next;
      below = λ j less. added.below j less (so_far.below j less);
      others = λ j more. added.others j more ∙ so_far.others j more;
    }

-- the columns past the vector's end give nothing
pub row_product-all : (f : Modulus) (vector row : List ℕ) (n : ℕ) → length vector ≤ n
    → xor_sum (λ i. field_product f (slice_index row i) (slice_index vector i)) n ≡ row_product f vector row
unfolding field_product remainder remainder_below
row_product-all f vector row n enough =
    let term : ℕ → ℕ = λ i. field_product f (slice_index row i) (slice_index vector i) in
    let more : length vector + (n - length vector) ≡ n = omega (arith, enough) in
    ap (xor_sum term) (sym more)
    ∙ xor_sum-add term (length vector) (n - length vector)
    (λ i past. ap (λ x. residue f (product (slice_index row i) x)) (get_or_past vector i 0 past) ∙ ap (residue f) (product-zero (slice_index row i)))
