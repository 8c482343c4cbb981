-- What the loop of a composition keeps: the sum is the composition of the coefficients so far with g, and the powers are
-- those of g.
use Rattle.std.proofs.Common.{◌≡◌, ◌≢◌, ℕ, zero, suc, ◌+◌, ◌-◌, ◌*◌, ◌^◌, ◌<◌, ◌≤◌, List, [], ◌∷◌, ◌++◌, length, take, drop, replicate, map, bit_xor, refl, sym, ap, ◌∙◌, subst, arith, inl, inr}
use Rattle.std.specs.Prelude.{slice_index}
use Rattle.std.proofs.Math.Nat.{mul-le-mul_left}
use Rattle.std.proofs.Math.Numerals.{add-one}
use Rattle.std.proofs.lemmas.Bool.{cases_lt}
use Rattle.std.proofs.lemmas.List.{get_or_append_left, get_or-append_right, get_or_past, get_or-take, get_or-drop, length-take-le, length-map, length-drop, drop_all, append-nil, take_at, take_all, drop-replicate}
use Rattle.kk_field.specs.Field.{Modulus, field_product, frobenius}
use Rattle.kk_field.proofs.Residues.{zero-field_product, frobenius-zero, frobenius-below}
use Rattle.kk_linpoly.specs.LinPoly.{IsOver, trimmed, sum_of, scaled, composed, composition}
use Rattle.kk_linpoly.proofs.XorSums.{xor_sum-none, xor_sum-same, xor_sum-differs}
use Rattle.kk_linpoly.proofs.Trimmed.{trimmed-same}
use Rattle.kk_linpoly.proofs.Coefficients.{coefficient-lt, IsOver-from, slice_index-sum_of, slice_index-scaled, slice_index-composition}
use Rattle.kk_linpoly.proofs.Stored.{SamePolynomial-append_zeros}

slice_index-take_below : (cs : List ℕ) (i j : ℕ) → j < i → slice_index (take i cs) j ≡ slice_index cs j
slice_index-take_below cs i j less = get_or-take i cs j 0 less

slice_index-take_past : (cs : List ℕ) (i j : ℕ) → i ≤ length cs → i ≤ j → slice_index (take i cs) j ≡ 0
slice_index-take_past cs i j within past = get_or_past (take i cs) j 0 (omega (arith, length-take-le i cs within))

-- at most one place differs
slice_index-take_more : (cs : List ℕ) (i j : ℕ) → i < length cs → j ≢ i → slice_index (take (i + 1) cs) j ≡ slice_index (take i cs) j
slice_index-take_more cs i j within apart =
    elim (cases_lt j i) [
      | inl below ↦ slice_index-take_below cs (i + 1) j (omega arith) ∙ sym (slice_index-take_below cs i j below)
      | inr above ↦ slice_index-take_past cs (i + 1) j (omega arith) (omega arith) ∙ sym (slice_index-take_past cs i j (omega arith) above)
    ]

-- the part of a list from place i on rewritten
placed : List ℕ → ℕ → List ℕ → ℕ → List ℕ
placed sum i part k = take i sum ++ (part ++ drop k (drop i sum))

slice_index-placed_below : (sum part : List ℕ) (i k n : ℕ) → i ≤ length sum → n < i → slice_index (placed sum i part k) n ≡ slice_index sum n
unfolding placed
slice_index-placed_below sum part i k n within below =
    get_or_append_left (take i sum) (part ++ drop k (drop i sum)) 0 n (omega (arith, length-take-le i sum within))
    ∙ slice_index-take_below sum i n below

slice_index-placed_above : (sum part : List ℕ) (i k n : ℕ) → i ≤ length sum → length sum ≤ i + k → i ≤ n
    → slice_index (placed sum i part k) n ≡ slice_index part (n - i)
unfolding placed
slice_index-placed_above sum part i k n within all above =
    get_or-append_right (take i sum) (part ++ drop k (drop i sum)) i n 0 (length-take-le i sum within) above
    ∙ ap (λ l. slice_index (part ++ l) (n - i)) (drop_all k (drop i sum) (omega (arith, length-drop i sum)))
    ∙ ap (λ l. slice_index l (n - i)) (append-nil part)

-- the cost of all rounds
pub rounds_cost : (a b : ℕ) → a * (2 * b) ≤ a * b * (a + 1)
rounds_cost zero b = omega arith
rounds_cost (suc a) b =
    let two : 2 ≤ suc a + 1 = omega arith in
    omega (arith, mul-le-mul_left (suc a * b) two)

module _ (f : Modulus) (h : f.low < 2 ^ f.degree) where
  pub composed-none : (d : ℕ → ℕ) (n : ℕ) → composed f (slice_index []) d n ≡ 0
  composed-none d n = xor_sum-none _ (suc n) (λ i less. zero-field_product f h (frobenius f i (d (n - i))))

  -- one coefficient more: nothing changes below its place
  composed-more_below : (cs : List ℕ) (d : ℕ → ℕ) (i n : ℕ) → i < length cs → n < i
      → composed f (slice_index (take (i + 1) cs)) d n ≡ composed f (slice_index (take i cs)) d n
  composed-more_below cs d i n within below =
      xor_sum-same _ _ (suc n)
      (λ j less. ap (λ x. field_product f x (frobenius f j (d (n - j)))) (slice_index-take_more cs i j within (λ e. omega arith)))

  composed-more_above : (cs : List ℕ) (d : ℕ → ℕ) (i n : ℕ) → i < length cs → i ≤ n
      → composed f (slice_index (take (i + 1) cs)) d n
      ≡ bit_xor (composed f (slice_index (take i cs)) d n) (field_product f (slice_index cs i) (frobenius f i (d (n - i))))
  composed-more_above cs d i n within above =
      xor_sum-differs (λ j. field_product f (slice_index (take (i + 1) cs) j) (frobenius f j (d (n - j))))
      (λ j. field_product f (slice_index (take i cs) j) (frobenius f j (d (n - j)))) (suc n) i (omega arith)
      (λ j less apart. ap (λ x. field_product f x (frobenius f j (d (n - j)))) (slice_index-take_more cs i j within apart))
      (ap (λ x. field_product f x (frobenius f i (d (n - i)))) (slice_index-take_past cs i i (omega arith) (omega arith))
      ∙ zero-field_product f h (frobenius f i (d (n - i))))
      ∙ ap (λ x. bit_xor (composed f (slice_index (take i cs)) d n) (field_product f x (frobenius f i (d (n - i)))))
      (slice_index-take_below cs (i + 1) i (omega arith))

  slice_index-powers : (i : ℕ) (ds : List ℕ) (k : ℕ) → slice_index (map (frobenius f i) ds) k ≡ frobenius f i (slice_index ds k)
  slice_index-powers i [] k = sym (frobenius-zero f h i)
  slice_index-powers i (d ∷ ds) zero = refl
  slice_index-powers i (d ∷ ds) (suc k) = slice_index-powers i ds k

  pub IsOver-powers : (i : ℕ) (ds : List ℕ) → IsOver f.degree ds → IsOver f.degree (map (frobenius f i) ds)
  IsOver-powers i ds over =
      IsOver-from f.degree (map (frobenius f i) ds)
      (λ k. subst (λ x. x < 2 ^ f.degree) (sym (slice_index-powers i ds k)) (frobenius-below f h i (slice_index ds k) (coefficient-lt f.degree ds over k)))

  pub powers_started : (ds : List ℕ) → ds ≡ map (frobenius f 0) ds
  unfolding frobenius
  powers_started [] = refl
  powers_started (d ∷ ds) = ap (λ l. d ∷ l) (powers_started ds)

  pub powers_more : (i : ℕ) (ds : List ℕ) → map (λ c. field_product f c c) (map (frobenius f i) ds) ≡ map (frobenius f (i + 1)) ds
  unfolding frobenius
  powers_more i [] = refl
  powers_more i (d ∷ ds) =
      ap (λ l. field_product f (frobenius f i d) (frobenius f i d) ∷ l) (powers_more i ds)
      ∙ ap (λ k. frobenius f k d ∷ map (frobenius f (i + 1)) ds) (sym (add-one i))

  pub next_powers : (i len : ℕ) (powers squares ds : List ℕ) → take len powers ≡ map (frobenius f i) ds → length ds ≡ len
      → squares ≡ map (λ c. field_product f c c) (take len powers) → take len (squares ++ drop len powers) ≡ map (frobenius f (i + 1)) ds
  next_powers i len powers squares ds powers_are count squares_are =
      let new : squares ≡ map (frobenius f (i + 1)) ds =
      squares_are ∙ ap (λ l. map (λ c. field_product f c c) l) powers_are ∙ powers_more i ds in
      take_at squares (drop len powers) len (ap length new ∙ length-map ds (frobenius f (i + 1)) ∙ count) ∙ new

  -- one round: c is coefficient i, and its multiple of the powers is added from place i on
  pub round : (cs ds sum powers part : List ℕ) (i k n : ℕ) → i < length cs → i ≤ length sum → length sum ≤ i + k
      → ((n : ℕ) → slice_index sum n ≡ composed f (slice_index (take i cs)) (slice_index ds) n)
      → powers ≡ map (frobenius f i) ds → part ≡ sum_of (take k (drop i sum)) (scaled f (slice_index cs i) powers)
      → slice_index (take i sum ++ (part ++ drop k (drop i sum))) n ≡ composed f (slice_index (take (i + 1) cs)) (slice_index ds) n
  unfolding placed
  round cs ds sum powers part i k n within starts all sum_is powers_are part_is =
      let c = slice_index cs i in
      let d = slice_index ds in
      elim (cases_lt n i) [
        | inl below ↦ slice_index-placed_below sum part i k n starts below ∙ sum_is n ∙ sym (composed-more_below cs d i n within below)
        | inr above ↦
            let next : i + (n - i) ≡ n = omega arith in
            slice_index-placed_above sum part i k n starts all above
            ∙ ap (λ l. slice_index l (n - i)) part_is
            ∙ ap (λ l. slice_index (sum_of l (scaled f c powers)) (n - i)) (take_all k (drop i sum) (omega (arith, length-drop i sum)))
            ∙ slice_index-sum_of (drop i sum) (scaled f c powers) (n - i)
            ∙ ap (λ x. bit_xor x (slice_index (scaled f c powers) (n - i)))
            (get_or-drop i sum (n - i) 0 ∙ ap (slice_index sum) next ∙ sum_is n)
            ∙ ap (bit_xor (composed f (slice_index (take i cs)) d n))
            (slice_index-scaled f h c powers (n - i) ∙ ap (λ l. field_product f c (slice_index l (n - i))) powers_are
            ∙ ap (field_product f c) (slice_index-powers i ds (n - i)))
            ∙ sym (composed-more_above cs d i n within above)
      ]

  pub all_rounds : (cs ds sum : List ℕ) (i : ℕ) → length cs ≤ i
      → ((n : ℕ) → slice_index sum n ≡ composed f (slice_index (take i cs)) (slice_index ds) n)
      → trimmed sum ≡ trimmed (composition f cs ds)
  all_rounds cs ds sum i all sum_is =
      trimmed-same sum (composition f cs ds)
      (record {
        coefficients = λ n. sum_is n ∙ ap (λ l. composed f (slice_index l) (slice_index ds) n) (take_all i cs all) ∙ sym (slice_index-composition f h cs ds n);
      })

-- a square stands one place up among zeros
pub square_placed : (squares : List ℕ) (k : ℕ)
    → trimmed (take 1 (replicate 128 0) ++ (squares ++ drop k (drop 1 (replicate 128 0)))) ≡ trimmed (0 ∷ squares)
square_placed squares k =
    trimmed-same (0 ∷ squares ++ drop k (replicate 127 0)) (0 ∷ squares) (record { coefficients = same })
  where
    same : (i : ℕ) → slice_index (0 ∷ (squares ++ drop k (replicate 127 0))) i ≡ slice_index (0 ∷ squares) i
    same zero = refl
    same (suc i) =
        ap (λ l. slice_index (squares ++ l) i) (drop-replicate k 127 0)
        ∙ (SamePolynomial-append_zeros squares (127 - k)).coefficients i
