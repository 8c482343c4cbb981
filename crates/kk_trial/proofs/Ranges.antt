-- Lists one after another, over a range of numbers.
use Rattle.std.proofs.Common.{◌≡◌, ℕ, zero, suc, ◌+◌, List, [], ◌∷◌, ◌++◌, ap, ◌∙◌, arith, add-one, refl}
use Rattle.std.specs.Prelude.{flat_map}
use Rattle.std.specs.List.{range_with_len}
use Rattle.std.proofs.lemmas.List.{append-nil}
use Rattle.std.proofs.lemmas.List.Concat.{flat_map-append}

pub flat_map-same : {X : Type 0} (D E : ℕ → List X) → ((i : ℕ) → D i ≡ E i) → (places : List ℕ) → flat_map D places ≡ flat_map E places
flat_map-same D E same [] = refl
flat_map-same D E same (i ∷ places) = ap (λ l. l ++ flat_map D places) (same i) ∙ ap (λ l. E i ++ l) (flat_map-same D E same places)

pub flat_map-empty : {X : Type 0} (D : ℕ → List X) → ((i : ℕ) → D i ≡ []) → (places : List ℕ) → flat_map D places ≡ []
flat_map-empty D empty [] = refl
flat_map-empty D empty (i ∷ places) = ap (λ l. l ++ flat_map D places) (empty i) ∙ flat_map-empty D empty places

range-more : (a n j : ℕ) → a + n ≡ j → range_with_len a (suc n) ≡ range_with_len a n ++ j ∷ []
range-more a zero j at = let same : a ≡ j = omega (arith, at) in ap (λ (k : ℕ). k ∷ []) same
range-more a (suc n) j at = ap (λ (l : List ℕ). a ∷ l) (range-more (a + 1) n j (omega (arith, at)))

-- one list more
pub flat_map-range_more : {X : Type 0} (D : ℕ → List X) (n : ℕ) → flat_map D (range_with_len 0 (n + 1)) ≡ flat_map D (range_with_len 0 n) ++ D n
flat_map-range_more D n =
    ap (λ (k : ℕ). flat_map D (range_with_len 0 k)) (add-one n)
    ∙ ap (flat_map D) (range-more 0 n n (omega arith))
    ∙ flat_map-append D (range_with_len 0 n) (n ∷ [])
    ∙ ap (λ l. flat_map D (range_with_len 0 n) ++ l) (append-nil (D n))
