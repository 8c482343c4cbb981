-- The rows of a generation, with one data frame more.
use Rattle.std.proofs.Common.{◌≡◌, ◌≢◌, ℕ, zero, suc, ◌+◌, ◌<◌, ◌≤◌, inl, inr, true, false, cond, eqb, List, [], ◌∷◌, ◌++◌, map, All, refl, ap, subst, ◌∙◌, arith}
use Rattle.std.specs.Prelude.{flat_map}
use Rattle.std.specs.List.{range_with_len}
use Rattle.std.proofs.lemmas.Bool.{cases_eq}
use Rattle.std.proofs.lemmas.List.{append-nil}
use Rattle.std.proofs.lemmas.List.Elements.{All-nil, All-append, All-map}
use Rattle.std.proofs.lemmas.Bool.Decides.{nat_tests}
use Rattle.kk_frame.specs.Generation.{rows_of}

-- a data frame of the generation
pub rows_of-push_same : (g : ℕ) (frames : List (ℕ × ℕ)) (row : ℕ) → rows_of g (frames ++ (g, row) ∷ []) ≡ rows_of g frames ++ row ∷ []
unfolding rows_of
rows_of-push_same g [] row = let yes : eqb g g ≡ true = grind (arith, nat_tests) in rw yes refl
rows_of-push_same g (frame ∷ frames) row =
    elim (eqb frame.0 g) as (λ b. cond b (frame.1 ∷ rows_of g (frames ++ (g, row) ∷ [])) (rows_of g (frames ++ (g, row) ∷ [])) ≡ cond b (frame.1 ∷ rows_of g frames) (rows_of g frames) ++ row ∷ []) [
      | true ↦ ap (λ (rows : List ℕ). frame.1 ∷ rows) (rows_of-push_same g frames row)
      | false ↦ rows_of-push_same g frames row
    ]

-- a data frame of another generation
pub rows_of-push_other : (g : ℕ) (frames : List (ℕ × ℕ)) (generation row : ℕ) → generation ≢ g → rows_of g (frames ++ (generation, row) ∷ []) ≡ rows_of g frames
unfolding rows_of
rows_of-push_other g [] generation row other = let no : eqb generation g ≡ false = grind (arith, nat_tests) in rw no refl
rows_of-push_other g (frame ∷ frames) generation row other =
    elim (eqb frame.0 g) as (λ b. cond b (frame.1 ∷ rows_of g (frames ++ (generation, row) ∷ [])) (rows_of g (frames ++ (generation, row) ∷ [])) ≡ cond b (frame.1 ∷ rows_of g frames) (rows_of g frames)) [
      | true ↦ ap (λ (rows : List ℕ). frame.1 ∷ rows) (rows_of-push_other g frames generation row other)
      | false ↦ rows_of-push_other g frames generation row other
    ]

-- ---- the data frames of all generations, one generation after another

rows_of-cons_same : (g row : ℕ) (frames : List (ℕ × ℕ)) → rows_of g ((g, row) ∷ frames) ≡ row ∷ rows_of g frames
unfolding rows_of
rows_of-cons_same g row frames = let yes : eqb g g ≡ true = grind (arith, nat_tests) in rw yes refl

rows_of-cons_other : (g h row : ℕ) (frames : List (ℕ × ℕ)) → h ≢ g → rows_of g ((h, row) ∷ frames) ≡ rows_of g frames
unfolding rows_of
rows_of-cons_other g h row frames other = let no : eqb h g ≡ false = grind (arith, nat_tests) in rw no refl

rows_of-nil : (g : ℕ) → rows_of g [] ≡ []
unfolding rows_of
rows_of-nil g = refl

-- those of this generation before others
rows_of-own : (g : ℕ) (rows : List ℕ) (frames : List (ℕ × ℕ)) → rows_of g (map (λ r. (g, r)) rows ++ frames) ≡ rows ++ rows_of g frames
rows_of-own g [] frames = refl
rows_of-own g (row ∷ rows) frames = rows_of-cons_same g row (map (λ r. (g, r)) rows ++ frames) ∙ ap (λ (l : List ℕ). row ∷ l) (rows_of-own g rows frames)

-- those of another generation before others
rows_of-skip : (g h : ℕ) (rows : List ℕ) (frames : List (ℕ × ℕ)) → h ≢ g → rows_of g (map (λ r. (h, r)) rows ++ frames) ≡ rows_of g frames
rows_of-skip g h [] frames other = refl
rows_of-skip g h (row ∷ rows) frames other = rows_of-cons_other g h row (map (λ r. (h, r)) rows ++ frames) other ∙ rows_of-skip g h rows frames other

-- the data frames of n generations from a on, where each has these rows
abbrev pub frames_from : (ℕ → List ℕ) → ℕ → ℕ → List (ℕ × ℕ)
frames_from rows a n = flat_map (λ g. map (λ r. (g, r)) (rows g)) (range_with_len a n)

rows_of-later : (rows : ℕ → List ℕ) (a n g : ℕ) → g < a → rows_of g (frames_from rows a n) ≡ []
rows_of-later rows a zero g below = rows_of-nil g
rows_of-later rows a (suc n) g below =
    let other : a ≢ g = λ e. omega (arith, e, below) in
    rows_of-skip g a (rows a) (frames_from rows (a + 1) n) other ∙ rows_of-later rows (a + 1) n g (omega (arith, below))

-- those of generation g among them
pub rows_of-frames : (rows : ℕ → List ℕ) (a n g : ℕ) → a ≤ g → g < a + n → rows_of g (frames_from rows a n) ≡ rows g
rows_of-frames rows a zero g above below = absurd (omega (arith, above, below))
rows_of-frames rows a (suc n) g above below =
    elim (cases_eq a g) [
      | inl same ↦
          let P : ℕ → Type 0 = λ h. rows_of h (frames_from rows a (suc n)) ≡ rows h in
          subst P same (rows_of-own a (rows a) (frames_from rows (a + 1) n) ∙ ap (λ (l : List ℕ). rows a ++ l) (rows_of-later rows (a + 1) n a (omega arith)) ∙ append-nil (rows a))
      | inr other ↦ rows_of-skip g a (rows a) (frames_from rows (a + 1) n) other ∙ rows_of-frames rows (a + 1) n g (omega (arith, above, other)) (omega (arith, below))
    ]

-- what holds of each row of each generation holds of each data frame
pub All-frames : (P : ℕ × ℕ → Type 0) (rows : ℕ → List ℕ) (a n : ℕ) → ((g : ℕ) → a ≤ g → g < a + n → All (λ r. P (g, r)) (rows g)) → All P (frames_from rows a n)
All-frames P rows a zero each = All-nil P
All-frames P rows a (suc n) each =
    All-append P (map (λ r. (a, r)) (rows a)) (frames_from rows (a + 1) n)
    (All-map P (λ (r : ℕ). (a, r)) (rows a) (each a (omega arith) (omega arith)))
    (All-frames P rows (a + 1) n (λ g above below. each g (omega (arith, above)) (omega (arith, below))))
