-- Frames that are dealt over gates.
use Rattle.std.proofs.Common.{◌≡◌, ℕ, zero, suc, ◌+◌, ◌%◌, ◌<◌, ◌≤◌, inl, inr, Bool, true, false, cond, eqb, List, [], ◌∷◌, ◌++◌, length, take, get_or, refl, sym, ap, subst, ◌∙◌, arith}
use Rattle.std.specs.Prelude.{All, flat_map}
use Rattle.std.specs.List.{range_with_len}
use Rattle.std.specs.List.Sorted.{IsPermutation}
use Rattle.std.proofs.lemmas.Bool.{cases_eq, cases_Bool}
use Rattle.std.proofs.lemmas.Bool.Decides.{nat_tests}
use Rattle.std.proofs.lemmas.List.{append-nil, map-append, length-map, length-take-le}
use Rattle.std.proofs.lemmas.List.Elements.{All-nil, All-cons, All-head, All-tail, All-map}
use Rattle.std.proofs.lemmas.List.Sorted.{IsPermutation-refl, IsPermutation-sym, IsPermutation-trans, IsPermutation-cons, IsPermutation-middle, IsPermutation-append_right}
use Rattle.std.proofs.lemmas.Nat.{mod_below}
use Rattle.kk_rows.specs.declared.rows.Row.{Row}
use Rattle.kk_code.specs.Ticket.{TicketFields}
use Rattle.kk_outside.specs.Gate.{FitsGate}
use Rattle.kk_outside.specs.declared.event.Event.TheVariants.{Datagram}
use Rattle.kk_frame.specs.Frame.{Vector, frame_text}
use Rattle.kk_frame.specs.FrameView.{pairs}
use Rattle.kk_frame.specs.Generation.{rows_of}
use Rattle.kk_frame.proofs.Batches.{batch_more}
use Rattle.kk_frame.proofs.Packs.{length-frame_text}
use Rattle.kk_trial.specs.Trial.{dealt_from, dealt, all_dealt, trial_events}
use Rattle.kk_trial.proofs.Ranges.{flat_map-same, flat_map-empty}

-- ---- one more element in the list of number k

module _ {X : Type 0} (k : ℕ) (x : X) (D : ℕ → List X) where
  abbrev with_first : ℕ → List X
  with_first i = cond (eqb k i) (x ∷ D i) (D i)

  with_first-later : (a n : ℕ) → k < a → flat_map with_first (range_with_len a n) ≡ flat_map D (range_with_len a n)
  with_first-later a zero below = refl
  with_first-later a (suc n) below =
      let no : eqb k a ≡ false = grind (arith, nat_tests) in
      ap (λ (b : Bool). cond b (x ∷ D a) (D a) ++ flat_map with_first (range_with_len (a + 1) n)) no
      ∙ ap (λ l. D a ++ l) (with_first-later (a + 1) n (omega (arith, below)))

  -- it is one more of all
  with_first-permuted : (a n : ℕ) → a ≤ k → k < a + n → IsPermutation (x ∷ flat_map D (range_with_len a n)) (flat_map with_first (range_with_len a n))
  with_first-permuted a zero above below = absurd (omega (arith, above, below))
  with_first-permuted a (suc n) above below =
      let others = flat_map D (range_with_len (a + 1) n) in
      let more = flat_map with_first (range_with_len (a + 1) n) in
      let P : List X → Type 0 = IsPermutation (x ∷ (D a ++ others)) in
      elim (cases_eq k a) [
        | inl same ↦
            let yes : eqb k a ≡ true = grind (arith, nat_tests) in
            let is : cond (eqb k a) (x ∷ D a) (D a) ++ more ≡ x ∷ (D a ++ others) =
            ap (λ (b : Bool). cond b (x ∷ D a) (D a) ++ more) yes ∙ ap (λ l. x ∷ (D a ++ l)) (with_first-later (a + 1) n (omega (arith, same))) in
            subst P (sym is) (IsPermutation-refl (x ∷ (D a ++ others)))
        | inr other ↦
            let no : eqb k a ≡ false = grind (arith, nat_tests) in
            let is : cond (eqb k a) (x ∷ D a) (D a) ++ more ≡ D a ++ more = ap (λ (b : Bool). cond b (x ∷ D a) (D a) ++ more) no in
            let moved = IsPermutation-sym (D a ++ x ∷ others) (x ∷ (D a ++ others)) (IsPermutation-middle (D a) x others) in
            let inner = IsPermutation-append_right (D a) (x ∷ others) more (with_first-permuted (a + 1) n (omega (arith, above, other)) (omega (arith, below))) in
            subst P (sym is) (IsPermutation-trans (x ∷ (D a ++ others)) (D a ++ x ∷ others) (D a ++ more) moved inner)
      ]

-- ---- all frames

dealt_from-none : (at n i : ℕ) → dealt_from at n i [] ≡ []
unfolding dealt_from
dealt_from-none at n i = refl

dealt_from-first : (at n i : ℕ) (frame : ℕ × ℕ) (frames : List (ℕ × ℕ))
    → dealt_from at n i (frame ∷ frames) ≡ cond (eqb (at % n) i) (frame ∷ dealt_from (at + 1) n i frames) (dealt_from (at + 1) n i frames)
unfolding dealt_from
dealt_from-first at n i frame frames = refl

dealt_from-permuted : (n : ℕ) → 0 < n → (at : ℕ) (frames : List (ℕ × ℕ)) → IsPermutation frames (flat_map (λ i. dealt_from at n i frames) (range_with_len 0 n))
dealt_from-permuted n some at [] =
    subst (IsPermutation []) (sym (flat_map-empty (λ i. dealt_from at n i []) (dealt_from-none at n) (range_with_len 0 n))) (IsPermutation-refl [])
dealt_from-permuted n some at (frame ∷ frames) =
    let places = range_with_len 0 n in
    let D : ℕ → List (ℕ × ℕ) = λ i. dealt_from (at + 1) n i frames in
    let others = IsPermutation-cons frame frames (flat_map D places) (dealt_from-permuted n some (at + 1) frames) in
    let one = with_first-permuted (at % n) frame D 0 n (omega arith) (omega (arith, mod_below at n some)) in
    subst (IsPermutation (frame ∷ frames)) (sym (flat_map-same (λ i. dealt_from at n i (frame ∷ frames)) (with_first (at % n) frame D) (λ i. dealt_from-first at n i frame frames) places))
    (IsPermutation-trans (frame ∷ frames) (frame ∷ flat_map D places) (flat_map (with_first (at % n) frame D) places) others one)

pub all_dealt-permuted : (n : ℕ) (frames : List (ℕ × ℕ)) → 0 < n → IsPermutation frames (all_dealt n frames)
all_dealt-permuted n frames some = dealt_from-permuted n some 0 frames

-- ---- the rows of a generation

rows_of-none : (g : ℕ) → rows_of g [] ≡ []
unfolding rows_of
rows_of-none g = refl

rows_of-first : (g : ℕ) (frame : ℕ × ℕ) (frames : List (ℕ × ℕ)) → rows_of g (frame ∷ frames) ≡ cond (eqb frame.0 g) (frame.1 ∷ rows_of g frames) (rows_of g frames)
unfolding rows_of
rows_of-first g frame frames = refl

rows_of-append : (g : ℕ) (a b : List (ℕ × ℕ)) → rows_of g (a ++ b) ≡ rows_of g a ++ rows_of g b
rows_of-append g [] b = ap (λ l. l ++ rows_of g b) (sym (rows_of-none g))
rows_of-append g (frame ∷ a) b =
    rows_of-first g frame (a ++ b)
    ∙ elim (eqb frame.0 g) as (λ c. cond c (frame.1 ∷ rows_of g (a ++ b)) (rows_of g (a ++ b)) ≡ cond c (frame.1 ∷ rows_of g a) (rows_of g a) ++ rows_of g b) [
      | true ↦ ap (λ (l : List ℕ). frame.1 ∷ l) (rows_of-append g a b)
      | false ↦ rows_of-append g a b
    ]
    ∙ ap (λ l. l ++ rows_of g b) (sym (rows_of-first g frame a))

rows_of-flat_map : (g : ℕ) (D : ℕ → List (ℕ × ℕ)) (places : List ℕ) → rows_of g (flat_map D places) ≡ flat_map (λ i. rows_of g (D i)) places
rows_of-flat_map g D [] = rows_of-none g
rows_of-flat_map g D (i ∷ places) = rows_of-append g (D i) (flat_map D places) ∙ ap (λ l. rows_of g (D i) ++ l) (rows_of-flat_map g D places)

-- those that gate i gives, with one frame more in front
rows_dealt-first : (g at n i : ℕ) (frame : ℕ × ℕ) (frames : List (ℕ × ℕ)) (b : Bool) → eqb frame.0 g ≡ b
    → rows_of g (dealt_from at n i (frame ∷ frames))
    ≡ cond (eqb (at % n) i) (cond b (frame.1 ∷ rows_of g (dealt_from (at + 1) n i frames)) (rows_of g (dealt_from (at + 1) n i frames))) (rows_of g (dealt_from (at + 1) n i frames))
rows_dealt-first g at n i frame frames b is =
    let D = dealt_from (at + 1) n i frames in
    ap (rows_of g) (dealt_from-first at n i frame frames)
    ∙ elim (eqb (at % n) i) as (λ c. rows_of g (cond c (frame ∷ D) D) ≡ cond c (cond b (frame.1 ∷ rows_of g D) (rows_of g D)) (rows_of g D)) [
      | true ↦ rows_of-first g frame D ∙ ap (λ (c : Bool). cond c (frame.1 ∷ rows_of g D) (rows_of g D)) is
      | false ↦ refl
    ]

cond-same : {X : Type 0} (b : Bool) (x : X) → cond b x x ≡ x
cond-same true x = refl
cond-same false x = refl

rows_dealt-permuted : (n : ℕ) → 0 < n → (g at : ℕ) (frames : List (ℕ × ℕ)) → IsPermutation (rows_of g frames) (flat_map (λ i. rows_of g (dealt_from at n i frames)) (range_with_len 0 n))
rows_dealt-permuted n some g at [] =
    let none = flat_map-empty (λ i. rows_of g (dealt_from at n i [])) (λ i. ap (rows_of g) (dealt_from-none at n i) ∙ rows_of-none g) (range_with_len 0 n) in
    subst (IsPermutation (rows_of g [])) (rows_of-none g ∙ sym none) (IsPermutation-refl (rows_of g []))
rows_dealt-permuted n some g at (frame ∷ frames) =
    let places = range_with_len 0 n in
    let rows : ℕ → List ℕ = λ i. rows_of g (dealt_from at n i (frame ∷ frames)) in
    let R : ℕ → List ℕ = λ i. rows_of g (dealt_from (at + 1) n i frames) in
    let before = rows_dealt-permuted n some g (at + 1) frames in
    elim (cases_Bool (eqb frame.0 g)) [
      | inl own ↦
          let is : rows_of g (frame ∷ frames) ≡ frame.1 ∷ rows_of g frames = rows_of-first g frame frames ∙ ap (λ (b : Bool). cond b (frame.1 ∷ rows_of g frames) (rows_of g frames)) own in
          let all = flat_map-same rows (with_first (at % n) frame.1 R) (λ i. rows_dealt-first g at n i frame frames true own) places in
          let one = with_first-permuted (at % n) frame.1 R 0 n (omega arith) (omega (arith, mod_below at n some)) in
          let others = IsPermutation-cons frame.1 (rows_of g frames) (flat_map R places) before in
          subst (λ l. IsPermutation l (flat_map rows places)) (sym is) (subst (IsPermutation (frame.1 ∷ rows_of g frames)) (sym all)
          (IsPermutation-trans (frame.1 ∷ rows_of g frames) (frame.1 ∷ flat_map R places) (flat_map (with_first (at % n) frame.1 R) places) others one))
      | inr other ↦
          let is : rows_of g (frame ∷ frames) ≡ rows_of g frames = rows_of-first g frame frames ∙ ap (λ (b : Bool). cond b (frame.1 ∷ rows_of g frames) (rows_of g frames)) other in
          let all = flat_map-same rows R (λ i. rows_dealt-first g at n i frame frames false other ∙ cond-same (eqb (at % n) i) (R i)) places in
          subst (λ l. IsPermutation l (flat_map rows places)) (sym is) (subst (IsPermutation (rows_of g frames)) (sym all) before)
    ]

pub rows_of-all_dealt : (n g : ℕ) (frames : List (ℕ × ℕ)) → 0 < n → IsPermutation (rows_of g frames) (rows_of g (all_dealt n frames))
rows_of-all_dealt n g frames some =
    subst (IsPermutation (rows_of g frames)) (sym (rows_of-flat_map g (λ i. dealt_from 0 n i frames) (range_with_len 0 n))) (rows_dealt-permuted n some g 0 frames)

-- ---- the frames of one gate

pub length-dealt_from : (at n i : ℕ) (frames : List (ℕ × ℕ)) → length (dealt_from at n i frames) ≤ length frames
length-dealt_from at n i [] = omega (arith, ap length (dealt_from-none at n i))
length-dealt_from at n i (frame ∷ frames) =
    let D = dealt_from (at + 1) n i frames in
    subst (λ l. length l ≤ length (frame ∷ frames)) (sym (dealt_from-first at n i frame frames))
    (elim (eqb (at % n) i) as (λ c. length (cond c (frame ∷ D) D) ≤ length (frame ∷ frames)) [
      | true ↦ omega (arith, length-dealt_from (at + 1) n i frames)
      | false ↦ omega (arith, length-dealt_from (at + 1) n i frames)
    ])

pub All-dealt_from : (P : ℕ × ℕ → Type 0) (at n i : ℕ) (frames : List (ℕ × ℕ)) → All P frames → All P (dealt_from at n i frames)
All-dealt_from P at n i [] all = subst (All P) (sym (dealt_from-none at n i)) (All-nil P)
All-dealt_from P at n i (frame ∷ frames) all =
    let D = dealt_from (at + 1) n i frames in
    let others = All-dealt_from P (at + 1) n i frames (All-tail P frame frames all) in
    subst (All P) (sym (dealt_from-first at n i frame frames))
    (elim (eqb (at % n) i) as (λ c. All P (cond c (frame ∷ D) D)) [
      | true ↦ All-cons P frame D (All-head P frame frames all) others
      | false ↦ others
    ])

-- with one frame more at the end
pub dealt_from-push : (at n i : ℕ) (frames : List (ℕ × ℕ)) (frame : ℕ × ℕ)
    → dealt_from at n i (frames ++ frame ∷ []) ≡ dealt_from at n i frames ++ cond (eqb ((at + length frames) % n) i) (frame ∷ []) []
dealt_from-push at n i [] frame =
    let place : at ≡ at + 0 = omega arith in
    dealt_from-first at n i frame []
    ∙ ap (λ l. cond (eqb (at % n) i) (frame ∷ l) l) (dealt_from-none (at + 1) n i)
    ∙ ap (λ (k : ℕ). cond (eqb (k % n) i) (frame ∷ []) []) place
    ∙ ap (λ l. l ++ cond (eqb ((at + 0) % n) i) (frame ∷ []) []) (sym (dealt_from-none at n i))
dealt_from-push at n i (first ∷ frames) frame =
    let D = dealt_from (at + 1) n i frames in
    let last : ℕ → List (ℕ × ℕ) = λ k. cond (eqb (k % n) i) (frame ∷ []) [] in
    let place : at + 1 + length frames ≡ at + length (first ∷ frames) = omega arith in
    let more : dealt_from (at + 1) n i (frames ++ frame ∷ []) ≡ D ++ last (at + length (first ∷ frames)) =
    dealt_from-push (at + 1) n i frames frame ∙ ap (λ k. D ++ last k) place in
    dealt_from-first at n i first (frames ++ frame ∷ [])
    ∙ ap (λ l. cond (eqb (at % n) i) (first ∷ l) l) more
    ∙ elim (eqb (at % n) i) as (λ c. cond c (first ∷ (D ++ last (at + length (first ∷ frames)))) (D ++ last (at + length (first ∷ frames))) ≡ cond c (first ∷ D) D ++ last (at + length (first ∷ frames))) [ true ↦ refl | false ↦ refl ]
    ∙ ap (λ l. l ++ last (at + length (first ∷ frames))) (sym (dealt_from-first at n i first frames))

-- ---- as events

pub trial_events-none : (t : TicketFields) (n i : ℕ) → trial_events t (dealt n i []) ≡ []
trial_events-none t n i = ap (trial_events t) (dealt_from-none 0 n i)

pub trial_events-fit : (t : TicketFields) (frames : List (ℕ × ℕ)) → All FitsGate (trial_events t frames)
trial_events-fit t frames =
    All-map FitsGate (λ (f : ℕ × ℕ). Datagram (frame_text t (Vector f.0 f.1))) frames (λ k d less. omega (arith, length-frame_text t (Vector (get_or frames k d).0 (get_or frames k d).1)))

module _ (t : TicketFields) (n i number : ℕ) (frames : List (ℕ × Row)) (d : ℕ × Row) (within : number < length frames) where
  abbrev frame : ℕ × ℕ
  frame = ((get_or frames number d).0, (get_or frames number d).1.0)

  -- the frames of gate i, with frame number `number` at the end where that is dealt to it
  dealt_more : dealt n i (take (number + 1) (pairs frames)) ≡ dealt n i (take number (pairs frames)) ++ cond (eqb (number % n) i) (frame ∷ []) []
  dealt_more =
      let front = take number (pairs frames) in
      let see : ℕ × Row → ℕ × ℕ = λ f. (f.0, f.1.0) in
      let count : 0 + length front ≡ number = omega (arith, within, length-map frames see, length-take-le number (pairs frames)) in
      ap (dealt n i) (batch_more frames number d within)
      ∙ dealt_from-push 0 n i front frame
      ∙ ap (λ (k : ℕ). dealt n i front ++ cond (eqb (k % n) i) (frame ∷ []) []) count

  pub events_dealt : number % n ≡ i → trial_events t (dealt n i (take (number + 1) (pairs frames))) ≡ trial_events t (dealt n i (take number (pairs frames))) ++ Datagram (frame_text t (Vector frame.0 frame.1)) ∷ []
  events_dealt own =
      let front = dealt n i (take number (pairs frames)) in
      let yes : eqb (number % n) i ≡ true = grind (arith, nat_tests) in
      ap (trial_events t) (dealt_more ∙ ap (λ (b : Bool). front ++ cond b (frame ∷ []) []) yes)
      ∙ map-append (λ (f : ℕ × ℕ). Datagram (frame_text t (Vector f.0 f.1))) front (frame ∷ [])

  pub events_passed_over : (number % n ≡ i → ⊥) → trial_events t (dealt n i (take (number + 1) (pairs frames))) ≡ trial_events t (dealt n i (take number (pairs frames)))
  events_passed_over other =
      let front = dealt n i (take number (pairs frames)) in
      let no : eqb (number % n) i ≡ false = grind (arith, nat_tests) in
      ap (trial_events t) (dealt_more ∙ ap (λ (b : Bool). front ++ cond b (frame ∷ []) []) no ∙ append-nil front)
