-- An additive map takes from the dimension of a span that of its kernel.
use Rattle.std.proofs.Common.{◌≡◌, ℕ, ◌+◌, true, false, List, [], ◌∷◌, ◌++◌, length, map, sym, ap, ◌∙◌, subst, inl, inr, bit_xor, arith, length-append, append-nil, append_assoc}
use Rattle.std.specs.Int.Bits.{xor_zero_l, xor_zero_r, xor_self}
use Rattle.std.proofs.lemmas.Bool.{cases_Bool, both_ways, false_from_ne_true}
use Rattle.std.proofs.lemmas.List.{map-append}
use Rattle.kk_field.proofs.Sums.{sums}
use Rattle.kk_rows.specs.Span.{in_span, dimension, IsIndependent}
use Rattle.kk_rows.specs.AdditiveMap.{IsAdditive}
use Rattle.kk_rows.proofs.Spans.{in_span-nil, in_span-xor, in_span-xor_back, in_span-push_cases, in_span-push_skip, in_span-push_use}
use Rattle.kk_rows.proofs.Dimensions.{innovative_after-nil, dimension-push_inside, dimension-push_outside}
use Rattle.kk_rows.proofs.Independence.{independent-push}
use Rattle.kk_rows.proofs.AdditiveMaps.{additive-zero, in_span-map, in_span-of_map}

-- a basis ws of the members that g takes to 0, with the count of what they take from the dimension
pub record Kernel (g : ℕ → ℕ) (rows ws : List ℕ) : Type 0 where
  pub independent : IsIndependent ws
  pub members : (x : ℕ) → in_span ws x ≡ true → (in_span rows x ≡ true) × (g x ≡ 0)
  pub all : (x : ℕ) → in_span rows x ≡ true → g x ≡ 0 → in_span ws x ≡ true
  pub count : length ws + dimension (map g rows) ≡ dimension rows

module _ (g : ℕ → ℕ) (additive : IsAdditive g) where
  kernel_nothing : Kernel g [] []
  kernel_nothing = record {
    independent = ap length (innovative_after-nil []);
    members = λ x k. (k, ap g (in_span-nil x k) ∙ additive-zero g additive);
    all = λ x k e. k;
    count = omega arith;
  }

  images-push : (rows : List ℕ) (v : ℕ) → map g (rows ++ v ∷ []) ≡ map g rows ++ g v ∷ []
  images-push rows v = map-append g rows (v ∷ [])

  -- a member adds nothing
  kernel_inside : (rows ws : List ℕ) (v : ℕ) → Kernel g rows ws → in_span rows v ≡ true → Kernel g (rows ++ v ∷ []) ws
  kernel_inside rows ws v h inside = record {
    independent = h.independent;
    members = λ x k. (in_span-push_skip rows v x (h.members x k).0, (h.members x k).1);
    all = λ x k e. h.all x (elim (in_span-push_cases rows v x k) [
      | inl old ↦ old
      | inr moved ↦ in_span-xor_back rows x v moved inside
    ]) e;
    count = omega (
      arith,
      h.count,
      ap dimension (images-push rows v),
      dimension-push_inside (map g rows) (g v) (in_span-map g additive rows v inside),
      dimension-push_inside rows v inside,
    );
  }

  -- a row whose image is new adds to the images
  kernel_outside : (rows ws : List ℕ) (v : ℕ) → Kernel g rows ws → in_span (map g rows) (g v) ≡ false → Kernel g (rows ++ v ∷ []) ws
  kernel_outside rows ws v h new =
      let outside : in_span rows v ≡ false = false_from_ne_true _ (λ k. both_ways _ new (in_span-map g additive rows v k)) in
      record {
        independent = h.independent;
        members = λ x k. (in_span-push_skip rows v x (h.members x k).0, (h.members x k).1);
        all = λ x k e. elim (in_span-push_cases rows v x k) [
          | inl old ↦ h.all x old e
          | inr moved ↦
              let image : g (bit_xor x v) ≡ g v = additive x v ∙ ap (λ y. bit_xor y (g v)) e ∙ xor_zero_l (g v) in
              absurd (both_ways _ new (subst (λ y. in_span (map g rows) y ≡ true) image (in_span-map g additive rows (bit_xor x v) moved)))
        ];
        count = omega (
          arith,
          h.count,
          ap dimension (images-push rows v),
          dimension-push_outside (map g rows) (g v) new,
          dimension-push_outside rows v outside,
        );
      }

  -- a new row with the image of a member u adds its sum with u to the kernel
  kernel_more : (rows ws : List ℕ) (v u : ℕ) → Kernel g rows ws → in_span rows v ≡ false → in_span rows u ≡ true → g u ≡ g v
      → Kernel g (rows ++ v ∷ []) (ws ++ bit_xor v u ∷ [])
  kernel_more rows ws v u h outside inside same =
      let w = bit_xor v u in
      let zero : g w ≡ 0 = additive v u ∙ ap (bit_xor (g v)) same ∙ xor_self (g v) in
      let shifted : (x : ℕ) → g (bit_xor x w) ≡ g x = λ x. additive x w ∙ ap (bit_xor (g x)) zero ∙ xor_zero_r (g x) in
      let out : in_span ws w ≡ false = false_from_ne_true _ (λ k. both_ways _ outside (in_span-xor_back rows v u (h.members w k).0 inside)) in
      let image : in_span (map g rows) (g v) ≡ true = subst (λ y. in_span (map g rows) y ≡ true) same (in_span-map g additive rows u inside) in
      record {
        independent = independent-push ws w h.independent out;
        members = λ x k. elim (in_span-push_cases ws w x k) [
          | inl old ↦ (in_span-push_skip rows v x (h.members x old).0, (h.members x old).1)
          | inr moved ↦
              let m = h.members (bit_xor x w) moved in
              let back : bit_xor (bit_xor x w) u ≡ bit_xor x v = simp sums in (
                in_span-push_use rows v x (subst (λ y. in_span rows y ≡ true) back (in_span-xor rows (bit_xor x w) u m.0 inside)),
                sym (shifted x) ∙ m.1,
              )
        ];
        all = λ x k e. elim (in_span-push_cases rows v x k) [
          | inl old ↦ in_span-push_skip ws w x (h.all x old e)
          | inr moved ↦
              let on : bit_xor (bit_xor x v) u ≡ bit_xor x w = simp sums in
              in_span-push_use ws w x
              (h.all (bit_xor x w) (subst (λ y. in_span rows y ≡ true) on (in_span-xor rows (bit_xor x v) u moved inside)) (shifted x ∙ e))
        ];
        count = omega (
          arith,
          h.count,
          length-append ws (w ∷ []),
          ap dimension (images-push rows v),
          dimension-push_inside (map g rows) (g v) image,
          dimension-push_outside rows v outside,
        );
      }

  kernel_step : (rows ws : List ℕ) (v : ℕ) → Kernel g rows ws → (ws : List ℕ) × Kernel g (rows ++ v ∷ []) ws
  kernel_step rows ws v h = elim (cases_Bool (in_span rows v)) [
    | inl inside ↦ (ws, kernel_inside rows ws v h inside)
    | inr outside ↦ elim (cases_Bool (in_span (map g rows) (g v))) [
      | inl image ↦
          let u = in_span-of_map g additive rows (g v) image in
          (ws ++ bit_xor v u.0 ∷ [], kernel_more rows ws v u.0 h outside u.1 u.2)
      | inr new ↦ (ws, kernel_outside rows ws v h new)
    ]
  ]

  kernel_after : (before rows ws : List ℕ) → Kernel g before ws → (ws : List ℕ) × Kernel g (before ++ rows) ws
  kernel_after before [] ws h = (ws, subst (λ l. Kernel g l ws) (sym (append-nil before)) h)
  kernel_after before (v ∷ rows) ws h =
      let next = kernel_step before ws v h in
      let rest = kernel_after (before ++ v ∷ []) rows next.0 next.1 in
      (rest.0, subst (λ l. Kernel g l rest.0) (append_assoc before (v ∷ []) rows) rest.1)

  pub kernel : (rows : List ℕ) → (ws : List ℕ) × Kernel g rows ws
  kernel rows = kernel_after [] rows [] kernel_nothing
