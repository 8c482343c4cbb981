-- The dimension of a sum and of a meet, at any width.
use Rattle.std.proofs.Common.{◌≡◌, ℕ, ◌+◌, ◌≤◌, true, false, ◌&&◌, List, [], ◌∷◌, ◌++◌, length, sym, ap, ◌∙◌, subst, inl, inr, bit_xor, arith, length-append}
use Rattle.std.proofs.lemmas.Bool.{cases_Bool, both_ways, and_parts, and_from, false_from_ne_true}
use Rattle.std.proofs.lemmas.List.{append-nil, append_assoc}
use Rattle.std.proofs.lemmas.Nat.{xor_comm}
use Rattle.kk_rows.specs.Span.{in_span, dimension, IsIndependent}
use Rattle.kk_rows.specs.Distance.{sum_dimension, meet_dimension}
use Rattle.kk_rows.specs.Laws.{IsBasisOfMeet}
use Rattle.kk_rows.proofs.Sums.{xor_twice_left, xor_shared}
use Rattle.kk_rows.proofs.Spans.{same_bool, in_span-nil, in_span-zero, in_span-xor, in_span-xor_back, in_span-push_cases, in_span-push_skip, in_span-push_use, in_span-append_parts, in_span-append_left, in_span-append_right}
use Rattle.kk_rows.proofs.Dimensions.{innovative_after-nil, dimension-push_inside, dimension-push_outside, dimension-le_within, dimension-same_span}
use Rattle.kk_rows.proofs.Independence.{independent-push}

-- a basis of the meet of the spans of us and vs, with the count of what it takes from the sum of their dimensions
record Meets (us vs ws : List ℕ) : Type 0 where
  pub independent : IsIndependent ws
  pub in_both : (x : ℕ) → in_span ws x ≡ true → (in_span us x ≡ true) × (in_span vs x ≡ true)
  pub all : (x : ℕ) → in_span us x ≡ true → in_span vs x ≡ true → in_span ws x ≡ true
  pub count : length ws + dimension (us ++ vs) ≡ dimension us + dimension vs

meets_nothing : (us : List ℕ) → Meets us [] []
meets_nothing us =
    let none = ap length (innovative_after-nil []) in
    record {
      independent = none;
      in_both = λ x k. (subst (λ y. in_span us y ≡ true) (sym (in_span-nil x k)) (in_span-zero us), k);
      all = λ x ku kv. kv;
      count = let e = ap dimension (append-nil us) in omega (arith, e, none);
    }

-- a row in the span of vs changes nothing
meets_inside : (us vs ws : List ℕ) (v : ℕ) → Meets us vs ws → in_span vs v ≡ true → Meets us (vs ++ v ∷ []) ws
meets_inside us vs ws v h inside = record {
  independent = h.independent;
  in_both = λ x k. ((h.in_both x k).0, in_span-push_skip vs v x (h.in_both x k).1);
  all = λ x ku kv. h.all x ku (elim (in_span-push_cases vs v x kv) [
    | inl old ↦ old
    | inr moved ↦ in_span-xor_back vs x v moved inside
  ]);
  count =
      let in_sum = in_span-append_right us vs v inside in
      let e = ap dimension (sym (append_assoc us vs (v ∷ []))) in
      omega (arith, e, dimension-push_inside (us ++ vs) v in_sum, dimension-push_inside vs v inside, h.count);
}

-- a row outside the span of both adds to the sum alone
meets_outside : (us vs ws : List ℕ) (v : ℕ) → Meets us vs ws → in_span (us ++ vs) v ≡ false → Meets us (vs ++ v ∷ []) ws
meets_outside us vs ws v h outside =
    let out = false_from_ne_true _ (λ k. both_ways _ outside (in_span-append_right us vs v k)) in
    record {
      independent = h.independent;
      in_both = λ x k. ((h.in_both x k).0, in_span-push_skip vs v x (h.in_both x k).1);
      all = λ x ku kv. h.all x ku (elim (in_span-push_cases vs v x kv) [
        | inl old ↦ old
        | inr moved ↦
            let both = in_span-xor (us ++ vs) x (bit_xor x v) (in_span-append_left us vs x ku) (in_span-append_right us vs (bit_xor x v) moved) in
            absurd (both_ways _ outside (subst (λ y. in_span (us ++ vs) y ≡ true) (xor_twice_left x v) both))
      ]);
      count =
          let e = ap dimension (sym (append_assoc us vs (v ∷ []))) in
          omega (arith, e, dimension-push_outside (us ++ vs) v outside, dimension-push_outside vs v out, h.count);
    }

-- a row outside the span of vs that is the sum of u in the span of us and of a member of that of vs adds u to the meet
meets_more : (us vs ws : List ℕ) (v u : ℕ) → Meets us vs ws → in_span vs v ≡ false → in_span us u ≡ true → in_span vs (bit_xor v u) ≡ true → Meets us (vs ++ v ∷ []) (ws ++ u ∷ [])
meets_more us vs ws v u h outside in_us shift =
    let out_u : in_span ws u ≡ false = false_from_ne_true _ (λ k. both_ways _ outside (in_span-xor_back vs v u shift (h.in_both u k).1)) in
    let flipped = subst (λ y. in_span vs y ≡ true) (xor_comm v u) shift in
    record {
      independent = independent-push ws u h.independent out_u;
      in_both = λ x k. elim (in_span-push_cases ws u x k) [
        | inl old ↦ ((h.in_both x old).0, in_span-push_skip vs v x (h.in_both x old).1)
        | inr moved ↦
            let m = h.in_both (bit_xor x u) moved in (
              in_span-xor_back us x u m.0 in_us,
              in_span-push_use vs v x (subst (λ y. in_span vs y ≡ true) (xor_shared_right x u v) (in_span-xor vs (bit_xor x u) (bit_xor v u) m.1 shift)),
            )
      ];
      all = λ x ku kv. elim (in_span-push_cases vs v x kv) [
        | inl old ↦ in_span-push_skip ws u x (h.all x ku old)
        | inr moved ↦ in_span-push_use ws u x (h.all (bit_xor x u) (in_span-xor us x u ku in_us)
            (subst (λ y. in_span vs y ≡ true) (xor_shared_right x v u) (in_span-xor vs (bit_xor x v) (bit_xor u v) moved flipped)))
      ];
      count =
          let in_sum : in_span (us ++ vs) v ≡ true = in_span-xor_back (us ++ vs) v u (in_span-append_right us vs _ shift) (in_span-append_left us vs u in_us) in
          let e = ap dimension (sym (append_assoc us vs (v ∷ []))) in
          omega (arith, e, dimension-push_inside (us ++ vs) v in_sum, dimension-push_outside vs v outside, length-append ws (u ∷ []), h.count);
    }
  where
    xor_shared_right : (a b c : ℕ) → bit_xor (bit_xor a b) (bit_xor c b) ≡ bit_xor a c
    xor_shared_right a b c = xor_shared a c b

meets_step : (us vs ws : List ℕ) (v : ℕ) → Meets us vs ws → (ws : List ℕ) × Meets us (vs ++ v ∷ []) ws
meets_step us vs ws v h = elim (cases_Bool (in_span vs v)) [
  | inl inside ↦ (ws, meets_inside us vs ws v h inside)
  | inr out ↦ elim (cases_Bool (in_span (us ++ vs) v)) [
    | inl in_sum ↦
        let w = in_span-append_parts us vs v in_sum in
        (ws ++ w.0 ∷ [], meets_more us vs ws v w.0 h out w.1 w.2)
    | inr outside ↦ (ws, meets_outside us vs ws v h outside)
  ]
]

meets_after : (us before vs ws : List ℕ) → Meets us before ws → (ws : List ℕ) × Meets us (before ++ vs) ws
meets_after us before [] ws h = (ws, subst (λ l. Meets us l ws) (sym (append-nil before)) h)
meets_after us before (v ∷ vs) ws h =
    let next = meets_step us before ws v h in
    let rest = meets_after us (before ++ v ∷ []) vs next.0 next.1 in
    (rest.0, subst (λ l. Meets us l rest.0) (append_assoc before (v ∷ []) vs) rest.1)

meets : (us vs : List ℕ) → (ws : List ℕ) × Meets us vs ws
meets us vs = meets_after us [] vs [] (meets_nothing us)

-- ---- what the crates above cite

-- the common members of two spans have a basis, as long as the meet's dimension
pub basis_of_meet : (us vs : List ℕ) → (ws : List ℕ) × IsBasisOfMeet us vs ws × (meet_dimension us vs ≡ length ws)
basis_of_meet us vs =
    let m = meets us vs in
    let basis : IsBasisOfMeet us vs m.0 = record {
      independent = m.1.independent;
      spans = λ x. same_bool _ _ (λ k. and_from _ _ (m.1.in_both x k).0 (m.1.in_both x k).1) (λ k. let both = and_parts _ _ k in m.1.all x both.0 both.1);
    } in
    (m.0, basis, omega (arith, m.1.count))

-- dim(U + V) + dim(U ∩ V) is dim U + dim V
pub sum_and_meet_dimension : (us vs : List ℕ) → sum_dimension us vs + meet_dimension us vs ≡ dimension us + dimension vs
sum_and_meet_dimension us vs = omega (arith, (meets us vs).1.count)

-- dim(U + V) is at most dim U + dim V
pub sum_dimension-le : (us vs : List ℕ) → sum_dimension us vs ≤ dimension us + dimension vs
sum_dimension-le us vs = omega (arith, sum_and_meet_dimension us vs)

-- and at least each
pub dimension-le_sum_left : (us vs : List ℕ) → dimension us ≤ sum_dimension us vs
dimension-le_sum_left us vs = dimension-le_within us (us ++ vs) (in_span-append_left us vs)

pub dimension-le_sum_right : (us vs : List ℕ) → dimension vs ≤ sum_dimension us vs
dimension-le_sum_right us vs = dimension-le_within vs (us ++ vs) (in_span-append_right us vs)

-- rows that span just the common members have the meet's dimension
pub meet_dimension_of_common : (us vs ws : List ℕ) → ((x : ℕ) → in_span ws x ≡ (in_span us x && in_span vs x)) → dimension ws ≡ meet_dimension us vs
meet_dimension_of_common us vs ws h =
    let m = basis_of_meet us vs in
    omega (arith, dimension-same_span ws m.0 (λ x. h x ∙ sym (m.1.spans x)), m.1.independent, m.2)

-- a span inside two others has the dimension of their meet at most
pub dimension-le_meet : (us vs ws : List ℕ) → ((x : ℕ) → in_span ws x ≡ true → in_span us x ≡ true) → ((x : ℕ) → in_span ws x ≡ true → in_span vs x ≡ true) → dimension ws ≤ meet_dimension us vs
dimension-le_meet us vs ws in_us in_vs =
    let m = meets us vs in
    omega (arith, dimension-le_within ws m.0 (λ x k. m.1.all x (in_us x k) (in_vs x k)), m.1.independent, m.1.count)
