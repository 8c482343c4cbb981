-- What one point does to the two polynomials.
use Rattle.std.proofs.Common.{◌≡◌, ◌≢◌, ℕ, suc, ◌+◌, ◌^◌, ◌<◌, ◌≤◌, ◌↔◌, IsTrue, Bool, true, false, List, length, bit_xor, sym, ap, ap₂, ◌∙◌, arith, inl, inr}
use Rattle.std.specs.Prelude.{slice_index}
use Rattle.std.proofs.lemmas.Bool.{cases_lt}
use Rattle.std.specs.Int.Bits.{xor_self, xor_comm, xor_zero_l, xor_zero_r, xor_lt}
use Rattle.kk_field.specs.Polynomial.{IsIrreducible}
use Rattle.kk_field.specs.Field.{Modulus, polynomial, field_product}
use Rattle.kk_field.proofs.Sums.{xor_xor_swap}
use Rattle.kk_field.proofs.Fields.{no_zero_divisors_of_residues}
use Rattle.kk_field.proofs.Residues.{field_product-below, field_product_assoc, field_product_left_comm, xor-field_product, field_product-zero, field_product_comm, field_product-xor, square-xor_residues}
use Rattle.kk_linpoly.specs.LinPoly.{value}
use Rattle.kk_interp.specs.declared.bi_poly.BiPoly.{BiPoly}
use Rattle.kk_interp.specs.BiPoly.{value_at}
use Rattle.kk_interp.specs.Pair.{IsPair, AreApart, cross}
use Rattle.kk_interp.specs.Steps.{grown, raised_value, combined_value, IsRaisedPart, IsRaised, IsCombinedPart, IsCombined, AreZero, Cancels}
use Rattle.kk_interp.proofs.PartSums.{grown-zero, grown-positive}

-- a test that failed
pub at_least_from_false : (a b : ℕ) (test : Bool) → IsTrue test ↔ (a < b) → test ≡ false → b ≤ a
at_least_from_false a b test h failed =
    elim (cases_lt a b) [
      | inl less ↦ let yes : test ≡ true = h.1 less in cc
      | inr more ↦ more
    ]

-- ---- lengths

pub IsPair-raise_x : (f : Modulus) (k points d : ℕ) (q g new : BiPoly) → IsRaised f d q new → IsPair f k points q g → IsPair f k (points + 1) new g
IsPair-raise_x f k points d q g new h pair =
    let long : length new.qx ≡ suc (length q.qx) = h.grows_x ∙ grown-positive (length q.qx) pair.x_leads in
    record {
      x_of_field = h.of_field;
      y_of_field = pair.y_of_field;
      x_leads = omega arith;
      x_leads_over_y = λ some. elim (cases_lt 0 (length q.qy)) [
        | inl positive ↦ let grows : length new.qy ≡ suc (length q.qy) = h.grows_y ∙ grown-positive (length q.qy) positive in
            let over = pair.x_leads_over_y positive in omega arith
        | inr none ↦
            let zero_y : length q.qy ≡ 0 = omega arith in
            let none_y : length new.qy ≡ 0 = h.grows_y ∙ ap grown zero_y ∙ grown-zero in
            absurd (omega arith)
      ];
      y_leads = pair.y_leads;
      y_leads_over_x = pair.y_leads_over_x;
      weights = let weights = pair.weights in omega arith;
    }

pub IsPair-raise_y : (f : Modulus) (k points d : ℕ) (q g new : BiPoly) → IsRaised f d g new → IsPair f k points q g → IsPair f k (points + 1) q new
IsPair-raise_y f k points d q g new h pair =
    let long : length new.qy ≡ suc (length g.qy) = h.grows_y ∙ grown-positive (length g.qy) pair.y_leads in
    record {
      x_of_field = pair.x_of_field;
      y_of_field = h.of_field;
      x_leads = pair.x_leads;
      x_leads_over_y = pair.x_leads_over_y;
      y_leads = omega arith;
      y_leads_over_x = let less = pair.y_leads_over_x in elim (cases_lt 0 (length g.qx)) [
        | inl positive ↦ let grows : length new.qx ≡ suc (length g.qx) = h.grows_x ∙ grown-positive (length g.qx) positive in omega arith
        | inr none ↦
            let zero_x : length g.qx ≡ 0 = omega arith in
            let none_x : length new.qx ≡ 0 = h.grows_x ∙ ap grown zero_x ∙ grown-zero in omega arith
      ];
      weights = let weights = pair.weights in omega arith;
    }

-- the greater polynomial keeps its leading term where a multiple of the lesser is added
pub IsPair-combine_y : (f : Modulus) (k points a b : ℕ) (q g new : BiPoly) → IsCombined f a q b g new → length q.qx < length g.qy + k
    → IsPair f k points q g → IsPair f k points q new
IsPair-combine_y f k points a b q g new h less pair =
    let shorter : length q.qy < length g.qy = elim (cases_lt 0 (length q.qy)) [
      | inl positive ↦ let over = pair.x_leads_over_y positive in omega arith
      | inr none ↦ let leads = pair.y_leads in omega arith
    ] in
    let same : length new.qy ≡ length g.qy = h.y.right shorter in
    let y_leads = pair.y_leads in
    let over = pair.y_leads_over_x in
    let bound : length new.qx < length g.qy + k =
    elim (cases_lt (length new.qx) (length g.qy + k)) [
      | inl fine ↦ fine
      | inr more ↦ elim (cases_lt (length q.qx) (length g.qx)) [
        | inl lt ↦ absurd (omega (arith, h.x.at_most (length g.qx) (omega arith) (omega arith)))
        | inr ge ↦ absurd (omega (arith, h.x.at_most (length q.qx) (omega arith) ge))
      ]
    ] in
    record {
      x_of_field = pair.x_of_field;
      y_of_field = record { x = h.x.part; y = h.y.part };
      x_leads = pair.x_leads;
      x_leads_over_y = pair.x_leads_over_y;
      y_leads = omega arith;
      y_leads_over_x = omega arith;
      weights = let weights = pair.weights in omega arith;
    }

pub IsPair-combine_x : (f : Modulus) (k points a b : ℕ) (q g new : BiPoly) → IsCombined f a q b g new → length g.qy + k ≤ length q.qx
    → IsPair f k points q g → IsPair f k points new g
IsPair-combine_x f k points a b q g new h more pair =
    let over = pair.y_leads_over_x in
    let shorter : length g.qx < length q.qx = omega arith in
    let same : length new.qx ≡ length q.qx = h.x.left shorter in
    let leads = pair.x_leads in
    let y_leads = pair.y_leads in
    let over_y : (n : ℕ) → length q.qy ≤ n → length g.qy ≤ n → length new.qy ≤ n = h.y.at_most in
    record {
      x_of_field = record { x = h.x.part; y = h.y.part };
      y_of_field = pair.y_of_field;
      x_leads = omega arith;
      x_leads_over_y = λ some. elim (cases_lt (length q.qy) (length g.qy)) [
        | inl lt ↦ omega (arith, over_y (length g.qy) (omega arith) (omega arith))
        | inr ge ↦ elim (cases_lt 0 (length q.qy)) [
          | inl positive ↦ omega (arith, over_y (length q.qy) (omega arith) ge, pair.x_leads_over_y positive)
          | inr none ↦ absurd (omega arith)
        ]
      ];
      y_leads = pair.y_leads;
      y_leads_over_x = pair.y_leads_over_x;
      weights = let weights = pair.weights in omega arith;
    }

pub IsPair-more : (f : Modulus) (k points : ℕ) (q g : BiPoly) → IsPair f k points q g → IsPair f k (points + 1) q g
IsPair-more f k points q g pair =
    let weights = pair.weights in
    record {
      x_of_field = pair.x_of_field;
      y_of_field = pair.y_of_field;
      x_leads = pair.x_leads;
      x_leads_over_y = pair.x_leads_over_y;
      y_leads = pair.y_leads;
      y_leads_over_x = pair.y_leads_over_x;
      weights = omega arith;
    }

-- ---- values

-- the order of a sum makes no difference
combined_value-sym : (f : Modulus) (a v b w : ℕ) → combined_value f a v b w ≡ combined_value f b w a v
combined_value-sym f a v b w = xor_comm (field_product f a v) (field_product f b w)

IsCombinedPart-sym : (f : Modulus) (a : ℕ) (cs : List ℕ) (b : ℕ) (ds new : List ℕ) → IsCombinedPart f a cs b ds new → IsCombinedPart f b ds a cs new
IsCombinedPart-sym f a cs b ds new h = record {
  part = h.part;
  left = h.right;
  right = h.left;
  at_most = λ n d_short c_short. h.at_most n c_short d_short;
  first = h.first ∙ combined_value-sym f a (slice_index cs 0) b (slice_index ds 0);
  values = λ x. h.values x ∙ combined_value-sym f a (value f cs x) b (value f ds x);
}

pub IsCombined-sym : (f : Modulus) (a : ℕ) (q : BiPoly) (b : ℕ) (g new : BiPoly) → IsCombined f a q b g new → IsCombined f b g a q new
IsCombined-sym f a q b g new h = record {
  x = IsCombinedPart-sym f a q.qx b g.qx new.qx h.x;
  y = IsCombinedPart-sym f a q.qy b g.qy new.qy h.y;
}

module _ (f : Modulus) (h : f.low < 2 ^ f.degree) where
  -- the two parts together
  pub raised_value-xor : (d v w : ℕ) → bit_xor (raised_value f d v) (raised_value f d w) ≡ raised_value f d (bit_xor v w)
  raised_value-xor d v w =
      xor_xor_swap (field_product f v v) (field_product f d v) (field_product f w w) (field_product f d w)
      ∙ ap (λ x. bit_xor x (bit_xor (field_product f d v) (field_product f d w))) (sym (square-xor_residues f h v w))
      ∙ ap (bit_xor (field_product f (bit_xor v w) (bit_xor v w))) (sym (field_product-xor f h d v w))

  pub combined_value-xor : (a b v w v' w' : ℕ)
      → bit_xor (combined_value f a v b w) (combined_value f a v' b w') ≡ combined_value f a (bit_xor v v') b (bit_xor w w')
  combined_value-xor a b v w v' w' =
      xor_xor_swap (field_product f a v) (field_product f b w) (field_product f a v') (field_product f b w')
      ∙ ap (λ x. bit_xor x (bit_xor (field_product f b w) (field_product f b w'))) (sym (field_product-xor f h a v v'))
      ∙ ap (bit_xor (field_product f a (bit_xor v v'))) (sym (field_product-xor f h b w w'))

  raised_value-same : (d : ℕ) → raised_value f d d ≡ 0
  raised_value-same d = xor_self (field_product f d d)

  raised_value-zero : (d : ℕ) → raised_value f d 0 ≡ 0
  raised_value-zero d = ap (λ x. bit_xor x (field_product f d 0)) (field_product-zero f h 0) ∙ ap (bit_xor 0) (field_product-zero f h d)

  combined_value-cancels : (v w : ℕ) → combined_value f w v v w ≡ 0
  combined_value-cancels v w = ap (λ x. bit_xor x (field_product f v w)) (field_product_comm f h w v) ∙ xor_self (field_product f v w)

  combined_value-zero : (a b : ℕ) → combined_value f a 0 b 0 ≡ 0
  combined_value-zero a b = ap (λ x. bit_xor x (field_product f b 0)) (field_product-zero f h a) ∙ ap (bit_xor 0) (field_product-zero f h b)

  pub IsRaised-parts : (d : ℕ) (q new : BiPoly) → IsRaisedPart f d q.qx new.qx → IsRaisedPart f d q.qy new.qy → IsRaised f d q new
  IsRaised-parts d q new x y = record {
    of_field = record { x = x.part; y = y.part };
    grows_x = x.grows;
    grows_y = y.grows;
    first_x = x.first;
    first_y = y.first;
    values = λ u v. ap (λ z. bit_xor z (value f new.qy v)) (x.values u) ∙ ap (bit_xor (raised_value f d (value f q.qx u))) (y.values v)
        ∙ raised_value-xor d (value f q.qx u) (value f q.qy v);
  }

  combined_at : (a b : ℕ) (q g new : BiPoly) → IsCombined f a q b g new → (x y : ℕ)
      → value_at f new.qx new.qy x y ≡ combined_value f a (value_at f q.qx q.qy x y) b (value_at f g.qx g.qy x y)
  combined_at a b q g new c x y =
      ap (λ z. bit_xor z (value f new.qy y)) (c.x.values x)
      ∙ ap (bit_xor (combined_value f a (value f q.qx x) b (value f g.qx x))) (c.y.values y)
      ∙ combined_value-xor a b (value f q.qx x) (value f g.qx x) (value f q.qy y) (value f g.qy y)

-- ---- the terms of x and of y

module _ (f : Modulus) (h : f.low < 2 ^ f.degree) where
  det_scaled_left : (v a0 a1 b0 b1 : ℕ) → bit_xor (field_product f (field_product f v a0) b1) (field_product f (field_product f v a1) b0)
      ≡ field_product f v (bit_xor (field_product f a0 b1) (field_product f a1 b0))
  det_scaled_left v a0 a1 b0 b1 =
      ap₂ bit_xor (field_product_assoc f h v a0 b1) (field_product_assoc f h v a1 b0)
      ∙ sym (field_product-xor f h v (field_product f a0 b1) (field_product f a1 b0))

  det_scaled_right : (w a0 a1 b0 b1 : ℕ) → bit_xor (field_product f a0 (field_product f w b1)) (field_product f a1 (field_product f w b0))
      ≡ field_product f w (bit_xor (field_product f a0 b1) (field_product f a1 b0))
  det_scaled_right w a0 a1 b0 b1 =
      ap₂ bit_xor (field_product_left_comm f h a0 w b1) (field_product_left_comm f h a1 w b0)
      ∙ sym (field_product-xor f h w (field_product f a0 b1) (field_product f a1 b0))

  det_combined_right : (w v a0 a1 b0 b1 : ℕ) → bit_xor (field_product f a0 (combined_value f w a1 v b1)) (field_product f a1 (combined_value f w a0 v b0))
      ≡ field_product f v (bit_xor (field_product f a0 b1) (field_product f a1 b0))
  det_combined_right w v a0 a1 b0 b1 =
      let x = field_product f a0 (field_product f w a1) in
      let z = field_product f a1 (field_product f w a0) in
      let y = field_product f a0 (field_product f v b1) in
      let t = field_product f a1 (field_product f v b0) in
      let same : x ≡ z = field_product_left_comm f h a0 w a1 ∙ ap (field_product f w) (field_product_comm f h a0 a1) ∙ sym (field_product_left_comm f h a1 w a0) in
      ap₂ bit_xor (field_product-xor f h a0 (field_product f w a1) (field_product f v b1)) (field_product-xor f h a1 (field_product f w a0) (field_product f v b0))
      ∙ xor_xor_swap x y z t ∙ ap (λ s. bit_xor (bit_xor s z) (bit_xor y t)) same ∙ ap (λ s. bit_xor s (bit_xor y t)) (xor_self z)
      ∙ xor_zero_l (bit_xor y t) ∙ det_scaled_right v a0 a1 b0 b1

  det_combined_left : (w v a0 a1 b0 b1 : ℕ) → bit_xor (field_product f (combined_value f w a0 v b0) b1) (field_product f (combined_value f w a1 v b1) b0)
      ≡ field_product f w (bit_xor (field_product f a0 b1) (field_product f a1 b0))
  det_combined_left w v a0 a1 b0 b1 =
      let x = field_product f (field_product f w a0) b1 in
      let z = field_product f (field_product f w a1) b0 in
      let y = field_product f (field_product f v b0) b1 in
      let t = field_product f (field_product f v b1) b0 in
      let same : y ≡ t = field_product_assoc f h v b0 b1 ∙ ap (field_product f v) (field_product_comm f h b0 b1) ∙ sym (field_product_assoc f h v b1 b0) in
      ap₂ bit_xor (xor-field_product f h (field_product f w a0) (field_product f v b0) b1) (xor-field_product f h (field_product f w a1) (field_product f v b1) b0)
      ∙ xor_xor_swap x y z t ∙ ap (λ s. bit_xor (bit_xor x z) (bit_xor s t)) same ∙ ap (bit_xor (bit_xor x z)) (xor_self t)
      ∙ xor_zero_r (bit_xor x z) ∙ det_scaled_left w a0 a1 b0 b1

module _ (f : Modulus) (h : f.low < 2 ^ f.degree) (irreducible : IsIrreducible (polynomial f)) where
  -- a determinant times a factor other than 0 is none that is 0
  still_apart : (d : ℕ) (q g q' g' : BiPoly) → d < 2 ^ f.degree → d ≢ 0 → cross f q' g' ≡ field_product f d (cross f q g) → AreApart f q g → AreApart f q' g'
  still_apart d q g q' g' below some multiple a = record {
    apart = λ none. a.apart
        (no_zero_divisors_of_residues f h irreducible d (cross f q g) below (omega (arith, some))
        (xor_lt f.degree (field_product f (slice_index q.qx 0) (slice_index g.qy 0)) (field_product f (slice_index q.qy 0) (slice_index g.qx 0))
        (field_product-below f h (slice_index q.qx 0) (slice_index g.qy 0)) (field_product-below f h (slice_index q.qy 0) (slice_index g.qx 0)))
        (sym multiple ∙ none));
  }

  AreApart-raise_x : (d : ℕ) (q g new : BiPoly) → d < 2 ^ f.degree → d ≢ 0 → IsRaised f d q new → AreApart f q g → AreApart f new g
  AreApart-raise_x d q g new below some r =
      still_apart d q g new g below some
      (ap₂ (λ s t. bit_xor (field_product f s (slice_index g.qy 0)) (field_product f t (slice_index g.qx 0))) r.first_x r.first_y
      ∙ det_scaled_left f h d (slice_index q.qx 0) (slice_index q.qy 0) (slice_index g.qx 0) (slice_index g.qy 0))

  AreApart-raise_y : (d : ℕ) (q g new : BiPoly) → d < 2 ^ f.degree → d ≢ 0 → IsRaised f d g new → AreApart f q g → AreApart f q new
  AreApart-raise_y d q g new below some r =
      still_apart d q g q new below some
      (ap₂ (λ s t. bit_xor (field_product f (slice_index q.qx 0) s) (field_product f (slice_index q.qy 0) t)) r.first_y r.first_x
      ∙ det_scaled_right f h d (slice_index q.qx 0) (slice_index q.qy 0) (slice_index g.qx 0) (slice_index g.qy 0))

  AreApart-combine_y : (w v : ℕ) (q g new : BiPoly) → v < 2 ^ f.degree → v ≢ 0 → IsCombined f w q v g new → AreApart f q g → AreApart f q new
  AreApart-combine_y w v q g new below some c =
      still_apart v q g q new below some
      (ap₂ (λ s t. bit_xor (field_product f (slice_index q.qx 0) s) (field_product f (slice_index q.qy 0) t)) c.y.first c.x.first
      ∙ det_combined_right f h w v (slice_index q.qx 0) (slice_index q.qy 0) (slice_index g.qx 0) (slice_index g.qy 0))

  AreApart-combine_x : (w v : ℕ) (q g new : BiPoly) → w < 2 ^ f.degree → w ≢ 0 → IsCombined f w q v g new → AreApart f q g → AreApart f new g
  AreApart-combine_x w v q g new below some c =
      still_apart w q g new g below some
      (ap₂ (λ s t. bit_xor (field_product f s (slice_index g.qy 0)) (field_product f t (slice_index g.qx 0))) c.x.first c.y.first
      ∙ det_combined_left f h w v (slice_index q.qx 0) (slice_index q.qy 0) (slice_index g.qx 0) (slice_index g.qy 0))

  -- ---- the four cases of a point

  pub Cancels-none : (k : ℕ) (q g : BiPoly) → Cancels f k 0 0 q g q g
  Cancels-none k q g = record {
    pair = λ points. IsPair-more f k points q g;
    apart = λ a. a;
    here = λ x y at_q at_g. record { first = at_q; second = at_g };
    elsewhere = λ x y zeros. zeros;
  }

  pub Cancels-x : (k v : ℕ) (q g new : BiPoly) → v < 2 ^ f.degree → v ≢ 0 → IsRaised f v q new → Cancels f k v 0 q g new g
  Cancels-x k v q g new v_below v_some r = record {
    pair = λ points. IsPair-raise_x f k points v q g new r;
    apart = AreApart-raise_x v q g new v_below v_some r;
    here = λ x y at_q at_g. record { first = r.values x y ∙ ap (raised_value f v) at_q ∙ raised_value-same f h v; second = at_g };
    elsewhere = λ x y zeros. record {
      first = r.values x y ∙ ap (raised_value f v) zeros.first ∙ raised_value-zero f h v;
      second = zeros.second;
    };
  }

  pub Cancels-y : (k w : ℕ) (q g new : BiPoly) → w < 2 ^ f.degree → w ≢ 0 → IsRaised f w g new → Cancels f k 0 w q g q new
  Cancels-y k w q g new w_below w_some r = record {
    pair = λ points. IsPair-raise_y f k points w q g new r;
    apart = AreApart-raise_y w q g new w_below w_some r;
    here = λ x y at_q at_g. record { first = at_q; second = r.values x y ∙ ap (raised_value f w) at_g ∙ raised_value-same f h w };
    elsewhere = λ x y zeros. record {
      first = zeros.first;
      second = r.values x y ∙ ap (raised_value f w) zeros.second ∙ raised_value-zero f h w;
    };
  }

  combined_here : (v w : ℕ) (q g sum : BiPoly) → IsCombined f w q v g sum → (x y : ℕ) → value_at f q.qx q.qy x y ≡ v → value_at f g.qx g.qy x y ≡ w
      → value_at f sum.qx sum.qy x y ≡ 0
  combined_here v w q g sum c x y at_q at_g =
      combined_at f h w v q g sum c x y ∙ ap (λ z. combined_value f w z v (value_at f g.qx g.qy x y)) at_q
      ∙ ap (combined_value f w v v) at_g ∙ combined_value-cancels f h v w

  combined_elsewhere : (v w : ℕ) (q g sum : BiPoly) → IsCombined f w q v g sum → (x y : ℕ) → AreZero f x y q g → value_at f sum.qx sum.qy x y ≡ 0
  combined_elsewhere v w q g sum c x y zeros =
      combined_at f h w v q g sum c x y ∙ ap (λ z. combined_value f w z v (value_at f g.qx g.qy x y)) zeros.first
      ∙ ap (combined_value f w 0 v) zeros.second ∙ combined_value-zero f h w v

  pub Cancels-both_x : (k v w : ℕ) (q g sum new : BiPoly) → v < 2 ^ f.degree → v ≢ 0 → w < 2 ^ f.degree → w ≢ 0 → IsCombined f w q v g sum → length q.qx < length g.qy + k → IsRaised f v q new
      → Cancels f k v w q g new sum
  Cancels-both_x k v w q g sum new v_below v_some w_below w_some c less r = record {
    pair = λ points pair. IsPair-raise_x f k points v q sum new r (IsPair-combine_y f k points w v q g sum c less pair);
    apart = λ a. AreApart-raise_x v q sum new v_below v_some r (AreApart-combine_y w v q g sum v_below v_some c a);
    here = λ x y at_q at_g. record {
      first = r.values x y ∙ ap (raised_value f v) at_q ∙ raised_value-same f h v;
      second = combined_here v w q g sum c x y at_q at_g;
    };
    elsewhere = λ x y zeros. record {
      first = r.values x y ∙ ap (raised_value f v) zeros.first ∙ raised_value-zero f h v;
      second = combined_elsewhere v w q g sum c x y zeros;
    };
  }

  pub Cancels-both_y : (k v w : ℕ) (q g sum new : BiPoly) → v < 2 ^ f.degree → v ≢ 0 → w < 2 ^ f.degree → w ≢ 0 → IsCombined f w q v g sum → length g.qy + k ≤ length q.qx → IsRaised f w g new
      → Cancels f k v w q g sum new
  Cancels-both_y k v w q g sum new v_below v_some w_below w_some c more r = record {
    pair = λ points pair. IsPair-raise_y f k points w sum g new r (IsPair-combine_x f k points w v q g sum c more pair);
    apart = λ a. AreApart-raise_y w sum g new w_below w_some r (AreApart-combine_x w v q g sum w_below w_some c a);
    here = λ x y at_q at_g. record {
      first = combined_here v w q g sum c x y at_q at_g;
      second = r.values x y ∙ ap (raised_value f w) at_g ∙ raised_value-same f h w;
    };
    elsewhere = λ x y zeros. record {
      first = combined_elsewhere v w q g sum c x y zeros;
      second = r.values x y ∙ ap (raised_value f w) zeros.second ∙ raised_value-zero f h w;
    };
  }
