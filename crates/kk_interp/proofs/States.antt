-- The state of an interpolation: its first, the weights of the two polynomials, and what the lesser one is.
use Rattle.std.proofs.Common.{◌≡◌, ◌≢◌, ◌⊎◌, ℕ, zero, suc, ◌+◌, ◌-◌, ◌/◌, ◌^◌, ◌<◌, ◌≤◌, List, [], ◌∷◌, ◌++◌, length, get_or, take, max, cond, length-append, bit_xor, refl, sym, ap, ap₂, ◌∙◌, arith, subst, inl, inr}
use Rattle.std.proofs.lemmas.Bool.{cases_eq, le-leb, lt-leb}
use Rattle.std.specs.Prelude.{slice_index}
use Rattle.std.specs.Int.Bits.{xor_zero_r}
use Rattle.std.proofs.lemmas.List.Elements.{All-nil, All-cons, All-push}
use Rattle.kk_field.specs.Field.{Modulus, field_product}
use Rattle.kk_field.specs.Laws.{IsFieldModulus}
use Rattle.kk_field.proofs.Residues.{one_small, field_product-one, field_product-zero, zero-field_product}
use Rattle.kk_linpoly.specs.LinPoly.{trimmed, with_first, degree}
use Rattle.kk_linpoly.proofs.Trimmed.{degree-some, degree-none}
use Rattle.kk_interp.specs.declared.bi_poly.BiPoly.{BiPoly}
use Rattle.kk_interp.specs.declared.interp.Interp.TheInside.{Inside}
use Rattle.kk_interp.specs.BiPoly.{value_at, IsZeroAt, IsPart, IsOfField, part_weight, weight}
use Rattle.kk_interp.specs.Pair.{IsPair, AreApart, lesser}
use Rattle.kk_interp.specs.State.{State, IsKept}
use Rattle.kk_interp.specs.Steps.{Cancels, AreZero}

-- the state by the fields
abbrev pub state : Inside → State
state a = record {
  modulus = a.field;
  k = a.k;
  points = take a.count a.points;
  count = a.count;
  x_leading = a.x_leading;
  y_leading = a.y_leading;
}

-- ---- weights by lengths

weight_of_length : ℕ → ℕ → ℕ
weight_of_length n zero = 0
weight_of_length n (suc e) = e + n

part_weight-by_length : (m n : ℕ) (cs : List ℕ) (l : ℕ) → IsPart m cs → length cs ≡ l → part_weight n (degree cs) ≡ weight_of_length n l
unfolding part_weight weight_of_length
part_weight-by_length m n cs zero part long = ap (part_weight n) (degree-none cs (ap length part.no_zero_at_end ∙ long))
part_weight-by_length m n cs (suc e) part long = ap (part_weight n) (degree-some cs e (ap length part.no_zero_at_end ∙ long))

weight-by_lengths : (f : Modulus) (k : ℕ) (q : BiPoly) → IsOfField f q.qx q.qy
    → weight k q.qx q.qy ≡ max (weight_of_length 0 (length q.qx)) (weight_of_length (k - 1) (length q.qy))
unfolding weight
weight-by_lengths f k q h =
    ap (λ a. max a (part_weight (k - 1) (degree q.qy))) (part_weight-by_length f.degree 0 q.qx (length q.qx) h.x refl)
    ∙ ap (max (weight_of_length 0 (length q.qx))) (part_weight-by_length f.degree (k - 1) q.qy (length q.qy) h.y refl)

max_x : (k a b : ℕ) → 1 ≤ k → 0 < a → (0 < b → b + k ≤ a) → max (weight_of_length 0 a) (weight_of_length (k - 1) b) + 1 ≡ a
unfolding weight_of_length
max_x k zero b least some over = absurd (omega arith)
max_x k (suc e) zero least some over = omega arith
max_x k (suc e) (suc j) least some over = let more = over (omega arith) in omega arith

max_y : (k a b : ℕ) → 1 ≤ k → 0 < b → a < b + k → max (weight_of_length 0 a) (weight_of_length (k - 1) b) + 2 ≡ b + k
unfolding weight_of_length
max_y k a zero least some over = absurd (omega arith)
max_y k zero (suc j) least some over = omega arith
max_y k (suc e) (suc j) least some over = omega arith

pub weight-x_leading : (f : Modulus) (k points : ℕ) (q g : BiPoly) → 1 ≤ k → IsPair f k points q g → weight k q.qx q.qy + 1 ≡ length q.qx
weight-x_leading f k points q g least pair =
    ap (λ w. w + 1) (weight-by_lengths f k q pair.x_of_field)
    ∙ max_x k (length q.qx) (length q.qy) least pair.x_leads pair.x_leads_over_y

pub weight-y_leading : (f : Modulus) (k points : ℕ) (q g : BiPoly) → 1 ≤ k → IsPair f k points q g → weight k g.qx g.qy + 2 ≡ length g.qy + k
weight-y_leading f k points q g least pair =
    ap (λ w. w + 2) (weight-by_lengths f k g pair.y_of_field)
    ∙ max_y k (length g.qx) (length g.qy) least pair.y_leads pair.y_leads_over_x

-- ---- the lesser polynomial

weight_x : (s : State) → IsKept s → weight s.k s.x_leading.qx s.x_leading.qy + 1 ≡ length s.x_leading.qx
weight_x s h = weight-x_leading s.modulus s.k s.count s.x_leading s.y_leading h.k_at_least h.pair

weight_y : (s : State) → IsKept s → weight s.k s.y_leading.qx s.y_leading.qy + 2 ≡ length s.y_leading.qy + s.k
weight_y s h = weight-y_leading s.modulus s.k s.count s.x_leading s.y_leading h.k_at_least h.pair

pub lesser-x : (s : State) → IsKept s → length s.x_leading.qx < length s.y_leading.qy + s.k → s.x_leading ≡ lesser s.k s.x_leading s.y_leading
unfolding lesser
lesser-x s h less =
    let at_most : weight s.k s.x_leading.qx s.x_leading.qy ≤ weight s.k s.y_leading.qx s.y_leading.qy = omega (arith, weight_x s h, weight_y s h) in
    sym (ap (λ b. cond b s.x_leading s.y_leading) (le-leb (weight s.k s.x_leading.qx s.x_leading.qy) (weight s.k s.y_leading.qx s.y_leading.qy) at_most))

pub lesser-y : (s : State) → IsKept s → length s.y_leading.qy + s.k ≤ length s.x_leading.qx → s.y_leading ≡ lesser s.k s.x_leading s.y_leading
unfolding lesser
lesser-y s h more =
    let less : weight s.k s.y_leading.qx s.y_leading.qy < weight s.k s.x_leading.qx s.x_leading.qy = omega (arith, weight_x s h, weight_y s h) in
    sym (ap (λ b. cond b s.x_leading s.y_leading) (lt-leb (weight s.k s.x_leading.qx s.x_leading.qy) (weight s.k s.y_leading.qx s.y_leading.qy) less))

pub weight-lesser-x : (s : State) → IsKept s → length s.x_leading.qx < length s.y_leading.qy + s.k
    → length s.x_leading.qx - 1 ≡ weight s.k (lesser s.k s.x_leading s.y_leading).qx (lesser s.k s.x_leading s.y_leading).qy
weight-lesser-x s h less =
    let w : length s.x_leading.qx - 1 ≡ weight s.k s.x_leading.qx s.x_leading.qy = omega (arith, weight_x s h) in
    w ∙ ap (λ q. weight s.k q.qx q.qy) (lesser-x s h less)

pub weight-lesser-y : (s : State) → IsKept s → length s.y_leading.qy + s.k ≤ length s.x_leading.qx
    → length s.y_leading.qy + s.k - 2 ≡ weight s.k (lesser s.k s.x_leading s.y_leading).qx (lesser s.k s.x_leading s.y_leading).qy
weight-lesser-y s h more =
    let w : length s.y_leading.qy + s.k - 2 ≡ weight s.k s.y_leading.qx s.y_leading.qy = omega (arith, weight_y s h) in
    w ∙ ap (λ q. weight s.k q.qx q.qy) (lesser-y s h more)

not_nil : (cs : List ℕ) → 0 < length cs → cs ≢ []
not_nil cs some e = let none = ap length e in omega arith

starts_x : (f : Modulus) → f.low < 2 ^ f.degree → (q g : BiPoly) → AreApart f q g → (slice_index q.qx 0 ≢ 0) ⊎ (slice_index q.qy 0 ≢ 0)
starts_x f h q g a =
    elim (cases_eq (slice_index q.qx 0) 0) [
      | inr some ↦ inl some
      | inl x_none ↦ inr (λ y_none. a.apart
          (ap₂ (λ s t. bit_xor (field_product f s (slice_index g.qy 0)) (field_product f t (slice_index g.qx 0))) x_none y_none
          ∙ ap₂ bit_xor (zero-field_product f h (slice_index g.qy 0)) (zero-field_product f h (slice_index g.qx 0)) ∙ xor_zero_r 0))
    ]

starts_y : (f : Modulus) → f.low < 2 ^ f.degree → (q g : BiPoly) → AreApart f q g → (slice_index g.qx 0 ≢ 0) ⊎ (slice_index g.qy 0 ≢ 0)
starts_y f h q g a =
    elim (cases_eq (slice_index g.qx 0) 0) [
      | inr some ↦ inl some
      | inl x_none ↦ inr (λ y_none. a.apart
          (ap₂ (λ s t. bit_xor (field_product f (slice_index q.qx 0) s) (field_product f (slice_index q.qy 0) t)) y_none x_none
          ∙ ap₂ bit_xor (field_product-zero f h (slice_index q.qx 0)) (field_product-zero f h (slice_index q.qy 0)) ∙ xor_zero_r 0))
    ]

-- what is said of the polynomial that is answered
pub record IsLeast (s : State) (q : BiPoly) : Type 0 where
  pub value : q ≡ lesser s.k s.x_leading s.y_leading
  pub of_field : IsOfField s.modulus q.qx q.qy
  pub not_zero : (q.qx ≢ []) ⊎ (q.qy ≢ [])
  pub starts : (slice_index q.qx 0 ≢ 0) ⊎ (slice_index q.qy 0 ≢ 0)
  pub zero_at_points : IsZeroAt s.modulus q.qx q.qy s.points
  pub weight_at_most : weight s.k q.qx q.qy ≤ (length s.points + s.k - 1) / 2

pub IsLeast-x : (s : State) → IsKept s → length s.x_leading.qx < length s.y_leading.qy + s.k → IsLeast s s.x_leading
IsLeast-x s h less = record {
  value = lesser-x s h less;
  of_field = h.pair.x_of_field;
  not_zero = inl (not_nil s.x_leading.qx h.pair.x_leads);
  starts = starts_x s.modulus h.field.modulus.low_below s.x_leading s.y_leading h.apart;
  zero_at_points = h.x_zero;
  weight_at_most = let weights = h.pair.weights in omega (arith, weight_x s h, h.counted);
}

pub IsLeast-y : (s : State) → IsKept s → length s.y_leading.qy + s.k ≤ length s.x_leading.qx → IsLeast s s.y_leading
IsLeast-y s h more = record {
  value = lesser-y s h more;
  of_field = h.pair.y_of_field;
  not_zero = inr (not_nil s.y_leading.qy h.pair.y_leads);
  starts = starts_y s.modulus h.field.modulus.low_below s.x_leading s.y_leading h.apart;
  zero_at_points = h.y_zero;
  weight_at_most = let weights = h.pair.weights in omega (arith, weight_y s h, h.counted);
}

-- ---- the first state, and one point more

pub trimmed_one : trimmed (1 ∷ []) ≡ 1 ∷ []
unfolding trimmed with_first
trimmed_one = refl

pub trimmed_nil : trimmed [] ≡ []
unfolding trimmed
trimmed_nil = refl

first_apart : (f : Modulus) → IsFieldModulus f → (a b c d : List ℕ) → a ≡ 1 ∷ [] → b ≡ [] → d ≡ 1 ∷ []
    → AreApart f (record { qx = a; qy = b }) (record { qx = c; qy = d })
first_apart f field a b c d ea eb ed =
    let h = field.modulus.low_below in
    let x : field_product f (slice_index a 0) (slice_index d 0) ≡ 1 =
    ap₂ (λ s t. field_product f (slice_index s 0) (slice_index t 0)) ea ed ∙ field_product-one f h 1 (one_small f.degree field.modulus.at_least_one) in
    let y : field_product f (slice_index b 0) (slice_index c 0) ≡ 0 =
    ap (λ s. field_product f (slice_index s 0) (slice_index c 0)) eb ∙ zero-field_product f h (slice_index c 0) in
    record { apart = λ none. let e : 1 ≡ 0 = sym (ap₂ bit_xor x y ∙ xor_zero_r 1) ∙ none in omega (arith, e) }

pub IsKept-first : (f : Modulus) (k : ℕ) → IsFieldModulus f → 1 ≤ k → k ≤ 64 → (ps : List (ℕ × ℕ)) → ps ≡ [] → (a b c d : List ℕ)
    → a ≡ trimmed (1 ∷ []) → b ≡ trimmed [] → c ≡ trimmed [] → d ≡ trimmed (1 ∷ []) → IsKept (record {
      modulus = f;
      k = k;
      points = ps;
      count = 0;
      x_leading = record { qx = a; qy = b };
      y_leading = record { qx = c; qy = d };
    })
IsKept-first f k field k_least k_most ps none_given a b c d ea eb ec ed =
    let one : IsPart f.degree (1 ∷ []) = record {
      over = All-cons (λ e. e < 2 ^ f.degree) 1 [] (one_small f.degree field.modulus.at_least_one) (All-nil (λ e. e < 2 ^ f.degree));
      no_zero_at_end = trimmed_one;
    } in
    let none : IsPart f.degree [] = record { over = All-nil (λ e. e < 2 ^ f.degree); no_zero_at_end = trimmed_nil } in
    let part_one : (l : List ℕ) → l ≡ trimmed (1 ∷ []) → IsPart f.degree l = λ l e. subst (IsPart f.degree) (sym (e ∙ trimmed_one)) one in
    let part_none : (l : List ℕ) → l ≡ trimmed [] → IsPart f.degree l = λ l e. subst (IsPart f.degree) (sym (e ∙ trimmed_nil)) none in
    let la : length a ≡ 1 = ap length (ea ∙ trimmed_one) in
    let lb : length b ≡ 0 = ap length (eb ∙ trimmed_nil) in
    let lc : length c ≡ 0 = ap length (ec ∙ trimmed_nil) in
    let ld : length d ≡ 1 = ap length (ed ∙ trimmed_one) in
    let x : BiPoly = record { qx = a; qy = b } in
    let y : BiPoly = record { qx = c; qy = d } in
    record {
      k_at_least = k_least;
      k_at_most = k_most;
      room = omega arith;
      counted = ap length none_given;
      field = field;
      pair = record {
        x_of_field = record { x = part_one a ea; y = part_none b eb };
        y_of_field = record { x = part_none c ec; y = part_one d ed };
        x_leads = omega arith;
        x_leads_over_y = λ some. absurd (omega arith);
        y_leads = omega arith;
        y_leads_over_x = omega arith;
        weights = omega arith;
      };
      apart = first_apart f field a b c d (ea ∙ trimmed_one) (eb ∙ trimmed_nil) (ed ∙ trimmed_one);
      x_zero = subst (IsZeroAt f x.qx x.qy) (sym none_given) (All-nil (λ p. value_at f x.qx x.qy p.0 p.1 ≡ 0));
      y_zero = subst (IsZeroAt f y.qx y.qy) (sym none_given) (All-nil (λ p. value_at f y.qx y.qy p.0 p.1 ≡ 0));
    }

pub IsKept-point : (f : Modulus) (k count x y v w : ℕ) (ps more : List (ℕ × ℕ)) (q g q' g' : BiPoly)
    → v ≡ value_at f q.qx q.qy x y → w ≡ value_at f g.qx g.qy x y → Cancels f k v w q g q' g' → more ≡ ps ++ (x, y) ∷ [] → count + 1 + k ≤ 128
    → IsKept (record { modulus = f; k = k; points = ps; count = count; x_leading = q; y_leading = g })
    → IsKept (record { modulus = f; k = k; points = more; count = count + 1; x_leading = q'; y_leading = g' })
IsKept-point f k count x y v w ps more q g q' g' ev ew c one_more room kept =
    let zeros : (i : ℕ) (d : ℕ × ℕ) → i < length ps → AreZero f (get_or ps i d).0 (get_or ps i d).1 q' g' =
    λ i d within. c.elsewhere (get_or ps i d).0 (get_or ps i d).1 (record { first = kept.x_zero i d within; second = kept.y_zero i d within }) in
    let here = c.here x y (sym ev) (sym ew) in
    record {
      k_at_least = kept.k_at_least;
      k_at_most = kept.k_at_most;
      room = room;
      counted = ap length one_more ∙ omega (arith, kept.counted, length-append ps ((x, y) ∷ []));
      field = kept.field;
      pair = c.pair count kept.pair;
      apart = c.apart kept.apart;
      x_zero = subst (IsZeroAt f q'.qx q'.qy) (sym one_more) (All-push (λ p. value_at f q'.qx q'.qy p.0 p.1 ≡ 0) ps (x, y) (λ i d within. (zeros i d within).first) here.first);
      y_zero = subst (IsZeroAt f g'.qx g'.qy) (sym one_more) (All-push (λ p. value_at f g'.qx g'.qy p.0 p.1 ≡ 0) ps (x, y) (λ i d within. (zeros i d within).second) here.second);
    }
