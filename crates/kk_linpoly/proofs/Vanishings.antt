-- The vanishing polynomial of some points: one point more takes V to V^2 + V(p)·V.
use Rattle.std.proofs.Common.{◌≡◌, ℕ, zero, suc, ◌+◌, ◌^◌, ◌<◌, true, List, [], ◌∷◌, ◌++◌, Some, length, take, get_or, bit_xor, refl, sym, ap, ◌∙◌, arith, subst, inl, inr, length-append}
use Rattle.std.specs.Prelude.{slice_index, All}
use Rattle.std.proofs.Math.Numerals.{add-one}
use Rattle.std.proofs.lemmas.Bool.{cases_Bool, cases_lt}
use Rattle.std.proofs.lemmas.List.Elements.{All-nil, All-push, All-more, All-weaker}
use Rattle.std.specs.Int.Bits.{xor_zero_r, xor_self}
use Rattle.kk_field.specs.Polynomial.{IsIrreducible}
use Rattle.kk_field.specs.Field.{Modulus, polynomial, field_product}
use Rattle.kk_field.proofs.Residues.{field_product-zero, field_product-one}
use Rattle.kk_rows.specs.Span.{in_span, IsIndependent}
use Rattle.kk_rows.proofs.Spans.{in_span-least}
use Rattle.kk_rows.proofs.Independence.{independent-push}
use Rattle.kk_linpoly.specs.LinPoly.{IsOver, IsMonic, value, trimmed, with_first, degree, degree_with_first, sum_of, scaled, squared_up, raised}
use Rattle.kk_linpoly.specs.Laws.{VanishesAt}
use Rattle.kk_linpoly.proofs.Stored.{SamePolynomial-sum_of}
use Rattle.kk_linpoly.proofs.Trimmed.{SamePolynomial-trimmed, trimmed-same, slice_index-trimmed, length-trimmed_of_degree, All-trimmed}
use Rattle.kk_linpoly.proofs.Coefficients.{slice_index-sum_of, slice_index-scaled, slice_index-squares, IsOver-sum_of, IsOver-scaled, IsOver-squared_up}
use Rattle.kk_linpoly.proofs.Values.{value-sum_of, value-scaled, value-squared_up, value-trimmed, value-xor, value-zero}
use Rattle.kk_linpoly.proofs.DegreeLaws.{degree-leads, leads_from_degree}
use Rattle.kk_linpoly.proofs.Roots.{few_roots, same_from_values}

-- v is monic of degree i, and is 0 at the first i of the points
pub record Vanishes (f : Modulus) (points : List ℕ) (i : ℕ) (v : List ℕ) : Type 0 where
  pub over : IsOver f.degree v
  pub monic : IsMonic v i
  pub count : length v ≡ i + 1
  pub zeros : VanishesAt f v (take i points)

pub trimmed-one : trimmed (1 ∷ []) ≡ 1 ∷ []
unfolding trimmed with_first
trimmed-one = refl

-- its parts may be without zeros at the end
pub trimmed-raised : (f : Modulus) (d : ℕ) (cs : List ℕ) → trimmed (raised f d cs) ≡ trimmed (sum_of (trimmed (squared_up f cs)) (trimmed (scaled f d cs)))
trimmed-raised f d cs =
    sym (trimmed-same (sum_of (trimmed (squared_up f cs)) (trimmed (scaled f d cs))) (raised f d cs)
    (SamePolynomial-sum_of (trimmed (squared_up f cs)) (squared_up f cs) (trimmed (scaled f d cs)) (scaled f d cs)
    (SamePolynomial-trimmed (squared_up f cs)) (SamePolynomial-trimmed (scaled f d cs))))

-- X is 0 at no points
pub Vanishes-none : (f : Modulus) → 1 < 2 ^ f.degree → (points v : List ℕ) → v ≡ 1 ∷ [] → Vanishes f points 0 v
unfolding degree degree_with_first
Vanishes-none f one points v e =
    subst (Vanishes f points 0) (sym e)
    (record {
      over = λ k d less. (let here : k ≡ 0 = omega (arith, less) in subst (λ k. get_or (1 ∷ []) k d < 2 ^ f.degree) (sym here) one);
      monic = record { degree_is = refl; leads = refl };
      count = refl;
      zeros = All-nil (λ p. value f (1 ∷ []) p ≡ 0);
    })

module _ (f : Modulus) (h : f.low < 2 ^ f.degree) where
  -- the value of the square plus a multiple
  pub value-raised : (v : List ℕ) (at x : ℕ)
      → value f (raised f at v) x ≡ bit_xor (field_product f (value f v x) (value f v x)) (field_product f at (value f v x))
  value-raised v at x =
      value-sum_of f h (squared_up f v) (scaled f at v) x
      ∙ ap (λ y. bit_xor y (value f (scaled f at v) x)) (value-squared_up f h v x)
      ∙ ap (bit_xor (field_product f (value f v x) (value f v x))) (value-scaled f h at v x)

  -- and its coefficients
  pub slice_index-raised : (v : List ℕ) (at k : ℕ)
      → slice_index (raised f at v) (suc k) ≡ bit_xor (field_product f (slice_index v k) (slice_index v k)) (field_product f at (slice_index v (suc k)))
  slice_index-raised v at k =
      slice_index-sum_of (squared_up f v) (scaled f at v) (suc k)
      ∙ ap (λ y. bit_xor y (slice_index (scaled f at v) (suc k))) (slice_index-squares f h v k)
      ∙ ap (bit_xor (field_product f (slice_index v k) (slice_index v k))) (slice_index-scaled f h at v (suc k))

  pub IsOver-raised : (v : List ℕ) (at : ℕ) → IsOver f.degree (raised f at v)
  IsOver-raised v at =
      IsOver-sum_of f.degree (squared_up f v) (scaled f at v) (IsOver-squared_up f h v) (IsOver-scaled f h at v)

module _ (f : Modulus) (h : f.low < 2 ^ f.degree) (one : 1 < 2 ^ f.degree) where
  next_leading : (v : List ℕ) (at i : ℕ) → IsMonic v i → slice_index (raised f at v) (suc i) ≡ 1
  next_leading v at i monic =
      let leads = leads_from_degree v i monic.degree_is in
      slice_index-raised f h v at i
      ∙ ap (λ c. bit_xor (field_product f c c) (field_product f at (slice_index v (suc i)))) monic.leads
      ∙ ap (λ c. bit_xor (field_product f 1 1) (field_product f at c)) (leads.past (suc i) (omega arith))
      ∙ ap (bit_xor (field_product f 1 1)) (field_product-zero f h at)
      ∙ xor_zero_r (field_product f 1 1) ∙ field_product-one f h 1 one

  next_past : (v : List ℕ) (at i : ℕ) → IsMonic v i → (k : ℕ) → suc i < k → slice_index (raised f at v) k ≡ 0
  next_past v at i monic zero more = absurd (omega arith)
  next_past v at i monic (suc k) more =
      let leads = leads_from_degree v i monic.degree_is in
      slice_index-raised f h v at k
      ∙ ap (λ c. bit_xor (field_product f c c) (field_product f at (slice_index v (suc k)))) (leads.past k (omega arith))
      ∙ ap (λ c. bit_xor (field_product f 0 0) (field_product f at c)) (leads.past (suc k) (omega arith))
      ∙ ap (λ x. bit_xor x (field_product f at 0)) (field_product-zero f h 0)
      ∙ ap (bit_xor 0) (field_product-zero f h at)

  degree-next : (v : List ℕ) (at i : ℕ) → IsMonic v i → degree (raised f at v) ≡ Some (suc i)
  degree-next v at i monic =
      degree-leads (raised f at v) (suc i)
      (record { leading = λ e. omega (arith, next_leading v at i monic, e); past = next_past v at i monic })

  -- one point more
  pub Vanishes-more : (points : List ℕ) (i at : ℕ) (v w : List ℕ) → i < length points → Vanishes f points i v → at ≡ value f v (slice_index points i)
      → w ≡ trimmed (raised f at v) → Vanishes f points (i + 1) w
  Vanishes-more points i at v w within was at_is w_is =
      let n = raised f at v in
      let P : ℕ → Type 0 = λ p. value f w p ≡ 0 in
      let degree_is = degree-next v at i was.monic in
      let value_is : (x : ℕ) → value f w x ≡ bit_xor (field_product f (value f v x) (value f v x)) (field_product f at (value f v x)) =
      λ x. ap (λ l. value f l x) w_is ∙ value-trimmed f h n x ∙ value-raised f h v at x in
      subst (λ k. Vanishes f points k w) (sym (add-one i))
      (record {
        over = subst (IsOver f.degree) (sym w_is)
            (All-trimmed (λ c. c < 2 ^ f.degree) n (IsOver-raised f h v at));
        monic = record {
          degree_is = ap degree w_is ∙ degree-leads (trimmed n) (suc i)
              (record {
                leading = λ e. omega (arith, next_leading v at i was.monic, sym (slice_index-trimmed n (suc i)) ∙ e);
                past = λ k more. slice_index-trimmed n k ∙ next_past v at i was.monic k more;
              });
          leads = ap (λ l. slice_index l (suc i)) w_is ∙ slice_index-trimmed n (suc i) ∙ next_leading v at i was.monic;
        };
        count = omega (arith, ap length w_is, length-trimmed_of_degree n (suc i) degree_is);
        zeros =
            let older = All-weaker (λ p. value f v p ≡ 0) P
            (λ x none. value_is x ∙ ap (λ y. bit_xor (field_product f y y) (field_product f at y)) none
            ∙ ap (λ y. bit_xor y (field_product f at 0)) (field_product-zero f h 0)
            ∙ ap (bit_xor 0) (field_product-zero f h at)) (take i points) was.zeros in
            let p = slice_index points i in
            let here : value f w p ≡ 0 =
            value_is p ∙ ap (λ y. bit_xor (field_product f (value f v p) (value f v p)) (field_product f y (value f v p))) at_is
            ∙ xor_self (field_product f (value f v p) (value f v p)) in
            subst (λ k. All P (take k points)) (add-one i) (All-more P points i 0 within older here);
      })

-- ---- the zeros of a polynomial that is 0 at as many independent points as its degree says

module _ (f : Modulus) (h : f.low < 2 ^ f.degree) where
  -- they hold the span
  pub zeros_hold_span : (cs points : List ℕ) → VanishesAt f cs points → (x : ℕ) → in_span points x ≡ true → value f cs x ≡ 0
  zeros_hold_span cs points zeros x inside =
      in_span-least (λ y. value f cs y ≡ 0) (value-zero f h cs)
      (λ a b za zb. value-xor f h cs a b ∙ ap (λ y. bit_xor y (value f cs b)) za ∙ ap (bit_xor 0) zb) points zeros x inside

module _ (f : Modulus) (h : f.low < 2 ^ f.degree) (irreducible : IsIrreducible (polynomial f)) where
  -- and nothing else
  pub zeros_in_span : (cs points : List ℕ) → IsOver f.degree cs → degree cs ≡ Some (length points) → All (λ p. p < 2 ^ f.degree) points → IsIndependent points
      → VanishesAt f cs points → (x : ℕ) → x < 2 ^ f.degree → value f cs x ≡ 0 → in_span points x ≡ true
  zeros_in_span cs points over degree_is below independent zeros x x_below none =
      elim (cases_Bool (in_span points x)) [
        | inl inside ↦ inside
        | inr outside ↦
            let more = points ++ x ∷ [] in
            let few = few_roots f h irreducible cs more (length points) over degree_is
            (All-push (λ p. p < 2 ^ f.degree) points x below x_below)
            (independent-push points x independent outside)
            (All-push (λ p. value f cs p ≡ 0) points x zeros none) in
            absurd (omega (arith, few, length-append points (x ∷ [])))
      ]

  pub one_vanishing : (cs ds points : List ℕ) → IsOver f.degree cs → IsOver f.degree ds → All (λ p. p < 2 ^ f.degree) points → IsIndependent points
      → IsMonic cs (length points) → IsMonic ds (length points) → VanishesAt f cs points → VanishesAt f ds points → trimmed cs ≡ trimmed ds
  one_vanishing cs ds points c_over d_over below independent c_monic d_monic c_zeros d_zeros =
      let s = length points in
      let c_leads = leads_from_degree cs s c_monic.degree_is in
      let d_leads = leads_from_degree ds s d_monic.degree_is in
      trimmed-same cs ds
      (same_from_values f h irreducible cs ds points c_over d_over below independent
      (λ k d less. c_zeros k d less ∙ sym (d_zeros k d less))
      (λ k from. elim (cases_lt s k) [
        | inl more ↦ c_leads.past k more ∙ sym (d_leads.past k more)
        | inr least ↦ let here : k ≡ s = omega arith in
            ap (slice_index cs) here ∙ c_monic.leads ∙ sym d_monic.leads ∙ sym (ap (slice_index ds) here)
      ]))
