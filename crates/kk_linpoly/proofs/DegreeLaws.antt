-- Degrees by coefficients, of sums, and over a field of multiples, squares and compositions.
use Rattle.std.proofs.Common.{◌≡◌, ◌≢◌, ℕ, zero, suc, ◌+◌, ◌-◌, ◌^◌, ◌<◌, ◌≤◌, ◌⊎◌, List, [], ◌∷◌, Option, Some, None, length, cond, bit_xor, refl, sym, ap, ◌∙◌, arith, subst, inl, inr}
use Rattle.std.specs.Prelude.{slice_index}
use Rattle.std.proofs.lemmas.Bool.{cases_eq, cases_lt, ne_eqb}
use Rattle.std.proofs.lemmas.List.{get_or_past}
use Rattle.std.specs.Int.Bits.{xor_zero_l, xor_zero_r, xor_self}
use Rattle.kk_field.specs.Polynomial.{IsIrreducible}
use Rattle.kk_field.specs.Field.{Modulus, polynomial, field_product, frobenius}
use Rattle.kk_field.proofs.Residues.{field_product-zero, zero-field_product, frobenius-zero, frobenius-below}
use Rattle.kk_field.proofs.Fields.{no_zero_divisors_of_residues, frobenius_injective}
use Rattle.kk_linpoly.specs.LinPoly.{SamePolynomial, IsOver, degree, degree_with_first, sum_of, scaled, composition, squared_up}
pub use Rattle.kk_linpoly.specs.Laws.{Leads, NoDegreeIsZero}
use Rattle.kk_linpoly.proofs.XorSums.{xor_sum-single}
use Rattle.kk_linpoly.proofs.Coefficients.{coefficient-lt, slice_index-sum_of, slice_index-scaled, slice_index-squares, slice_index-composition, composed-past}

-- ---- the degree by coefficients

degree_zero_first : degree_with_first 0 None ≡ None
unfolding degree_with_first
degree_zero_first = refl

degree_some_first : (c : ℕ) → c ≢ 0 → degree_with_first c None ≡ Some 0
unfolding degree_with_first
degree_some_first c some = ap (λ b. cond b None (Some 0)) (ne_eqb c 0 some)

degree_later : (c e : ℕ) → degree_with_first c (Some e) ≡ Some (suc e)
unfolding degree_with_first
degree_later c e = refl

pub degree-zeros : (cs : List ℕ) → ((i : ℕ) → slice_index cs i ≡ 0) → degree cs ≡ None
unfolding degree
degree-zeros [] none = refl
degree-zeros (c ∷ cs) none =
    ap (degree_with_first c) (degree-zeros cs (λ i. none (suc i))) ∙ ap (λ x. degree_with_first x None) (none 0) ∙ degree_zero_first

pub degree-leads : (cs : List ℕ) (e : ℕ) → Leads cs e → degree cs ≡ Some e
unfolding degree
degree-leads [] e h = absurd (h.leading refl)
degree-leads (c ∷ cs) zero h =
    ap (degree_with_first c) (degree-zeros cs (λ i. h.past (suc i) (omega arith))) ∙ degree_some_first c h.leading
degree-leads (c ∷ cs) (suc e) h =
    ap (degree_with_first c) (degree-leads cs e (record { leading = h.leading; past = λ i more. h.past (suc i) (omega arith) }))
    ∙ degree_later c e

-- each polynomial has a degree or is 0
pub leads_or_zero : (cs : List ℕ) → ((e : ℕ) × Leads cs e) ⊎ ((i : ℕ) → slice_index cs i ≡ 0)
leads_or_zero [] = inr (λ i. refl)
leads_or_zero (c ∷ cs) =
    elim (leads_or_zero cs) [
      | inl w ↦ inl (suc w.0, record { leading = w.1.leading; past = later c cs w.0 w.1 })
      | inr none ↦ elim (cases_eq c 0) [
        | inl zero_c ↦ inr (all_zero c cs zero_c none)
        | inr some ↦ inl (0, record { leading = some; past = first c cs none })
      ]
    ]
  where
    later : (c : ℕ) (cs : List ℕ) (e : ℕ) → Leads cs e → (i : ℕ) → suc e < i → slice_index (c ∷ cs) i ≡ 0
    later c cs e h zero more = absurd (omega arith)
    later c cs e h (suc i) more = h.past i (omega arith)

    first : (c : ℕ) (cs : List ℕ) → ((i : ℕ) → slice_index cs i ≡ 0) → (i : ℕ) → 0 < i → slice_index (c ∷ cs) i ≡ 0
    first c cs none zero more = absurd (omega arith)
    first c cs none (suc i) more = none i

    all_zero : (c : ℕ) (cs : List ℕ) → c ≡ 0 → ((i : ℕ) → slice_index cs i ≡ 0) → (i : ℕ) → slice_index (c ∷ cs) i ≡ 0
    all_zero c cs e none zero = e
    all_zero c cs e none (suc i) = none i

same_degree : (d : Option ℕ) (j k : ℕ) → d ≡ Some j → d ≡ Some k → j ≡ k
same_degree d j k hj hk = cc

pub leads_from_degree : (cs : List ℕ) (e : ℕ) → degree cs ≡ Some e → Leads cs e
leads_from_degree cs e h =
    elim (leads_or_zero cs) [
      | inl w ↦ subst (Leads cs) (same_degree (degree cs) w.0 e (degree-leads cs w.0 w.1) h) w.1
      | inr none ↦ let zero_is = degree-zeros cs none in cc
    ]

pub zeros_from_degree : (cs : List ℕ) → degree cs ≡ None → (i : ℕ) → slice_index cs i ≡ 0
zeros_from_degree cs h =
    elim (leads_or_zero cs) as (λ w. (i : ℕ) → slice_index cs i ≡ 0) [
      | inl w ↦ let some = degree-leads cs w.0 w.1 in cc
      | inr none ↦ none
    ]

pub no_degree_is_zero : NoDegreeIsZero
no_degree_is_zero cs = (
  λ none. record { coefficients = zeros_from_degree cs none },
  λ zero. degree-zeros cs zero.coefficients,
)

-- a degree is below the number of coefficients
pub degree-lt_length : (cs : List ℕ) (e : ℕ) → Leads cs e → e < length cs
degree-lt_length cs e h =
    elim (cases_lt e (length cs)) [
      | inl less ↦ less
      | inr past ↦ absurd (h.leading (get_or_past cs e 0 past))
    ]

-- nothing stands from place j on where the degree is lower
pub past_from_degree : (cs : List ℕ) (k j : ℕ) → degree cs ≡ Some k → k < j → (i : ℕ) → j ≤ i → slice_index cs i ≡ 0
past_from_degree cs k j h less i from = (leads_from_degree cs k h).past i (omega arith)

-- ---- sums

-- a sum with a polynomial of a lower degree, or of degree e at most where e is below j
pub Leads-sum_of_left : (cs ds : List ℕ) (j : ℕ) → Leads cs j → ((i : ℕ) → j ≤ i → slice_index ds i ≡ 0) → Leads (sum_of cs ds) j
Leads-sum_of_left cs ds j h lower =
    let at : (i : ℕ) → j ≤ i → slice_index (sum_of cs ds) i ≡ slice_index cs i =
    λ i from. slice_index-sum_of cs ds i ∙ ap (bit_xor (slice_index cs i)) (lower i from) ∙ xor_zero_r (slice_index cs i) in
    record {
      leading = λ e. h.leading (sym (at j (omega arith)) ∙ e);
      past = λ i more. at i (omega arith) ∙ h.past i more;
    }

pub Leads-sum_of_right : (cs ds : List ℕ) (j : ℕ) → ((i : ℕ) → j ≤ i → slice_index cs i ≡ 0) → Leads ds j → Leads (sum_of cs ds) j
Leads-sum_of_right cs ds j lower h =
    let at : (i : ℕ) → j ≤ i → slice_index (sum_of cs ds) i ≡ slice_index ds i =
    λ i from. slice_index-sum_of cs ds i ∙ ap (λ x. bit_xor x (slice_index ds i)) (lower i from) ∙ xor_zero_l (slice_index ds i) in
    record {
      leading = λ e. h.leading (sym (at j (omega arith)) ∙ e);
      past = λ i more. at i (omega arith) ∙ h.past i more;
    }

-- where nothing of both stands from place j on, nothing of the sum does
pub sum_of-past : (cs ds : List ℕ) (j : ℕ) → ((i : ℕ) → j ≤ i → slice_index cs i ≡ 0) → ((i : ℕ) → j ≤ i → slice_index ds i ≡ 0)
    → (i : ℕ) → j ≤ i → slice_index (sum_of cs ds) i ≡ 0
sum_of-past cs ds j c_past d_past i from =
    slice_index-sum_of cs ds i ∙ ap (λ x. bit_xor x (slice_index ds i)) (c_past i from) ∙ ap (bit_xor 0) (d_past i from)

-- equal leading coefficients cancel
pub sum_of-cancels : (cs ds : List ℕ) (j : ℕ) → Leads cs j → Leads ds j → slice_index cs j ≡ slice_index ds j
    → (i : ℕ) → j ≤ i → slice_index (sum_of cs ds) i ≡ 0
sum_of-cancels cs ds j hc hd same i from =
    elim (cases_lt j i) [
      | inl more ↦ sum_of-past cs ds (suc j) (λ k past. hc.past k past) (λ k past. hd.past k past) i more
      | inr least ↦
          let here : i ≡ j = omega arith in
          ap (slice_index (sum_of cs ds)) here ∙ slice_index-sum_of cs ds j ∙ ap (λ x. bit_xor x (slice_index ds j)) same
          ∙ xor_self (slice_index ds j)
    ]

-- the same by degrees
pub degree-sum_of_left : (cs ds : List ℕ) (j k : ℕ) → degree cs ≡ Some j → degree ds ≡ Some k → k < j → degree (sum_of cs ds) ≡ Some j
degree-sum_of_left cs ds j k hc hd less =
    degree-leads (sum_of cs ds) j (Leads-sum_of_left cs ds j (leads_from_degree cs j hc) (past_from_degree ds k j hd less))

pub degree-sum_of_right : (cs ds : List ℕ) (j k : ℕ) → degree cs ≡ Some j → degree ds ≡ Some k → j < k → degree (sum_of cs ds) ≡ Some k
degree-sum_of_right cs ds j k hc hd less =
    degree-leads (sum_of cs ds) k (Leads-sum_of_right cs ds k (past_from_degree cs j k hc less) (leads_from_degree ds k hd))

-- ---- over a field

module _ (f : Modulus) (h : f.low < 2 ^ f.degree) (irreducible : IsIrreducible (polynomial f)) where
  product_nonzero : (a b : ℕ) → a < 2 ^ f.degree → a ≢ 0 → b < 2 ^ f.degree → b ≢ 0 → field_product f a b ≢ 0
  product_nonzero a b a_below a_some b_below b_some e =
      b_some (no_zero_divisors_of_residues f h irreducible a b a_below (omega arith) b_below e)

  pub frobenius_nonzero : (i a : ℕ) → a < 2 ^ f.degree → a ≢ 0 → frobenius f i a ≢ 0
  frobenius_nonzero i a below some e =
      some (frobenius_injective f h irreducible i a 0 below (omega arith) (e ∙ sym (frobenius-zero f h i)))

  pub Leads-scaled : (a : ℕ) (cs : List ℕ) (e : ℕ) → a < 2 ^ f.degree → a ≢ 0 → IsOver f.degree cs → Leads cs e → Leads (scaled f a cs) e
  Leads-scaled a cs e below some over leads = record {
    leading = λ z. product_nonzero a (slice_index cs e) below some (coefficient-lt f.degree cs over e) leads.leading (sym (slice_index-scaled f h a cs e) ∙ z);
    past = λ i more. slice_index-scaled f h a cs i ∙ ap (field_product f a) (leads.past i more) ∙ field_product-zero f h a;
  }

  pub Leads-squared_up : (cs : List ℕ) (e : ℕ) → IsOver f.degree cs → Leads cs e → Leads (squared_up f cs) (suc e)
  Leads-squared_up cs e over leads =
      let c = slice_index cs e in
      record {
        leading = λ z. product_nonzero c c (coefficient-lt f.degree cs over e) leads.leading (coefficient-lt f.degree cs over e) leads.leading
            (sym (slice_index-squares f h cs e) ∙ z);
        past = squares_past cs e leads;
      }
    where
      squares_past : (cs : List ℕ) (e : ℕ) → Leads cs e → (i : ℕ) → suc e < i → slice_index (squared_up f cs) i ≡ 0
      squares_past cs e leads zero more = absurd (omega arith)
      squares_past cs e leads (suc i) more =
          slice_index-squares f h cs i ∙ ap (λ x. field_product f x x) (leads.past i (omega arith)) ∙ field_product-zero f h 0

  -- the leading coefficient of a composition
  pub composed-leading : (cs ds : List ℕ) (j k : ℕ) → Leads cs j → Leads ds k
      → slice_index (composition f cs ds) (j + k) ≡ field_product f (slice_index cs j) (frobenius f j (slice_index ds k))
  composed-leading cs ds j k c_leads d_leads =
      let c = slice_index cs in
      let d = slice_index ds in
      let place : j + k - j ≡ k = omega arith in
      slice_index-composition f h cs ds (j + k)
      ∙ xor_sum-single (λ i. field_product f (c i) (frobenius f i (d (j + k - i)))) (suc (j + k)) j (omega arith)
      (λ i less apart. elim (cases_lt i j) [
        | inl below ↦
            ap (λ x. field_product f (c i) (frobenius f i x)) (d_leads.past (j + k - i) (omega arith))
            ∙ ap (field_product f (c i)) (frobenius-zero f h i) ∙ field_product-zero f h (c i)
        | inr above ↦
            let more : j < i = omega arith in
            ap (λ x. field_product f x (frobenius f i (d (j + k - i)))) (c_leads.past i more) ∙ zero-field_product f h (frobenius f i (d (j + k - i)))
      ])
      ∙ ap (λ n. field_product f (c j) (frobenius f j (d n))) place

  -- the degree of a composition is the sum of the degrees
  pub Leads-composition : (cs ds : List ℕ) (j k : ℕ) → IsOver f.degree cs → IsOver f.degree ds → Leads cs j → Leads ds k
      → Leads (composition f cs ds) (j + k)
  Leads-composition cs ds j k c_over d_over c_leads d_leads = record {
    leading = λ z. product_nonzero (slice_index cs j) (frobenius f j (slice_index ds k))
        (coefficient-lt f.degree cs c_over j) c_leads.leading
        (frobenius-below f h j (slice_index ds k) (coefficient-lt f.degree ds d_over k))
        (frobenius_nonzero j (slice_index ds k) (coefficient-lt f.degree ds d_over k) d_leads.leading)
        (sym (composed-leading cs ds j k c_leads d_leads) ∙ z);
    past = λ n more. slice_index-composition f h cs ds n
        ∙ composed-past f h (slice_index cs) (slice_index ds) (suc j) (suc k) n (λ i past. c_leads.past i past) (λ i past. d_leads.past i past) (omega arith);
  }

  pub degree-composition : (cs ds : List ℕ) (j k : ℕ) → IsOver f.degree cs → IsOver f.degree ds → degree cs ≡ Some j → degree ds ≡ Some k
      → degree (composition f cs ds) ≡ Some (j + k)
  degree-composition cs ds j k c_over d_over c_is d_is =
      degree-leads (composition f cs ds) (j + k)
      (Leads-composition cs ds j k c_over d_over (leads_from_degree cs j c_is) (leads_from_degree ds k d_is))

  -- a composition is 0 only where one of the two is
  pub no_zero_divisors : (cs ds : List ℕ) → IsOver f.degree cs → IsOver f.degree ds → SamePolynomial (composition f cs ds) []
      → SamePolynomial cs [] ⊎ SamePolynomial ds []
  no_zero_divisors cs ds c_over d_over none =
      elim (leads_or_zero cs) [
        | inl c_leads ↦ elim (leads_or_zero ds) [
          | inl d_leads ↦ absurd ((Leads-composition cs ds c_leads.0 d_leads.0 c_over d_over c_leads.1 d_leads.1).leading (none.coefficients (c_leads.0 + d_leads.0)))
          | inr d_zero ↦ inr (record { coefficients = d_zero })
        ]
        | inr c_zero ↦ inl (record { coefficients = c_zero })
      ]
