-- One part of a polynomial: the length and the value of its square plus a multiple of it, and of a combination of two.
use Rattle.std.proofs.Common.{◌≡◌, ◌≢◌, ℕ, zero, suc, ◌^◌, ◌<◌, ◌≤◌, List, [], ◌∷◌, length, bit_xor, refl, sym, ap, ◌∙◌, arith, inl, inr}
use Rattle.std.specs.Prelude.{slice_index}
use Rattle.std.proofs.lemmas.Bool.{cases_lt}
use Rattle.std.specs.Int.Bits.{xor_zero_l}
use Rattle.std.proofs.lemmas.List.{get_or_past}
use Rattle.kk_field.specs.Polynomial.{IsIrreducible}
use Rattle.kk_field.specs.Field.{Modulus, polynomial, field_product}
use Rattle.kk_field.proofs.Residues.{field_product-zero}
use Rattle.kk_linpoly.specs.LinPoly.{IsOver, value, trimmed, sum_of, scaled, squared_up, raised}
use Rattle.kk_linpoly.proofs.Trimmed.{slice_index-trimmed, trimmed-zeros, trimmed-trimmed, All-trimmed, degree-some, length-trimmed_of_degree}
use Rattle.kk_linpoly.proofs.Coefficients.{slice_index-scaled, slice_index-sum_of, IsOver-sum_of, IsOver-scaled}
use Rattle.kk_linpoly.proofs.DegreeLaws.{Leads, degree-leads, leads_or_zero, leads_from_degree, sum_of-past, Leads-sum_of_left, Leads-sum_of_right, Leads-scaled, Leads-squared_up}
use Rattle.kk_linpoly.proofs.Vanishings.{IsOver-raised, value-raised}
use Rattle.kk_linpoly.proofs.Values.{value-sum_of, value-scaled, value-trimmed}
use Rattle.kk_interp.specs.BiPoly.{IsPart}
use Rattle.kk_interp.specs.Steps.{grown, combined_value, IsRaisedPart, IsCombinedPart}

-- ---- lengths and leading coefficients

pub leads_of_length : (cs : List ℕ) (e : ℕ) → trimmed cs ≡ cs → length cs ≡ suc e → Leads cs e
leads_of_length cs e same long = leads_from_degree cs e (degree-some cs e (ap length same ∙ long))

pub length_of_leads : (cs : List ℕ) (e : ℕ) → Leads cs e → length (trimmed cs) ≡ suc e
length_of_leads cs e leads = length-trimmed_of_degree cs e (degree-leads cs e leads)

pub length-trimmed-at_most : (cs : List ℕ) (n : ℕ) → ((i : ℕ) → n ≤ i → slice_index cs i ≡ 0) → length (trimmed cs) ≤ n
length-trimmed-at_most cs n past =
    elim (leads_or_zero cs) [
      | inl w ↦ elim (cases_lt w.0 n) [
        | inl less ↦ omega (arith, length_of_leads cs w.0 w.1)
        | inr more ↦ absurd (w.1.leading (past w.0 more))
      ]
      | inr none ↦ omega (arith, ap length (trimmed-zeros cs none))
    ]

grown-suc : (n : ℕ) → grown (suc n) ≡ suc (suc n)
unfolding grown
grown-suc n = refl

pub grown-zero : grown 0 ≡ 0
unfolding grown
grown-zero = refl

pub grown-positive : (n : ℕ) → 0 < n → grown n ≡ suc n
grown-positive zero h = absurd (omega arith)
grown-positive (suc n) h = grown-suc n

-- the sum of two parts without the zeros at its end
pub IsPart-trimmed : (m : ℕ) (cs : List ℕ) → IsOver m cs → IsPart m (trimmed cs)
IsPart-trimmed m cs over = record { over = All-trimmed (λ c. c < 2 ^ m) cs over; no_zero_at_end = trimmed-trimmed cs }

abbrev combined_part : Modulus → ℕ → List ℕ → ℕ → List ℕ → List ℕ
combined_part f a cs b ds = sum_of (scaled f a cs) (scaled f b ds)

module _ (f : Modulus) (h : f.low < 2 ^ f.degree) (irreducible : IsIrreducible (polynomial f)) where
  scaled-past : (a : ℕ) (cs : List ℕ) (n : ℕ) → length cs ≤ n → (i : ℕ) → n ≤ i → slice_index (scaled f a cs) i ≡ 0
  scaled-past a cs n short i from =
      slice_index-scaled f h a cs i ∙ ap (field_product f a) (get_or_past cs i 0 (omega arith)) ∙ field_product-zero f h a

  scaled-leads : (a : ℕ) (cs : List ℕ) (e : ℕ) → a < 2 ^ f.degree → a ≢ 0 → IsPart f.degree cs → length cs ≡ suc e → Leads (scaled f a cs) e
  scaled-leads a cs e below some part long =
      Leads-scaled f h irreducible a cs e below some part.over (leads_of_length cs e part.no_zero_at_end long)

  -- ---- the square plus a multiple

  raised_zero : (d : ℕ) → length (trimmed (raised f d [])) ≡ 0
  raised_zero d =
      let none : length (trimmed (raised f d [])) ≤ 0 =
      length-trimmed-at_most (raised f d []) 0
      (sum_of-past (squared_up f []) (scaled f d []) 0 (λ i from. zero_alone i) (λ i from. get_or_past (scaled f d []) i 0 (omega arith))) in
      omega arith
    where
      zero_alone : (i : ℕ) → slice_index (0 ∷ []) i ≡ 0
      zero_alone zero = refl
      zero_alone (suc i) = refl

  raised_leads : (d : ℕ) (cs : List ℕ) (e : ℕ) → IsPart f.degree cs → length cs ≡ suc e → Leads (raised f d cs) (suc e)
  raised_leads d cs e part long =
      Leads-sum_of_left (squared_up f cs) (scaled f d cs) (suc e)
      (Leads-squared_up f h irreducible cs e part.over (leads_of_length cs e part.no_zero_at_end long))
      (scaled-past d cs (suc e) (omega arith))

  length-raised : (d : ℕ) (cs : List ℕ) → IsPart f.degree cs → length (trimmed (raised f d cs)) ≡ grown (length cs)
  length-raised d [] part = raised_zero d ∙ sym grown-zero
  length-raised d (c ∷ cs) part =
      length_of_leads (raised f d (c ∷ cs)) (suc (length cs)) (raised_leads d (c ∷ cs) (length cs) part refl)
      ∙ sym (grown-suc (length cs))

  first-raised : (d : ℕ) (cs : List ℕ) → slice_index (trimmed (raised f d cs)) 0 ≡ field_product f d (slice_index cs 0)
  first-raised d cs =
      slice_index-trimmed (raised f d cs) 0 ∙ slice_index-sum_of (squared_up f cs) (scaled f d cs) 0
      ∙ xor_zero_l (slice_index (scaled f d cs) 0) ∙ slice_index-scaled f h d cs 0

  pub IsRaisedPart-raised : (d : ℕ) (cs : List ℕ) → IsPart f.degree cs → IsRaisedPart f d cs (trimmed (raised f d cs))
  IsRaisedPart-raised d cs part = record {
    part = IsPart-trimmed f.degree (raised f d cs) (IsOver-raised f h cs d);
    grows = length-raised d cs part;
    first = first-raised d cs;
    values = λ x. value-trimmed f h (raised f d cs) x ∙ value-raised f h cs d x;
  }

  -- ---- a combination

  length-combined_left : (a b : ℕ) (cs ds : List ℕ) → a < 2 ^ f.degree → a ≢ 0 → IsPart f.degree cs → length ds < length cs
      → length (trimmed (combined_part f a cs b ds)) ≡ length cs
  length-combined_left a b [] ds below some part less = absurd (omega arith)
  length-combined_left a b (c ∷ cs) ds below some part less =
      length_of_leads (combined_part f a (c ∷ cs) b ds) (length cs)
      (Leads-sum_of_left (scaled f a (c ∷ cs)) (scaled f b ds) (length cs)
      (scaled-leads a (c ∷ cs) (length cs) below some part refl) (scaled-past b ds (length cs) (omega arith)))

  length-combined_right : (a b : ℕ) (cs ds : List ℕ) → b < 2 ^ f.degree → b ≢ 0 → IsPart f.degree ds → length cs < length ds
      → length (trimmed (combined_part f a cs b ds)) ≡ length ds
  length-combined_right a b cs [] below some part less = absurd (omega arith)
  length-combined_right a b cs (d ∷ ds) below some part less =
      length_of_leads (combined_part f a cs b (d ∷ ds)) (length ds)
      (Leads-sum_of_right (scaled f a cs) (scaled f b (d ∷ ds)) (length ds)
      (scaled-past a cs (length ds) (omega arith)) (scaled-leads b (d ∷ ds) (length ds) below some part refl))

  length-combined_at_most : (a b : ℕ) (cs ds : List ℕ) (n : ℕ) → length cs ≤ n → length ds ≤ n
      → length (trimmed (combined_part f a cs b ds)) ≤ n
  length-combined_at_most a b cs ds n c_short d_short =
      length-trimmed-at_most (combined_part f a cs b ds) n
      (sum_of-past (scaled f a cs) (scaled f b ds) n (scaled-past a cs n c_short) (scaled-past b ds n d_short))

  value-combined : (a b : ℕ) (cs ds : List ℕ) (x : ℕ)
      → value f (trimmed (combined_part f a cs b ds)) x ≡ combined_value f a (value f cs x) b (value f ds x)
  value-combined a b cs ds x =
      value-trimmed f h (combined_part f a cs b ds) x
      ∙ value-sum_of f h (scaled f a cs) (scaled f b ds) x
      ∙ ap (λ v. bit_xor v (value f (scaled f b ds) x)) (value-scaled f h a cs x)
      ∙ ap (bit_xor (field_product f a (value f cs x))) (value-scaled f h b ds x)

  first-combined : (a b : ℕ) (cs ds : List ℕ)
      → slice_index (trimmed (combined_part f a cs b ds)) 0 ≡ combined_value f a (slice_index cs 0) b (slice_index ds 0)
  first-combined a b cs ds =
      slice_index-trimmed (combined_part f a cs b ds) 0 ∙ slice_index-sum_of (scaled f a cs) (scaled f b ds) 0
      ∙ ap (λ v. bit_xor v (slice_index (scaled f b ds) 0)) (slice_index-scaled f h a cs 0)
      ∙ ap (bit_xor (field_product f a (slice_index cs 0))) (slice_index-scaled f h b ds 0)

  pub IsCombinedPart-combined : (a b : ℕ) (cs ds : List ℕ) → a < 2 ^ f.degree → a ≢ 0 → b < 2 ^ f.degree → b ≢ 0
      → IsPart f.degree cs → IsPart f.degree ds → IsCombinedPart f a cs b ds (trimmed (sum_of (scaled f a cs) (scaled f b ds)))
  IsCombinedPart-combined a b cs ds a_below a_some b_below b_some c_part d_part = record {
    part = IsPart-trimmed f.degree (combined_part f a cs b ds)
        (IsOver-sum_of f.degree (scaled f a cs) (scaled f b ds) (IsOver-scaled f h a cs) (IsOver-scaled f h b ds));
    left = length-combined_left a b cs ds a_below a_some c_part;
    right = length-combined_right a b cs ds b_below b_some d_part;
    at_most = length-combined_at_most a b cs ds;
    first = first-combined a b cs ds;
    values = value-combined a b cs ds;
  }
