-- The map of a polynomial on the elements of the field, and its values at the powers of 2.
use Rattle.std.proofs.Common.{◌≡◌, ℕ, ◌-◌, ◌*◌, ◌%◌, ◌^◌, ◌<◌, ◌≤◌, List, slice_index, sym, ap, ◌∙◌, arith, inl, inr}
use Rattle.std.proofs.Math.Nat.{mod-eq_of_lt, mul-mod_left}
use Rattle.std.proofs.Math.Pow.{pow-lt}
use Rattle.std.proofs.lemmas.Bool.{cases_lt}
use Rattle.std.proofs.lemmas.Nat.{pow-add, xor_mod}
use Rattle.kk_rows.specs.AdditiveMap.{IsAdditive}
use Rattle.kk_field.specs.Field.{Modulus}
use Rattle.kk_tables.specs.Tables.{HasUnits}
use Rattle.kk_linpoly.specs.LinPoly.{value}
use Rattle.kk_linpoly.proofs.Values.{value-xor, value-zero}

-- the value at the lowest m bits
abbrev pub value_below : Modulus → List ℕ → ℕ → ℕ
value_below f cs x = value f cs (x % 2 ^ f.degree)

module _ (f : Modulus) (h : f.low < 2 ^ f.degree) (cs : List ℕ) where
  pub IsAdditive-value_below : IsAdditive (value_below f cs)
  IsAdditive-value_below x y = ap (value f cs) (xor_mod x y f.degree) ∙ value-xor f h cs (x % 2 ^ f.degree) (y % 2 ^ f.degree)

  -- a power of 2 past the field leaves nothing
  no_bits : (j : ℕ) → f.degree ≤ j → 2 ^ j % 2 ^ f.degree ≡ 0
  no_bits j more =
      let split : 2 ^ j ≡ 2 ^ (j - f.degree) * 2 ^ f.degree = ap (λ k. 2 ^ k) (omega (arith, more)) ∙ pow-add 2 (j - f.degree) f.degree in
      ap (λ x. x % 2 ^ f.degree) split ∙ mul-mod_left (2 ^ (j - f.degree)) (2 ^ f.degree)

  pub HasUnits-of_values : (units : List ℕ) → ((j : ℕ) → j < f.degree → slice_index units j ≡ value f cs (2 ^ j))
      → ((j : ℕ) → f.degree ≤ j → slice_index units j ≡ 0) → HasUnits (value_below f cs) units
  HasUnits-of_values units before after = record {
    at = λ j within. elim (cases_lt j f.degree) [
      | inl less ↦ before j less ∙ ap (value f cs) (sym (mod-eq_of_lt (pow-lt less)))
      | inr more ↦ after j more ∙ sym (ap (value f cs) (no_bits j more) ∙ value-zero f h cs)
    ];
  }
