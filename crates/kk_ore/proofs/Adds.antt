-- Terms added to a list, one place after the other.
use Rattle.std.proofs.Common.{◌≡◌, ◌≢◌, ℕ, ◌+◌, ◌<◌, ◌≤◌, List, length, set, bit_xor, refl, sym, ap, ◌∙◌, arith, inl, inr}
use Rattle.std.specs.Prelude.{slice_index}
use Rattle.std.proofs.lemmas.Bool.{cases_lt, cases_eq}
use Rattle.std.proofs.lemmas.List.{get_or-set_same, get_or-set_other, length-set}
use Rattle.std.specs.Int.Bits.{xor_zero_r}

-- the terms below j are added from place s on
pub record AddsTerms (start now : List ℕ) (s j : ℕ) (term : ℕ → ℕ) : Type 0 where
  pub long : length now ≡ length start
  pub before : (n : ℕ) → n < s → slice_index now n ≡ slice_index start n
  pub added : (k : ℕ) → k < j → slice_index now (s + k) ≡ bit_xor (slice_index start (s + k)) (term k)
  pub after : (k : ℕ) → j ≤ k → slice_index now (s + k) ≡ slice_index start (s + k)

pub adds_none : (start : List ℕ) (s : ℕ) (term : ℕ → ℕ) → AddsTerms start start s 0 term
adds_none start s term = record {
  long = refl;
  before = λ n less. refl;
  added = λ k less. absurd (omega arith);
  after = λ k past. refl;
}

pub adds_more : (start now : List ℕ) (s j t : ℕ) (term : ℕ → ℕ) → s + j < length start → AddsTerms start now s j term → t ≡ term j
    → AddsTerms start (set now (s + j) (bit_xor (slice_index now (s + j)) t)) s (j + 1) term
adds_more start now s j t term within so_far t_is =
    let x = bit_xor (slice_index now (s + j)) t in
    let other : (n : ℕ) → n ≢ s + j → slice_index (set now (s + j) x) n ≡ slice_index now n =
    λ n apart. get_or-set_other now (s + j) n x 0 apart in
    record {
      long = length-set now (s + j) x ∙ so_far.long;
      before = λ n less. other n (λ e. omega arith) ∙ so_far.before n less;
      added = λ k less. elim (cases_eq k j) [
        | inl here ↦ ap (λ i. slice_index (set now (s + j) x) (s + i)) here
            ∙ get_or-set_same now (s + j) x 0 (omega (arith, so_far.long))
            ∙ ap (λ y. bit_xor y t) (so_far.after j (omega arith)) ∙ ap (bit_xor (slice_index start (s + j))) t_is
            ∙ ap (λ i. bit_xor (slice_index start (s + i)) (term i)) (sym here)
        | inr earlier ↦ other (s + k) (λ e. earlier (omega arith)) ∙ so_far.added k (omega (arith, earlier))
      ];
      after = λ k past. other (s + k) (λ e. omega arith) ∙ so_far.after k (omega arith);
    }

-- past the last place there is nothing to add
pub adds_all : (start now : List ℕ) (s j : ℕ) (term : ℕ → ℕ) → AddsTerms start now s j term → ((k : ℕ) → j ≤ k → term k ≡ 0)
    → (k : ℕ) → slice_index now (s + k) ≡ bit_xor (slice_index start (s + k)) (term k)
adds_all start now s j term so_far none k =
    elim (cases_lt k j) [
      | inl less ↦ so_far.added k less
      | inr past ↦ so_far.after k past ∙ sym (ap (bit_xor (slice_index start (s + k))) (none k past) ∙ xor_zero_r (slice_index start (s + k)))
    ]
