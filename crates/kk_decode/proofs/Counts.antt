-- How many rows of a reduced form have an x-part other than 0.
use Rattle.std.proofs.Common.{◌≡◌, ℕ, ◌+◌, ◌-◌, ◌*◌, ◌/◌, ◌^◌, ◌<◌, ◌≤◌, List, length, get_or, inl, inr, subst, arith}
use Rattle.std.specs.Prelude.{All}
use Rattle.std.proofs.Math.Pow.{pow_mono}
use Rattle.std.proofs.lemmas.Bool.{cases_lt, cases_eq}
use Rattle.std.proofs.lemmas.Nat.{div_below, mul-le, pow_pos}
use Rattle.kk_rows.specs.Echelon.{IsReduced}
use Rattle.kk_rows.proofs.Leading.{leading_bit, power_le}
use Rattle.kk_code.specs.Codeword.{Parameters, width}

-- the rows after one below 2^(a+1) are below 2^a
later_below : (a : ℕ) (rows : List ℕ) → IsReduced rows → (i t : ℕ) → i < t → t < length rows → get_or rows i 0 < 2 ^ (a + 1) → get_or rows t 0 < 2 ^ a
later_below a rows reduced i t before within small =
    let top = leading_bit (get_or rows i 0) (reduced.nonzero i 0 (omega (arith, before, within))) in
    let low = leading_bit (get_or rows t 0) (reduced.nonzero t 0 within) in
    let less : low.0 < top.0 = reduced.falling i t 0 before within top.0 low.0 top.1 low.1 in
    let high : top.0 < a + 1 = elim (cases_lt top.0 (a + 1)) [
      | inl k ↦ k
      | inr k ↦ let p : 2 ^ (a + 1) ≤ 2 ^ top.0 = pow_mono k in absurd (omega (arith, p, power_le (get_or rows i 0) top.0 top.1.is_one, small))
    ] in
    let le : low.0 + 1 ≤ a = omega (arith, less, high) in
    let p : 2 ^ (low.0 + 1) ≤ 2 ^ a = pow_mono le in
    omega (arith, low.1.none_above, p)

-- of the rows before place i, those with an x-part other than 0 were evaluated, and those from i on have fewer bits by as many
pub record AreCounted (p : Parameters) (start steps i : ℕ) (rows : List ℕ) : Type 0 where
  pub used : ℕ
  pub few : used ≤ p.l
  pub cost : steps ≤ start + used * (2 * p.k)
  pub later : (t : ℕ) → i ≤ t → t < length rows → get_or rows t 0 < 2 ^ (p.field.degree + (p.l - used))

pub counted_first : (p : Parameters) (start : ℕ) (rows : List ℕ) → All (λ r. r < 2 ^ width p) rows → AreCounted p start start 0 rows
counted_first p start rows below =
    let same : width p ≡ p.field.degree + (p.l - 0) = omega arith in
    record { used = 0; few = omega arith; cost = omega arith; later = λ t from within. subst (λ n. get_or rows t 0 < 2 ^ n) same (below t 0 within) }

pub counted_next : (p : Parameters) (start steps more i : ℕ) (rows : List ℕ) → IsReduced rows → i < length rows → AreCounted p start steps i rows
    → (get_or rows i 0 / 2 ^ p.field.degree ≡ 0 → more ≡ steps) → more ≤ steps + 2 * p.k → AreCounted p start more (i + 1) rows
counted_next p start steps more i rows reduced within h free cost = elim (cases_eq (get_or rows i 0 / 2 ^ p.field.degree) 0) [
  | inl zero ↦ record { used = h.used; few = h.few; cost = omega (arith, free zero, h.cost); later = λ t from lt. h.later t (omega (arith, from)) lt }
  | inr some ↦
      let m = p.field.degree in
      let small = h.later i (omega arith) within in
      let room : h.used < p.l = elim (cases_lt h.used p.l) [
        | inl k ↦ k
        | inr k ↦
            let none : m + (p.l - h.used) ≡ m = omega (arith, k) in
            let one : get_or rows i 0 < 1 * 2 ^ m = omega (arith, subst (λ n. get_or rows i 0 < 2 ^ n) none small) in
            absurd (some (omega (arith, div_below (get_or rows i 0) (2 ^ m) 1 (pow_pos m) one)))
      ] in
      let a = m + (p.l - (h.used + 1)) in
      let next : m + (p.l - h.used) ≡ a + 1 = omega (arith, room) in
      record {
        used = h.used + 1;
        few = omega (arith, room);
        cost = omega (arith, h.cost, cost);
        later = λ t from lt. later_below a rows reduced i t (omega (arith, from)) lt (subst (λ n. get_or rows i 0 < 2 ^ n) next small);
      }
]

-- so at most l were evaluated
pub counted_all : (p : Parameters) (start steps i : ℕ) (rows : List ℕ) → AreCounted p start steps i rows → steps ≤ start + p.l * (2 * p.k)
counted_all p start steps i rows h = omega (arith, h.cost, mul-le h.used (2 * p.k) p.l (2 * p.k) h.few (omega arith))
