-- The sum of the steps of a decoding.
use Rattle.std.proofs.Common.{◌≡◌, ℕ, ◌+◌, ◌-◌, ◌*◌, ◌^◌, ◌≤◌, ap, ◌∙◌, arith}
use Rattle.std.proofs.Math.Nat.{pow-suc, pow-zero, one-mul}
use Rattle.std.proofs.lemmas.Nat.{mul-le}

-- a row has n bits, at least three; a message has k symbols, and a space that may decode the rank r
pub record Sizes (n k r : ℕ) : Type 0 where
  pub three : 3 ≤ n
  pub symbols : 2 * k ≤ n
  pub rank : r + k ≤ n

cube_is : (n : ℕ) → n ^ 3 ≡ n * (n * n)
cube_is n =
    let cube : n ^ 3 ≡ n * n * n = pow-suc n 2 ∙ ap (λ a. a * n) (pow-suc n 1 ∙ ap (λ a. a * n) (pow-suc n 0 ∙ ap (λ a. a * n) (pow-zero n) ∙ one-mul n)) in
    omega (arith, cube)

-- each of l points costs k (k + 1), the first k and the others
pub map_cost : (l k : ℕ) → k ≤ l → k * (k * (k + 1)) + (l - k) * (k * (k + 1)) ≡ l * (k * (k + 1))
map_cost l k few = let all : k + (l - k) ≡ l = omega (arith, few) in omega (arith, ap (λ a. a * (k * (k + 1))) all)

module _ (n : ℕ) where
  -- s is how many points and coefficients there are at each point
  pub points_cost : (r s : ℕ) → r ≤ n → s ≤ n → r * (32 * s) ≤ 32 * (n * n)
  points_cost r s few short = omega (arith, mul-le r (32 * s) n (32 * n) few (omega (arith, short)))

  pub division_cost : (m k r : ℕ) → m ≤ n → 3 ≤ n → k ≤ n → r ≤ n → 2 * m + k * (r + 3) ≤ 4 * (n * n)
  division_cost m k r field three short few =
      omega (arith, mul-le m 1 n n field (omega (arith, three)), mul-le k (r + 3) n (2 * n) short (omega (arith, few, three)))

  pub values_cost : (r k : ℕ) → r ≤ n → 2 * k ≤ n → r * (2 * k) ≤ n * n
  values_cost r k few short = mul-le r (2 * k) n n few short

  -- the map of the code: its weights, and the values of its columns
  pub map_fits : (l m k : ℕ) → l ≤ n → m ≤ n → 3 ≤ n → 2 * k ≤ n
      → k + k * (4 * k + 2 * m + 1) + l * (k * (k + 1)) ≤ 6 * (n * n) + n * (n * n)
  map_fits l m k points field three short =
      let few : k ≤ n = omega (arith, short) in
      let weights = mul-le k (4 * k + 2 * m + 1) n (5 * n) few (omega (arith, short, field, three)) in
      let values = mul-le l (k * (k + 1)) n (n * n) points (mul-le k (k + 1) n n few (omega (arith, short, three))) in
      omega (arith, weights, values, mul-le k 1 n n few (omega (arith, three)))

  -- with at least three bits a row, a cube is three squares or more
  pub all_fits : (s : ℕ) → 3 ≤ n → s ≤ 189 * (n * n) + n * (n * n) → s ≤ 64 * n ^ 3
  all_fits s three few = omega (arith, few, cube_is n, mul-le 3 (n * n) n (n * n) three (omega arith))
