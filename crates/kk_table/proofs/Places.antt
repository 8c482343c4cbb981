-- Where the words of a table stand.
use Rattle.std.proofs.Common.{◌≡◌, ◌≢◌, ℕ, suc, ◌+◌, ◌*◌, ◌<◌, ◌≤◌, ap, mul-le-mul_right, suc-mul, arith}
use mathlib.Core.Logic.{dite}
use native.Mathlib.Decide.{dec_le, ℕ_discrete}
use Rattle.kk_table.specs.Places.{place_of}

row_further : (a b w : ℕ) → a < b → a * (w + 1) + (w + 1) ≤ b * (w + 1)
row_further a b w h = let m : suc a * (w + 1) ≤ b * (w + 1) = mul-le-mul_right (w + 1) h in omega (arith, suc-mul a (w + 1))

pub place_inside : (w gens g p : ℕ) → g < gens → p ≤ w → place_of w g p < place_of w gens 0
place_inside w gens g p h q = omega (arith, row_further g gens w h)

pub places_apart : (w g p k q : ℕ) → p ≤ w → q ≤ w → (k ≡ g → q ≢ p) → place_of w k q ≢ place_of w g p
places_apart w g p k q pw qw apart e =
    dite (ℕ_discrete k g)
    (λ same. apart same (let m : k * (w + 1) ≡ g * (w + 1) = ap (λ (x : ℕ). x * (w + 1)) same in omega arith))
    (λ ne. dite (dec_le k g)
    (λ le. let less : k < g = omega arith in omega (arith, row_further k g w less))
    (λ more. let less : g < k = omega arith in omega (arith, row_further g k w less)))
