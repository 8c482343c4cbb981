use Rattle.std.proofs.Common.{◌≡◌, ℕ, ◌+◌, ◌-◌, ◌*◌, ◌/◌, ◌%◌, ◌^◌, ◌<◌, ◌≤◌, bit_xor, slice_index, arith, ap, ap₂, sym, ◌∙◌, inl, inr}
use Rattle.std.proofs.Math.Nat.{zero-mul}
use Rattle.std.proofs.Math.Pow.{pow_mono}
use Rattle.std.proofs.lemmas.Bool.{cases_lt}
use Rattle.std.proofs.lemmas.Nat.{one_shl, pow_pos}
use Rattle.kk_tables.specs.Tables.{byte_at}
use Rattle.kk_rows.proofs.AdditiveMaps.{additive-zero}
use Rattle.kk_tables.proofs.LookUps.{byte_at-top}
use Rattle.kk_tables.proofs.bytes.entry_of.Goals as goal

-- a byte's highest bit is one of its 8
bit_of_byte : (v t : ℕ) → v < 256 → 2 ^ t ≤ v → t < 8
bit_of_byte v t small at_least = elim (cases_lt t 8) [
  | inl less ↦ less
  | inr more ↦ let high : 2 ^ 8 ≤ 2 ^ t = pow_mono more in absurd (omega (arith, small, at_least, high))
]

pub returns-then-v-eq0 : goal.returns-then-v-eq0
returns-then-v-eq0 c image additive units t =
    sym (ap (λ v. image (v * 2 ^ (8 * (c.args.n / 256)))) c.if-v-eq0.true
    ∙ ap image (zero-mul (2 ^ (8 * (c.args.n / 256)))) ∙ additive-zero image additive)

pub bounds-units-n : goal.bounds-units-n
bounds-units-n c =
    let t = bit_of_byte (c.args.n % 256) c.ilog2-top.result (omega arith) c.ilog2-top.ensures.power_le in
    omega (arith, t, c.requires.count, c.requires.within)

pub returns : goal.returns
returns c image additive units t =
    let n = c.args.n in
    let top = c.ilog2-top.result in
    let at_least = c.ilog2-top.ensures.power_le in
    let bit = bit_of_byte (n % 256) top (omega arith) at_least in
    let before : n - 2 ^ top < n = omega (arith, at_least, pow_pos top) in
    let place : n - 1 * 2 ^ top % 18446744073709551616 ≡ n - 2 ^ top = ap (λ x. n - x) (one_shl top 64 (omega (arith, bit))) in
    ap₂ bit_xor (units.at (8 * (n / 256) + top) (omega (arith, bit, c.requires.within)))
    (ap (λ k. slice_index c.args.table.now k) place ∙ t.entries (n - 2 ^ top) before)
    ∙ sym (additive (2 ^ (8 * (n / 256) + top)) (byte_at (n - 2 ^ top)))
    ∙ ap image (byte_at-top n top at_least c.ilog2-top.ensures.next_power_gt)
