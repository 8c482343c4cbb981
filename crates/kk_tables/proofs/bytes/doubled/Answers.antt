use Rattle.std.proofs.Common.{◌≡◌, ℕ, suc, ◌-◌, ◌*◌, ◌^◌, ◌%◌, ◌<◌, ◌≤◌, bit_xor, arith, ap, sym, ◌∙◌}
use Rattle.std.proofs.Math.Pow.{pow_mono}
use Rattle.std.proofs.Math.Nat.{pow-suc, mod-eq_of_lt}
use Rattle.std.proofs.lemmas.Nat.{one_shl}
use Rattle.std.specs.Int.Bits.{xor_lt}
use Rattle.kk_field.specs.Field.{Modulus, residue}
use Rattle.kk_field.proofs.Remainders.{double_low, double_high, product-two}
use Rattle.kk_tables.proofs.bytes.doubled.Goals as goal

-- the code's 1 << (m - 1)
abbrev top_of : ℕ → ℕ
top_of m = 1 * 2 ^ (m - 1) % 18446744073709551616

top_twice : (m : ℕ) → 1 ≤ m → m ≤ 64 → top_of m * 2 ≡ 2 ^ m
top_twice m least most =
    let next : suc (m - 1) ≡ m = omega arith in
    let within : m - 1 < 64 = omega arith in
    ap (λ x. x * 2) (one_shl (m - 1) 64 within) ∙ sym (pow-suc 2 (m - 1)) ∙ ap (λ j. 2 ^ j) next

word : (m : ℕ) → m ≤ 64 → 2 ^ m ≤ 18446744073709551616
word m most = pow_mono most

module _ (f : Modulus) (least : 1 ≤ f.degree) (most : f.degree ≤ 64) (h : f.low < 2 ^ f.degree) where
  low_value : (a : ℕ) → a < top_of f.degree → a * 2 % 18446744073709551616 ≡ residue f (a * 2)
  low_value a small =
      let below : a * 2 < 2 ^ f.degree = omega (arith, top_twice f.degree least most) in
      mod-eq_of_lt (omega (arith, below, word f.degree most)) ∙ sym (double_low f.degree f.low a h below) ∙ ap (residue f) (product-two a)

  shifted : (a : ℕ) → a < 2 ^ f.degree → top_of f.degree ≤ a
      → ((a - top_of f.degree) * 2 % 18446744073709551616 ≡ (a - top_of f.degree) * 2) × ((a - top_of f.degree) * 2 < 2 ^ f.degree)
  shifted a below high =
      let rest : (a - top_of f.degree) * 2 < 2 ^ f.degree = omega (arith, top_twice f.degree least most) in
      (mod-eq_of_lt (omega (arith, rest, word f.degree most)), rest)

  high_value : (a : ℕ) → a < 2 ^ f.degree → top_of f.degree ≤ a
      → bit_xor ((a - top_of f.degree) * 2 % 18446744073709551616) f.low ≡ residue f (a * 2)
  high_value a below high =
      ap (λ x. bit_xor x f.low) (shifted a below high).0
      ∙ sym (double_high f.degree f.low a (top_of f.degree) h (top_twice f.degree least most) high (omega arith))
      ∙ ap (residue f) (product-two a)

pub returns-then-a-top-clause-value : goal.returns-then-a-top-clause-value
returns-then-a-top-clause-value c =
    let f = c.args.ring.now in
    let m = c.m.ensures in
    let low = c.low-low.ensures in
    let h : f.low < 2 ^ f.degree = rw low.value at low.below in
    let high = rw m.value at c.if-a-top.true in
    low_value f (rw m.value at m.one_or_more) (rw m.value at m.at_most_64) h c.args.a high

pub returns-else-a-top-clause-value : goal.returns-else-a-top-clause-value
returns-else-a-top-clause-value c =
    let f = c.args.ring.now in
    let m = c.m.ensures in
    let low = c.low-low.ensures in
    let h : f.low < 2 ^ f.degree = rw low.value at low.below in
    rw (m.value, low.value) (high_value f (rw m.value at m.one_or_more) (rw m.value at m.at_most_64) h c.args.a c.requires (rw m.value at c.if-a-top.false))

pub returns-else-a-top-clause-below : goal.returns-else-a-top-clause-below
returns-else-a-top-clause-below c =
    let f = c.args.ring.now in
    let m = c.m.ensures in
    let low = c.low-low.ensures in
    let h : f.low < 2 ^ f.degree = rw low.value at low.below in
    let s = shifted f (rw m.value at m.one_or_more) (rw m.value at m.at_most_64) h c.args.a c.requires (rw m.value at c.if-a-top.false) in
    rw (m.value, low.value, s.0) (xor_lt f.degree ((c.args.a - top_of f.degree) * 2) f.low s.1 h)
