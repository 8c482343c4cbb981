use Rattle.std.proofs.Common.{◌≡◌, ℕ, suc, ◌-◌, ◌*◌, ◌^◌, ◌%◌, ◌<◌, ◌≤◌, bit_xor, arith, ap, sym, ◌∙◌, subst}
use Rattle.std.proofs.Math.Pow.{pow_mono}
use Rattle.std.proofs.Math.Nat.{pow-suc, mod-eq_of_lt}
use Rattle.std.proofs.lemmas.Nat.{one_shl}
use Rattle.std.specs.Int.Bits.{xor_lt}
use Rattle.kk_field.specs.Field.{field_product}
use Rattle.kk_field.proofs.Remainders.{double_low, double_high}
use Rattle.kk_field.proofs.ring.Ring.doubled.Goals as goal

-- the code's 1 << (m - 1)
abbrev top_of : ℕ → ℕ
top_of m = 1 * 2 ^ (m - 1) % 18446744073709551616

top_twice : (m : ℕ) → 1 ≤ m → m ≤ 64 → top_of m * 2 ≡ 2 ^ m
top_twice m least most =
    let next : suc (m - 1) ≡ m = omega arith in
    let within : m - 1 < 64 = omega arith in
    ap (λ x. x * 2) (one_shl (m - 1) 64 within) ∙ sym (pow-suc 2 (m - 1)) ∙ ap (λ j. 2 ^ j) next

word : (m : ℕ) → m ≤ 64 → 2 ^ m ≤ 18446744073709551616
word m most = pow_mono most

low_value : (m low a : ℕ) → 1 ≤ m → m ≤ 64 → low < 2 ^ m → a < top_of m
    → a * 2 % 18446744073709551616 ≡ field_product (record { degree = m; low = low }) a 2
unfolding field_product
low_value m low a least most h small =
    let below : a * 2 < 2 ^ m = omega (arith, top_twice m least most) in
    mod-eq_of_lt (omega (arith, below, word m most)) ∙ sym (double_low m low a h below)

high_shifted : (m a : ℕ) → 1 ≤ m → m ≤ 64 → a < 2 ^ m → top_of m ≤ a
    → ((a - top_of m) * 2 % 18446744073709551616 ≡ (a - top_of m) * 2) × ((a - top_of m) * 2 < 2 ^ m)
high_shifted m a least most below high =
    let rest : (a - top_of m) * 2 < 2 ^ m = omega (arith, top_twice m least most) in
    (mod-eq_of_lt (omega (arith, rest, word m most)), rest)

high_value : (m low a : ℕ) → 1 ≤ m → m ≤ 64 → low < 2 ^ m → a < 2 ^ m → top_of m ≤ a
    → bit_xor ((a - top_of m) * 2 % 18446744073709551616) low ≡ field_product (record { degree = m; low = low }) a 2
unfolding field_product
high_value m low a least most h below high =
    ap (λ x. bit_xor x low) (high_shifted m a least most below high).0
    ∙ sym (double_high m low a (top_of m) h (top_twice m least most) high (omega arith))

pub returns-then-a-top-clause-value : goal.returns-then-a-top-clause-value
returns-then-a-top-clause-value c =
    let i = c.self.inside in
    let inv = c.self.invariant in
    subst (λ f. c.args.a * 2 % 18446744073709551616 ≡ field_product f c.args.a 2) c.self.view_is
    (low_value i.m i.low c.args.a inv.0 inv.1 inv.2 c.if-a-top.true)

pub returns-else-a-top-clause-value : goal.returns-else-a-top-clause-value
returns-else-a-top-clause-value c =
    let i = c.self.inside in
    let inv = c.self.invariant in
    subst (λ f. bit_xor ((c.args.a - top_of i.m) * 2 % 18446744073709551616) i.low ≡ field_product f c.args.a 2) c.self.view_is
    (high_value i.m i.low c.args.a inv.0 inv.1 inv.2 (subst (λ f. c.args.a < 2 ^ f.degree) (sym c.self.view_is) c.requires) c.if-a-top.false)

pub returns-else-a-top-clause-below : goal.returns-else-a-top-clause-below
returns-else-a-top-clause-below c =
    let i = c.self.inside in
    let inv = c.self.invariant in
    let shifted = high_shifted i.m c.args.a inv.0 inv.1 (subst (λ f. c.args.a < 2 ^ f.degree) (sym c.self.view_is) c.requires) c.if-a-top.false in
    subst (λ f. bit_xor ((c.args.a - top_of i.m) * 2 % 18446744073709551616) i.low < 2 ^ f.degree) c.self.view_is
    (rw shifted.0 (xor_lt i.m ((c.args.a - top_of i.m) * 2) i.low shifted.1 inv.2))
