use Rattle.std.proofs.Common.{◌≡◌, ◌+◌, ◌-◌, ◌*◌, ◌/◌, ◌%◌, ◌^◌, ◌<◌, ◌≤◌, sym, ap, ◌∙◌, arith}
use Rattle.std.proofs.Math.Nat.{div-eq_of_lt, div-one, mod-lt, sub-zero}
use Rattle.std.proofs.Math.Pow.{pow_mono}
use Rattle.kk_field.specs.Polynomial.{product}
use Rattle.kk_field.proofs.Products.{product-zero}
use Rattle.kk_tables.proofs.WindowProducts.{narrow_digit}
use Rattle.kk_tables.proofs.windows.narrow_product.Goals as goal

pub loop-i-init : goal.loop-i-init
loop-i-init c =
    let none : c.args.b / 2 ^ (4 * c.args.digits) ≡ 0 = div-eq_of_lt c.requires.b_below in
    sym (ap (λ d. product c.args.a (c.args.b / 2 ^ (4 * d))) (sub-zero c.args.digits) ∙ ap (product c.args.a) none ∙ product-zero c.args.a)

pub loop-i-preserved : goal.loop-i-preserved
loop-i-preserved c =
    let a = c.args.a in
    let b = c.args.b in
    let d = c.args.digits in
    let i = c.loop-i.i in
    let s = 4 * (d - 1 - i) in
    let now : 4 * (d - i) ≡ s + 4 = omega (arith, c.loop-i-test.true) in
    let then : 4 * (d - (i + 1)) ≡ s = omega (arith, c.loop-i-test.true) in
    let few : s ≤ 28 = omega (arith, c.requires.few) in
    let most : 4 * d ≤ 32 = omega (arith, c.requires.few) in
    let powers : 2 ^ (4 * d) ≤ 2 ^ 32 = pow_mono most in
    let b_below : b < 2 ^ 32 = omega (arith, powers, c.requires.b_below) in
    let digit : b / 2 ^ s % 16 < 16 = mod-lt (b / 2 ^ s) (omega arith) in
    let sum : c.loop-i.sum ≡ product a (b / 2 ^ (s + 4)) = c.loop-i.invariant ∙ ap (λ n. product a (b / 2 ^ n)) now in
    rw (then, c.narrow_window-table.ensures (b / 2 ^ s % 16) digit) (narrow_digit a b s c.loop-i.sum c.requires.a_below b_below few sum)

pub returns : goal.returns
returns c =
    let all : 4 * (c.args.digits - c.loop-i.i) ≡ 0 = omega (arith, c.loop-i.auto.i-end, c.loop-i-test.false) in
    c.loop-i.invariant ∙ rw all (ap (product c.args.a) (div-one c.args.b))
