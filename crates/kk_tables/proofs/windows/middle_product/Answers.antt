use Rattle.std.proofs.Common.{◌≡◌, ◌+◌, ◌-◌, ◌*◌, ◌/◌, ◌%◌, ◌^◌, ◌<◌, ◌≤◌, arith, sym, ap, ◌∙◌}
use Rattle.std.proofs.Math.Nat.{div-eq_of_lt, div-one, mod-lt}
use Rattle.kk_field.specs.Polynomial.{product}
use Rattle.kk_field.proofs.Products.{product-zero}
use Rattle.kk_tables.proofs.WindowProducts.{wide_digit}
use Rattle.kk_tables.proofs.windows.middle_product.Goals as goal

pub loop-i-init : goal.loop-i-init
loop-i-init c =
    let none : c.args.b / 2 ^ 60 ≡ 0 = div-eq_of_lt c.requires.b_below in
    sym (ap (product c.args.a) none ∙ product-zero c.args.a)

pub loop-i-preserved : goal.loop-i-preserved
loop-i-preserved c =
    let a = c.args.a in
    let b = c.args.b in
    let i = c.loop-i.i in
    let s = 56 - 4 * i in
    let now : 60 - 4 * i ≡ s + 4 = omega (arith, c.loop-i-test.true) in
    let then : 60 - 4 * (i + 1) ≡ s = omega (arith, c.loop-i-test.true) in
    let few : s ≤ 60 = omega arith in
    let digit : b / 2 ^ s % 16 < 16 = mod-lt (b / 2 ^ s) (omega arith) in
    let sum : c.loop-i.sum ≡ product a (b / 2 ^ (s + 4)) = c.loop-i.invariant ∙ ap (λ n. product a (b / 2 ^ n)) now in
    rw (then, c.from-entry.ensures, c.narrow_window-table.ensures (b / 2 ^ s % 16) digit)
    (wide_digit a b s c.loop-i.sum (omega (arith, c.requires.a_below)) (omega (arith, c.requires.b_below)) few sum)

pub returns : goal.returns
returns c =
    let all : c.loop-i.i ≡ 15 = omega (arith, c.loop-i.auto.i-end, c.loop-i-test.false) in
    c.loop-i.invariant ∙ rw all (ap (product c.args.a) (div-one c.args.b))
