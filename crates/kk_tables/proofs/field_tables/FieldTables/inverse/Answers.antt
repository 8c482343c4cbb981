use Rattle.std.proofs.Common.{◌≡◌, suc, ◌+◌, ◌-◌, ◌/◌, ◌%◌, ◌^◌, arith, ap, sym, ◌∙◌, subst}
use Rattle.std.proofs.Math.Nat.{mod-lt}
use Rattle.kk_field.specs.Field.{field_product, frobenius}
use Rattle.kk_field.specs.Laws.{IsFieldModulus}
use Rattle.kk_tables.proofs.Chains.{chain_first, chain_doubled, chain_more, chain_inverse, inverse_of_one, digits_next, digits_first, digits_last}
use Rattle.kk_tables.proofs.field_tables.FieldTables.inverse.Goals as goal
use Rattle.kk_tables.proofs.field_tables.FieldTables.inverse.Goals.{then-last-top-eq1, else-last-top-eq1}

pub returns-then-last-eq0-clause-inverse : goal.returns-then-last-eq0-clause-inverse
returns-then-last-eq0-clause-inverse g c =
    let f = c.args.self.now in
    let is : IsFieldModulus f = subst IsFieldModulus c.self.view_is c.self.invariant.1 in
    let degree : c.self.inside.m ≡ f.degree = ap (λ f. f.degree) c.self.view_is in
    let one : f.degree ≡ 1 = omega (arith, degree, c.if-last-eq0.true, is.modulus.at_least_one) in
    inverse_of_one f is c.args.a one c.requires (omega (arith, c.if-a-eq0.false))

pub loop-i-init : goal.loop-i-init
loop-i-init g c =
    let f = c.args.self.now in
    let is : IsFieldModulus f = subst IsFieldModulus c.self.view_is c.self.invariant.1 in
    let log = c.ilog2-top.ensures in
    let n : (c.self.inside.m - 1) / 2 ^ (c.ilog2-top.result - 0) ≡ 1 =
    digits_first (c.self.inside.m - 1) c.ilog2-top.result log.power_le log.next_power_gt in
    record {
      power_is = rw n (chain_first f is c.args.a);
      power_below = c.requires;
      some = omega (arith, n);
      counted = omega (arith, n);
    }

pub loop-i-preserved : goal.loop-i-preserved
loop-i-preserved g c =
    let f = c.args.self.now in
    let a = c.args.a in
    let is : IsFieldModulus f = subst IsFieldModulus c.self.view_is c.self.invariant.1 in
    let inv = c.loop-i.invariant in
    let last = c.self.inside.m - 1 in
    let top = c.ilog2-top.result in
    let i = c.loop-i.i in
    let s = top - i - 1 in
    let now : top - i ≡ suc s = omega (arith, c.loop-i-test.true) in
    let then : top - (i + 1) ≡ s = omega (arith, c.loop-i-test.true) in
    let n = last / 2 ^ (top - i) in
    let digit = last / 2 ^ s % 2 in
    let n_is : last / 2 ^ suc s ≡ n = ap (λ k. last / 2 ^ k) (sym now) in
    let next : last / 2 ^ (top - (i + 1)) ≡ n + n + digit = ap (λ k. last / 2 ^ k) then ∙ digits_next last s ∙ ap (λ n. n + n + digit) n_is in
    let twice : field_product f c.mul-power.result a ≡ frobenius f (n + n) a =
    ap (λ x. field_product f x a) (c.mul-power.ensures.value ∙ ap (λ x. field_product f x c.loop-i.power) c.pow2.ensures.value)
    ∙ chain_doubled f is a c.loop-i.power n inv.power_is in
    record {
      power_is =
          elim c.if-last-top-eq1.branch [
            | then-last-top-eq1 w ↦
                let up : last / 2 ^ (top - (i + 1)) ≡ suc (n + n) = omega (arith, next, w.if-last-top-eq1.true) in
                ap (λ x. field_product f x a)
                (w.power-is ∙ w.mul-power-then-last-top-eq1.ensures.value ∙ ap (λ x. field_product f x a) w.square.ensures.value)
                ∙ chain_more f is a c.mul-power.result (n + n) twice
                ∙ ap (λ k. frobenius f k a) (sym up)
            | else-last-top-eq1 w ↦
                let even : digit ≡ 0 = omega (arith, w.if-last-top-eq1.false, mod-lt (last / 2 ^ s) {m = 2} (omega arith)) in
                let up : last / 2 ^ (top - (i + 1)) ≡ n + n = omega (arith, next, even) in
                ap (λ x. field_product f x a) w.power-is ∙ twice ∙ ap (λ k. frobenius f k a) (sym up)
          ];
      power_below =
          elim c.if-last-top-eq1.branch [
            | then-last-top-eq1 w ↦ rw w.power-is w.mul-power-then-last-top-eq1.ensures.below
            | else-last-top-eq1 w ↦ rw w.power-is c.mul-power.ensures.below
          ];
      some = omega (arith, next, inv.some);
      counted =
          elim c.if-last-top-eq1.branch [
            | then-last-top-eq1 w ↦
                omega (arith, next, w.if-last-top-eq1.true, inv.some, inv.counted, c.pow2.ensures.cost, c.mul-power.ensures.cost, w.square.ensures.cost, w.mul-power-then-last-top-eq1.ensures.cost, w.steps-is)
            | else-last-top-eq1 w ↦
                omega (arith, next, inv.some, inv.counted, c.pow2.ensures.cost, c.mul-power.ensures.cost, w.steps-is)
          ];
    }

pub returns-clause-inverse : goal.returns-clause-inverse
returns-clause-inverse g c =
    let f = c.args.self.now in
    let a = c.args.a in
    let is : IsFieldModulus f = subst IsFieldModulus c.self.view_is c.self.invariant.1 in
    let degree : c.self.inside.m ≡ f.degree = ap (λ f. f.degree) c.self.view_is in
    let last = c.self.inside.m - 1 in
    let top = c.ilog2-top.result in
    let all : c.loop-i.i ≡ top = omega (arith, c.loop-i.auto.i-end, c.loop-i-test.false) in
    let n : last / 2 ^ (top - c.loop-i.i) ≡ last = digits_last last top c.loop-i.i all in
    let whole : suc last ≡ f.degree = omega (arith, degree, is.modulus.at_least_one) in
    rw c.square-2.ensures.value
    (chain_inverse f is a c.loop-i.power last c.requires (omega (arith, c.if-a-eq0.false)) whole
    (c.loop-i.invariant.power_is ∙ ap (λ k. frobenius f k a) n))
