use Rattle.std.proofs.Math.Pow.{pow_mono}
use Rattle.std.proofs.Common.{◌/◌, ◌<◌, ◌≤◌, ◌%◌, ◌^◌, bit_and, ap, ◌∙◌, arith}
use Rattle.std.proofs.lemmas.Nat.{and_mask}
use Rattle.kk_code.proofs.Values.{x_part_below}
use Rattle.kk_code.proofs.code.Code.parts.Goals as goal

pub returns-clause-y : goal.returns-clause-y
returns-clause-y c =
    let m = c.m-m.result in
    let row = c.args.row.0 in
    ap (bit_and row) (c.from.ensures ∙ c.mask.ensures)
    ∙ and_mask row m ∙ ap (λ k. row % 2 ^ k) c.m-m.ensures.degree

pub returns-clause-x_below : goal.returns-clause-x_below
returns-clause-x_below c =
    let p = c.args.self.now in
    let row = c.args.row.0 in
    rw c.m-m.ensures.degree (x_part_below p.l p.field.degree row c.m-m.ensures.in_range.l_high c.requires)

pub overflow_cast-result-2 : goal.overflow_cast-result-2
overflow_cast-result-2 c =
    let p = c.args.self.now in
    let row = c.args.row.0 in
    let below : row / 2 ^ c.m-m.result < 2 ^ p.field.degree = rw c.m-m.ensures.degree (x_part_below p.l p.field.degree row c.m-m.ensures.in_range.l_high c.requires) in
    let m : 2 ^ p.field.degree ≤ 2 ^ 64 = pow_mono c.m-m.ensures.in_range.m_high in
    omega (arith, below, m)
