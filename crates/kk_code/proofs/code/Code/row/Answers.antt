use Rattle.std.proofs.Common.{◌+◌, ◌*◌, ◌%◌, ◌^◌, ap, ap₂, ◌∙◌}
use Rattle.kk_code.proofs.Values.{row_joined}
use Rattle.kk_code.proofs.code.Code.row.Goals as goal

pub returns : goal.returns
returns c =
    let m = c.args.self.now.field.degree in
    let joined = row_joined c.args.x c.args.y m c.m.result c.m.ensures.degree c.m.ensures.in_range.m_high c.requires.x_below c.requires.y_below in
    ap₂ (λ x y. x * 2 ^ c.m.result % 2 ^ 128 + y) c.from-high.ensures c.from-low.ensures ∙ ap (λ n. n + c.args.y) joined.0
