use Rattle.std.proofs.Common.{ℕ, ◌-◌, ap, arith}
use Rattle.kk_decode.proofs.Rows.{below_from_top}
use Rattle.kk_test_algebra.proofs.degrees.is_element.Goals as goal

pub returns : goal.returns
returns c told =
    below_from_top c.args.a (c.m-top.result - 1) c.args.field.now.degree (omega (arith, c.m-top.ensures.value, c.m-top.ensures.one_or_more)) (ap (λ n. n - 1) c.m-top.ensures.value) (omega (arith, c.if-a-top-gt1.false))
