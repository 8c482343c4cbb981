use Rattle.std.proofs.Common.{◌^◌, ◌<◌, sym, subst, arith}
use Rattle.std.proofs.Math.Pow.{pow-lt}
use Rattle.std.proofs.lemmas.Nat.{one_shl}
use Rattle.kk_decode.proofs.fixed_map.are_units.Goals as goal

pub column_values-values-requires-clause-x_below : goal.column_values-values-requires-clause-x_below
column_values-values-requires-clause-x_below g c =
    let i = c.loop-i.i in
    subst (λ x. x < 2 ^ c.args.field.now.degree) (sym (one_shl i 64 (omega (arith, c.loop-i-test.true, c.requires.columns))))
    (pow-lt (omega (arith, c.loop-i-test.true, c.requires.points)))
