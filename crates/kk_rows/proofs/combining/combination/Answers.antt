use Rattle.std.proofs.Common.{◌∙◌, sym, arith, rules}
use Rattle.kk_rows.proofs.Combinations.{combination-step, combination-end}
use Rattle.kk_rows.proofs.combining.combination.Goals as goal

-- src/combining.rt:17:5
pub loop-row-preserved : goal.loop-row-preserved
loop-row-preserved c =
    rw c.from.ensures (combination-step c.args.rows.now c.loop-row.row-index c.loop-row.bits c.loop-row.sum record { 0 = 0 } (search rules) ∙ c.loop-row.invariant)

-- src/combining.rt:12:1
pub returns : goal.returns
returns c =
    sym (combination-end c.args.rows.now c.loop-row.row-index c.loop-row.bits c.loop-row.sum (omega (arith, c.loop-row-test.false))) ∙ c.loop-row.invariant
