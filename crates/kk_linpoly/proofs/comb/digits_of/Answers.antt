use Rattle.std.proofs.Common.{[], map, arith}
use Rattle.std.proofs.lemmas.List.FromFn.{fill_by_all}
use Rattle.kk_linpoly.specs.Matrix.{digit}
use Rattle.kk_linpoly.proofs.comb.digits_of.Goals as goal

pub returns : goal.returns
returns c =
    fill_by_all (λ d. map (digit d) c.args.elements.now) c.loop-d.digits 16 [] c.loop-d.invariant.long
    (λ k few. c.loop-d.invariant.entries k (omega (arith, few, c.loop-d.auto.d-end, c.loop-d-test.false)))
