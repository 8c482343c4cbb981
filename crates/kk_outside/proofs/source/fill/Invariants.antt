use Rattle.std.proofs.Common.{◌≡◌, ◌-◌, ◌≤◌, [], length, take}
use Rattle.kk_outside.specs.Change.{change}
use Rattle.kk_outside.specs.Source.{Took}
use Rattle.kk_outside.proofs.source.fill.Given as goal

abbrev pub invariant-loop-have : goal.invariant-loop-have
invariant-loop-have g l = record {
  within : l.have ≤ length l.buf;
  took : Took (take l.have l.buf) [] (change (g.S.Source.told l.fn.source) (g.S.Source.told l.source));
  same : (g.S.Source.told l.source).faults ≡ (g.S.Source.told l.fn.source).faults;
}

abbrev pub decreases-loop-have : goal.decreases-loop-have
decreases-loop-have g l = length l.initial.buf - l.have
