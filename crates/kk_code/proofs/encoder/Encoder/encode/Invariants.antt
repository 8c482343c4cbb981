use Rattle.std.proofs.Common.{◌≡◌}
use Rattle.kk_code.specs.Encoder.{AreElements, AreValuesFrom}
use Rattle.kk_code.proofs.Values.{rows_below}
use Rattle.kk_code.proofs.encoder.Encoder.encode.Given as goal

-- the first i rows, and the values from there on
abbrev pub invariant-loop-i : goal.invariant-loop-i
invariant-loop-i l = record {
  rows_are : l.rows ≡ rows_below l.self l.u l.i;
  elements : AreElements l.self l.terms.at_last;
  values : AreValuesFrom l.self l.u l.i l.terms;
}
