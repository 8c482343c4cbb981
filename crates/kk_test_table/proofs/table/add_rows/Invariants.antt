use Rattle.std.proofs.Common.{◌≡◌, true, false, take, All}
use Rattle.kk_rows.specs.Rows.{numbers}
use Rattle.kk_rows.specs.Span.{in_span}
use Rattle.kk_table.specs.Rule.{sight}
use Rattle.kk_test_table.proofs.table.add_rows.Given as goal

abbrev pub invariant-loop-row : goal.invariant-loop-row
invariant-loop-row l = record {
  table : l.pass.table ≡ l.fn.pass.table;
  spanned : (sight l.pass.known 0).closed ≡ false → All (λ r. in_span (sight l.pass.known 0).rows r ≡ true) (numbers (take l.row-index l.rows));
}
