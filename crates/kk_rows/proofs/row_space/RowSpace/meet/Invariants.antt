use Rattle.std.proofs.Common.{◌≡◌, ◌≤◌, take}
use Rattle.kk_rows.specs.Rows.{numbers}
use Rattle.kk_rows.proofs.Traces.{MeetSoFar}
use Rattle.kk_rows.proofs.row_space.RowSpace.meet.Given as goal

abbrev pub invariant-loop-row : goal.invariant-loop-row
invariant-loop-row l = record {
  width : l.common.width ≡ l.b.width;
  room : l.len ≤ l.row-index;
  so_far : MeetSoFar (numbers (take l.row-index l.row-items)) l.b.rows l.common.rows (take l.len l.traces);
}
