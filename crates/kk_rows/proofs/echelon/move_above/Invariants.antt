use Rattle.std.proofs.Common.{◌≡◌, ◌+◌, ◌≤◌, length, take, drop, map}
use Rattle.std.specs.Prelude.{All}
use Rattle.kk_rows.specs.Echelon.{cleared}
use Rattle.kk_rows.specs.Rows.{numbers}
use Rattle.kk_rows.proofs.echelon.move_above.Given as goal

-- the rows before `place` have moved, and those after it stand as they stood
abbrev pub invariant-loop-place : goal.invariant-loop-place
invariant-loop-place g l = record {
  long : length l.rows ≡ length l.fn.rows;
  front : numbers (take l.place l.rows) ≡ map (λ row. cleared row l.fn.v.0) (take l.place (numbers (drop 1 l.fn.rows)));
  lead : g.W.Word.number l.lead ≡ l.fn.v.0;
  back : drop (l.place + 1) l.rows ≡ drop (l.place + 1) l.fn.rows;
  above : All (λ row. l.fn.v.0 ≤ row) (take l.place (numbers (drop 1 l.fn.rows)));
}
