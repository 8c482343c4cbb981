use Rattle.std.proofs.Common.{◌≡◌, ◌+◌}
use Rattle.kk_workers.proofs.receiver.reserve.Given as goal

abbrev pub invariant-loop-i : goal.invariant-loop-i
invariant-loop-i l = record {
  table : l.founder.table ≡ l.fn.founder.table;
  given : (l.founder.passes ≡ l.fn.founder.passes) × (l.founder.given ≡ l.fn.founder.given) × (l.founder.records ≡ l.fn.founder.records);
  spare : l.founder.spare ≡ l.fn.founder.spare + l.i;
}
