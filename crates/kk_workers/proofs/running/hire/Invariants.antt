use Rattle.std.proofs.Common.{◌≡◌, ◌+◌, ◌-◌, [], take, drop, length}
use Rattle.std.specs.Prelude.{vec_len, vec_capacity}
use Rattle.kk_workers.specs.Runs.{hired, founder_of}
use Rattle.kk_workers.proofs.running.hire.Given as goal

abbrev pub invariant-loop-i : goal.invariant-loop-i
invariant-loop-i g l = record {
  gates : l.gates.items ≡ drop l.i l.fn.gates.items;
  gates_room : vec_capacity l.gates ≡ vec_capacity l.fn.gates;
  rooms : l.rooms.items ≡ drop l.i l.fn.rooms.items;
  rooms_room : vec_capacity l.rooms ≡ vec_capacity l.fn.rooms;
  workers : l.workers.items ≡ hired l.table l.generations 0 (take l.i l.fn.gates.items);
  len : vec_len l.workers ≡ l.i;
  workers_room : vec_capacity l.workers ≡ vec_capacity l.fn.workers;
  founder : l.founder ≡ founder_of l.table (length l.fn.gates.items + 1) l.i [] (length l.fn.gates.items + 1 - l.i);
}
