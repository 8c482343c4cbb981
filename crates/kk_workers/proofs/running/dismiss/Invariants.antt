use Rattle.std.proofs.Common.{◌≡◌, ◌*◌, ◌^◌, ◌≤◌, take, drop, map}
use Rattle.std.specs.Prelude.{vec_len, vec_capacity}
use Rattle.kk_workers.specs.Totals.{AreWithin, sum_of_totals}
use Rattle.kk_workers.specs.Runs.{founder_of, lists_in}
use Rattle.kk_workers.proofs.running.dismiss.Given as goal

abbrev pub invariant-loop-i : goal.invariant-loop-i
invariant-loop-i g l = record {
  workers : l.workers.items ≡ drop l.i l.fn.workers.items;
  gates : l.gates.items ≡ map (λ w. w.gate) (take l.i l.fn.workers.items);
  gates_len : vec_len l.gates ≡ l.i;
  gates_room : vec_capacity l.gates ≡ vec_capacity l.fn.gates;
  counts : l.counts.items ≡ map (λ w. w.counts) (take l.i l.fn.workers.items);
  counts_len : vec_len l.counts ≡ l.i;
  counts_room : vec_capacity l.counts ≡ vec_capacity l.fn.counts;
  kept : lists_in l.kept.items ≡ map (λ w. w.answers) (take l.i l.fn.workers.items);
  kept_len : vec_len l.kept ≡ l.i;
  kept_room : vec_capacity l.kept ≡ vec_capacity l.fn.kept;
  totals : l.totals ≡ sum_of_totals (map (λ w. w.totals) (take l.i l.fn.workers.items));
  within : AreWithin l.totals;
  few : l.totals.inserts ≤ l.i * 2 ^ 39;
  founder : l.founder ≡ founder_of l.table l.fn.founder.passes l.fn.founder.given (map (λ w. w.pass.known) (take l.i l.fn.workers.items)) l.fn.founder.spare;
}
