use Rattle.kk_workers.specs.WorkerCalls.{SamePass}
use Rattle.kk_workers.specs.Runs.{lists_in, Closes}
use Rattle.kk_workers.proofs.closing.close_all.Given as goal

abbrev pub invariant-loop-generation : goal.invariant-loop-generation
invariant-loop-generation l = record {
  same : SamePass l.fn.pass l.pass;
  closes : Closes (lists_in l.kept) l.generation l.pass.known;
}
