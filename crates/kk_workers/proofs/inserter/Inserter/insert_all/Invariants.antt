use Rattle.std.proofs.Common.{◌+◌, ◌≤◌, take}
use Rattle.kk_code.specs.Ticket.{generations}
use Rattle.kk_frame.specs.FrameView.{pairs}
use Rattle.kk_workers.specs.WorkerCalls.{SamePass}
use Rattle.kk_workers.specs.WorkerLoop.{InsertsInOrder, IsInserter}
use Rattle.kk_workers.proofs.inserter.Inserter.insert_all.Given as goal

abbrev pub invariant-loop-generation : goal.invariant-loop-generation
invariant-loop-generation l = record {
  same : SamePass l.fn.self.pass l.self.pass;
  brings : InsertsInOrder (generations l.ticket) l.goal l.fn.self.pass.known.calls l.self.pass.known.calls (take l.generation-index (pairs l.generation-items));
  inserter : IsInserter l.ticket l.self;
  few : l.self.totals.inserts ≤ l.fn.self.totals.inserts + l.generation-index;
}
