use Rattle.std.proofs.Common.{◌≡◌, ◌∙◌, [], ap, sym, refl, subst, rules}
use Rattle.kk_outside.specs.Change.{change}
use Rattle.kk_outside.specs.Gate.{GateTold}
use Rattle.kk_frame.specs.Asking.{FaultCause, frames_of}
use Rattle.kk_workers.specs.Worker.{WorkerView}
use Rattle.kk_workers.specs.WorkerCalls.{SamePass, WasWorkedOff}
use Rattle.kk_workers.specs.WorkerLoop.{IsUnderWay}
use Rattle.kk_workers.proofs.Kept.{IsInserter-start}
use Rattle.kk_workers.proofs.WorkerLoop.{IsUnderWay-start, IsUnderWay-more, WasWorkedOff-end, few_inserts}
use Rattle.kk_workers.proofs.working.work.Goals as goal

pub loop-buf-init : goal.loop-buf-init
loop-buf-init g c =
    let t = c.args.ticket.now in
    let W = WorkerView g.row.G.Denot in
    let told : g.row.G.Denot → GateTold = g.G.Gate.told in
    let inside = c.worker.inside in
    let is = c.worker.view_is in
    let none : inside.inserter.pass.known.calls ≡ [] = ap (λ (w : W). w.pass.known.calls) is ∙ c.requires.no_calls in
    record {
      same = subst (λ (w : W). SamePass w.pass inside.inserter.pass) is (record { table = refl; number = refl; note = refl });
      working = subst (λ (w : W). IsUnderWay t c.args.plan.now (change (told w.gate) (told inside.gate)) c.new-intake.result inside.inserter.pass.known.calls) is
          (IsUnderWay-start t c.args.plan.now (told inside.gate) c.new-intake.result inside.inserter.pass.known.calls c.new-intake.ensures.after c.new-intake.ensures.running c.new-intake.ensures.limits c.new-intake.ensures.calls none);
      inserter = IsInserter-start t inside.inserter (ap (λ (w : W). w.totals) is ∙ c.requires.no_inserts) none (ap (λ (w : W). w.answers) is ∙ c.requires.no_answers);
    }

pub insert_frames-requires-clause-table : goal.insert_frames-requires-clause-table
insert_frames-requires-clause-table g c = c.loop-buf.invariant.same.table ∙ c.requires.table

pub insert_frames-requires-clause-few : goal.insert_frames-requires-clause-few
insert_frames-requires-clause-few g c =
    few_inserts c.args.ticket.now c.args.plan.now (change (g.G.Gate.told c.args.worker.now.gate) (g.G.Gate.told c.loop-buf.worker-inside.gate)) c.loop-buf.intake c.loop-buf.worker-inside.inserter.pass.known.calls c.loop-buf.worker-inside.inserter.totals
    (search rules) c.runs.ensures.intake c.loop-buf.invariant.working c.loop-buf.invariant.inserter.totals

pub loop-buf-preserved : goal.loop-buf-preserved
loop-buf-preserved g c =
    let told : g.row.G.Denot → GateTold = g.G.Gate.told in
    let inv = c.loop-buf.invariant in
    let inside = c.loop-buf.worker-inside in
    let start = told c.args.worker.now.gate in
    record {
      same = record {
        table = c.insert_frames.ensures.pass.table ∙ inv.same.table;
        number = c.insert_frames.ensures.pass.number ∙ inv.same.number;
        note = c.insert_frames.ensures.pass.note ∙ inv.same.note;
      };
      working = IsUnderWay-more c.args.ticket.now c.args.plan.now start (told inside.gate) (told c.ask-frames.new.gate) c.loop-buf.intake c.ask-frames.new.self inside.inserter.pass.known.calls c.insert_frames.new.self.pass.known.calls
          (frames_of c.ask-frames.result) inv.working (c.ask-frames.ensures.asked start inv.working.events inv.working.frames inv.working.asked)
          c.ask-frames.ensures.one c.ask-frames.ensures.limits c.ask-frames.ensures.sooner c.insert_frames.ensures.brings;
      inserter = c.insert_frames.ensures.inserter;
    }

pub returns-clause-pass : goal.returns-clause-pass
returns-clause-pass g c = c.loop-buf.invariant.same

pub returns-clause-worked : goal.returns-clause-worked
returns-clause-worked g c =
    let gate = change (g.G.Gate.told c.args.worker.now.gate) (g.G.Gate.told c.loop-buf.worker-inside.gate) in
    let calls = c.loop-buf.worker-inside.inserter.pass.known.calls in
    subst (λ x. WasWorkedOff c.args.ticket.now c.args.plan.now gate x calls) (sym c.counts-worker-inside.ensures.counts)
    (WasWorkedOff-end c.args.ticket.now c.args.plan.now gate c.loop-buf.intake calls (sym c.runs.ensures.running ∙ c.loop-buf-test.false) c.loop-buf.invariant.working)

pub returns-clause-few : goal.returns-clause-few
returns-clause-few g c =
    few_inserts c.args.ticket.now c.args.plan.now (change (g.G.Gate.told c.args.worker.now.gate) (g.G.Gate.told c.loop-buf.worker-inside.gate)) c.loop-buf.intake c.loop-buf.worker-inside.inserter.pass.known.calls c.loop-buf.worker-inside.inserter.totals
    (search rules) c.runs.ensures.intake c.loop-buf.invariant.working c.loop-buf.invariant.inserter.totals

pub returns-clause-totals : goal.returns-clause-totals
returns-clause-totals g c = c.loop-buf.invariant.inserter.totals

pub returns-clause-answers : goal.returns-clause-answers
returns-clause-answers g c = c.loop-buf.invariant.inserter.answers

pub returns-clause-all_answers : goal.returns-clause-all_answers
returns-clause-all_answers g c = c.loop-buf.invariant.inserter.all

pub returns-clause-cause : goal.returns-clause-cause
returns-clause-cause g c =
    let gate = change (g.G.Gate.told c.args.worker.now.gate) (g.G.Gate.told c.loop-buf.worker-inside.gate) in
    subst (FaultCause gate) (sym c.counts-worker-inside.ensures.counts) c.loop-buf.invariant.working.asked.cause
