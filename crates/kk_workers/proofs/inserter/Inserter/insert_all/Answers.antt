use Rattle.std.proofs.Common.{◌^◌, ◌<◌, ◌∷◌, [], take, get_or, ℕ, refl, sym, ◌∙◌, subst, arith}
use Rattle.kk_rows.specs.declared.rows.Row.{Row}
use Rattle.kk_code.specs.Ticket.{generations}
use Rattle.kk_frame.specs.FrameView.{pairs}
use Rattle.kk_frame.proofs.Batches.{in_batch, batch_more}
use Rattle.kk_table.specs.declared.view.Shape.{Shape}
use Rattle.kk_workers.specs.WorkerLoop.{InsertsInOrder}
use Rattle.kk_workers.proofs.Bringing.{InsertsInOrder-nothing, InsertsInOrder-append}
use Rattle.kk_workers.proofs.inserter.Inserter.insert_all.Goals as goal

-- what a batch is read as past its end
abbrev no_frame : ℕ × Row
no_frame = (0, record { 0 = 0 })

pub loop-generation-init : goal.loop-generation-init
loop-generation-init c = record {
  same = record { table = refl; number = refl; note = refl };
  brings = InsertsInOrder-nothing (generations c.args.ticket.now) c.args.goal c.args.self.now.pass.known.calls;
  inserter = c.requires.inserter;
  few = omega arith;
}

pub insert-requires-clause-generation : goal.insert-requires-clause-generation
insert-requires-clause-generation c = subst (λ (s : Shape). (get_or c.as_slice-generation-items.result.now c.loop-generation.generation-index no_frame).0 < s.generations) (sym c.requires.shape) (in_batch c.args.ticket.now c.as_slice-generation-items.result.now c.args.batch.now c.loop-generation.generation-index no_frame c.as_slice-generation-items.ensures.frames c.requires.frames c.loop-generation-test.true).0

pub insert-requires-clause-row : goal.insert-requires-clause-row
insert-requires-clause-row c = subst (λ (s : Shape). (get_or c.as_slice-generation-items.result.now c.loop-generation.generation-index no_frame).1.0 < 2 ^ s.width) (sym c.requires.shape) (in_batch c.args.ticket.now c.as_slice-generation-items.result.now c.args.batch.now c.loop-generation.generation-index no_frame c.as_slice-generation-items.ensures.frames c.requires.frames c.loop-generation-test.true).1

pub loop-generation-preserved : goal.loop-generation-preserved
loop-generation-preserved c =
    let loop = c.loop-generation in
    let n = generations c.args.ticket.now in
    let frames = c.as_slice-generation-items.result.now in
    let frame : ℕ × Row = get_or frames loop.generation-index no_frame in
    let old = c.args.self.now.pass.known.calls in
    let calls = loop.self.pass.known.calls in
    let calls' = c.insert.new.self.pass.known.calls in
    let same = c.insert.ensures.pass in
    record {
      same = record {
        table = same.table ∙ loop.invariant.same.table;
        number = same.number ∙ loop.invariant.same.number;
        note = same.note ∙ loop.invariant.same.note;
      };
      brings = subst (InsertsInOrder n c.args.goal old calls') (sym (batch_more frames loop.generation-index no_frame c.loop-generation-test.true))
          (InsertsInOrder-append n c.args.goal old calls calls' (take loop.generation-index (pairs frames)) ((frame.0, frame.1.0) ∷ []) loop.invariant.brings c.insert.ensures.brings);
      inserter = c.insert.ensures.inserter;
      few = omega (arith, c.insert.ensures.one, loop.invariant.few);
    }
