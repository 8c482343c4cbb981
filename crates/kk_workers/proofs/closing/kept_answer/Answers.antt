use Rattle.std.proofs.Common.{sym, ◌∙◌, arith}
use Rattle.kk_workers.proofs.Kept.{kept_here, kept_further, kept_nowhere}
use Rattle.kk_workers.proofs.closing.kept_answer.Goals as goal

pub loop-room-preserved : goal.loop-room-preserved
loop-room-preserved c = record {
  left = kept_further c.args.kept.now c.loop-room.room-index c.args.generation c.loop-room.invariant.left c.room-item.result c.loop-room-test.true c.room-item.is (sym c.in_default.is ∙ c.answer_at.ensures);
}

pub returns-in-Some : goal.returns-in-Some
returns-in-Some c =
    kept_here c.args.kept.now c.loop-room.room-index c.args.generation c.loop-room.invariant.left c.room-item.result c.in-Some.answer c.loop-room-test.true c.room-item.is
    (sym c.in-Some.is ∙ c.answer_at.ensures)

pub returns : goal.returns
returns c = kept_nowhere c.args.kept.now c.loop-room.room-index c.args.generation c.loop-room.invariant.left (omega (arith, c.loop-room-test.false))
