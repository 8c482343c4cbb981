use Rattle.std.proofs.Common.{◌∙◌, arith}
use Rattle.kk_outside.specs.declared.failed.Failed.{Failed}
use Rattle.kk_outside.proofs.Known.{written_more}
use Rattle.kk_outside.proofs.sink.write_all.Goals as goal

pub loop-done-preserved : goal.loop-done-preserved
loop-done-preserved g c =
    let h = c.in_ok-done.ensures.writes in
    let some = h.some in
    record {
      within = grind arith;
      written = written_more Failed _ _ _ c.args.text.now c.loop-done.done c.in_ok-done.field-0 c.loop-done.invariant.written h.logged (grind arith);
      same = c.in_ok-done.ensures.cause.kept ∙ c.loop-done.invariant.same;
      unchanged = λ none. absurd (omega (arith, none, c.loop-done-test.true));
    }
