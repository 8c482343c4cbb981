use Rattle.std.proofs.Common.{◌∙◌, refl}
use Rattle.kk_workers.specs.Runs.{lists_in}
use Rattle.kk_workers.proofs.Closings.{Closes-none}
use Rattle.kk_workers.proofs.closing.close_all.Goals as goal

pub loop-generation-init : goal.loop-generation-init
loop-generation-init c = record {
  same = record { table = refl; number = refl; note = refl };
  closes = Closes-none (lists_in c.args.kept.now) c.args.pass.now.known c.requires.first;
}

pub loop-generation-preserved : goal.loop-generation-preserved
loop-generation-preserved c =
    let same = c.loop-generation.invariant.same in
    let more = c.close_open.ensures.pass in
    record {
      same = record { table = more.table ∙ same.table; number = more.number ∙ same.number; note = more.note ∙ same.note };
      closes = c.close_open.ensures.closes c.loop-generation.invariant.closes;
    }
