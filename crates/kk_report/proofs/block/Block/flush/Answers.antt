use Rattle.std.proofs.Common.{subst, ◌∙◌}
use Rattle.std.proofs.lemmas.Result.{err_from_is_err_and}
use Rattle.kk_outside.specs.Change.{change}
use Rattle.kk_report.proofs.Blocks.{IsCut, Adds-write}
use Rattle.kk_report.proofs.block.Block.flush.Goals as goal

pub returns-in_err-write_all-clause-adds : goal.returns-in_err-write_all-clause-adds
returns-in_err-write_all-clause-adds g c =
    let told = g.K.Sink.told in
    let p = err_from_is_err_and c.from_residual.result c.from_residual.ensures.1 in
    let cut = subst (IsCut (change (told c.args.sink.now) (told c.write_all.new.sink))) (c.as_slice.ensures.value ∙ c.self.view_is) c.in_err-write_all.ensures.writes.part in
    rw p.1 (Adds-write (told c.args.sink.now) (told c.write_all.new.sink) _ _ cut)
