use Rattle.std.proofs.Common.{[]}
use Rattle.std.proofs.lemmas.Result.{err_from_is_err_and}
use Rattle.kk_report.proofs.Blocks.{Adds-stopped}
use Rattle.kk_report.proofs.block.Block.push.Goals as goal

pub returns-in_err-make_room-clause-adds : goal.returns-in_err-make_room-clause-adds
returns-in_err-make_room-clause-adds g c =
    let p = err_from_is_err_and c.from_residual.result c.from_residual.ensures.1 in
    rw p.1 (Adds-stopped (g.K.Sink.told c.args.sink.now) (g.K.Sink.told c.make_room.new.sink) _ _ [] c.args.piece.now c.in_err-make_room.ensures.adds)
