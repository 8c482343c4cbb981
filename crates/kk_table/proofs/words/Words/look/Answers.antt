use Rattle.std.proofs.Common.{false}
use Rattle.kk_table.proofs.Aims.{look_aimed, counted}
use Rattle.kk_table.proofs.words.Words.look.Goals as goal

pub load-requires : goal.load-requires
load-requires g c =
    let aim = c.requires.aim in
    let aimed = c.requires.aimed in
    (c.requires.table, aimed.inside, look_aimed _ _ _ _ _ _ _ _ _ _ aim.0 aim.1 aimed)

pub returns-clause-counted : goal.returns-clause-counted
returns-clause-counted g c = counted g.A.Aim.width false g.A.Aim.call c.args.seat.now.me c.load.result c.load.new.seat.me.0 c.requires.aimed.knows c.load.ensures.2.0
