use Rattle.std.proofs.Common.{true}
use Rattle.kk_table.proofs.Aims.{change_aimed, counted}
use Rattle.kk_table.proofs.words.Words.change.Goals as goal

pub compare_exchange-requires : goal.compare_exchange-requires
compare_exchange-requires g c =
    let aim = c.requires.aim in
    let aimed = c.requires.aimed in
    (c.requires.table, aimed.inside, change_aimed _ _ _ _ _ _ _ _ _ _ _ aim.0 aim.1 c.requires.new aimed)

pub returns-clause-counted : goal.returns-clause-counted
returns-clause-counted g c = counted g.A.Aim.width true g.A.Aim.call c.args.seat.now.me c.compare_exchange.result c.compare_exchange.new.seat.me.0 c.requires.aimed.knows c.compare_exchange.ensures.2.0
