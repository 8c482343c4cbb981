use Rattle.std.proofs.Common.{◌<◌, length, arith}
use Rattle.kk_machine.proofs.WorldFields.{place_is_there}
use Rattle.kk_machine.proofs.world.World.word.Goals as goal

pub index-requires : goal.index-requires
index-requires c =
    let inside : c.args.place < length c.index-words.result.now.items =
    place_is_there _ _ _ _ c.args.generation c.args.place c.index-words.result.now c.self.invariant c.self.view_is c.requires.generation c.requires.place c.index-words.ensures in
    let counted = c.index-words.result.now.ok in
    omega (arith, inside, counted)
