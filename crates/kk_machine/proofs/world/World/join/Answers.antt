use Rattle.kk_machine.proofs.WorldFields.{join_keeps}
use Rattle.kk_machine.proofs.world.World.join.Goals as goal

pub invariant_of-self : goal.invariant_of-self
invariant_of-self c =
    (join_keeps _ _ _ _ c.args.actor c.index_mut-actor.result.now c.self.invariant c.self.view_is c.requires c.index_mut-actor.ensures.value).1

pub returns : goal.returns
returns c =
    (join_keeps _ _ _ _ c.args.actor c.index_mut-actor.result.now c.self.invariant c.self.view_is c.requires c.index_mut-actor.ensures.value).0
