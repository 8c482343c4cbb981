use Rattle.kk_machine.proofs.WorldFields.{attempt_of, telling, attempted, attempt_keeps}
use Rattle.kk_machine.proofs.world.World.attempt.Goals as goal

pub tell-requires-clause-generation : goal.tell-requires-clause-generation
tell-requires-clause-generation c =
    (telling (attempt_of c.self.invariant c.self.view_is c.requires c.generation-generation.ensures c.sight-sight.ensures c.len-place.ensures.length
    c.word-found.ensures c.leaves-left.ensures c.index_mut-words.ensures.value c.index_mut-actor.ensures.value)).0

pub tell-requires-clause-word : goal.tell-requires-clause-word
tell-requires-clause-word c =
    (telling (attempt_of c.self.invariant c.self.view_is c.requires c.generation-generation.ensures c.sight-sight.ensures c.len-place.ensures.length
    c.word-found.ensures c.leaves-left.ensures c.index_mut-words.ensures.value c.index_mut-actor.ensures.value)).1

pub invariant_of-self : goal.invariant_of-self
invariant_of-self c =
    attempt_keeps (attempt_of c.self.invariant c.self.view_is c.requires c.generation-generation.ensures c.sight-sight.ensures c.len-place.ensures.length
    c.word-found.ensures c.leaves-left.ensures c.index_mut-words.ensures.value c.index_mut-actor.ensures.value)
    c.tell.new.self c.tell.ensures

pub returns-clause-after : goal.returns-clause-after
returns-clause-after c =
    attempted (attempt_of c.self.invariant c.self.view_is c.requires c.generation-generation.ensures c.sight-sight.ensures c.len-place.ensures.length
    c.word-found.ensures c.leaves-left.ensures c.index_mut-words.ensures.value c.index_mut-actor.ensures.value)
    c.tell.new.self c.tell.ensures
