use Rattle.std.proofs.Common.{◌≡◌, ℕ, ap, ◌∙◌, replicate, List, [], ◌∷◌, ◌++◌, true, ◌+◌, arith}
use Rattle.kk_machine.specs.declared.world.Actor.{Actor}
use Rattle.kk_machine.proofs.WorldFields.{new_is_world, kept_actor}
use Rattle.kk_machine.proofs.world.World.new.Goals as goal

pub invariant_of-result : goal.invariant_of-result
invariant_of-result c =
    let done : c.loop.counter ≡ c.args.generations = omega (arith, c.loop-test.false, c.loop.auto) in
    (new_is_world c.args.generations c.args.width _ _ c.in_ok-new.field-0 c.requires.some c.requires.fits c.ranges.generations.fits
    (c.loop.invariant ∙ ap (λ (n : ℕ). replicate n (replicate (c.args.width + 1) 0)) done) c.in_ok-new.ensures
    (c.in_ok-push-2.ensures.items ∙ ap (λ (l : List Actor). l ++ kept_actor true c.in_ok-new.field-0 ∷ []) c.new-actors.ensures.items)).1
