use Rattle.std.proofs.Common.{◌≡◌, ◌∙◌, ℕ, ◌<◌, ◌^◌, length, sym, subst, ap, arith}
use Rattle.kk_machine.specs.Spaces.{new_spaces}
use Rattle.kk_machine.specs.World.{World}
use Rattle.kk_machine.proofs.WorldFields.{split_keeps}
use Rattle.kk_machine.proofs.world.World.split.Goals as goal

pub invariant_of-self-2 : goal.invariant_of-self-2
invariant_of-self-2 c =
    let few = subst (λ (w : World). length w.actors < 2 ^ 32) (sym c.self.view_is) c.requires in
    let long : c.len.result ≡ length c.self.inside.words.items = omega (arith, c.len.ensures, c.self.inside.words.ok) in
    (split_keeps _ _ _ _ c.in_ok-seen.seen c.self.invariant few (c.in_ok-seen.ensures ∙ ap (λ (n : ℕ). new_spaces n c.self.inside.width) long) c.in_ok-push.ensures.items).1
