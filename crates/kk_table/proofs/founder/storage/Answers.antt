use Rattle.std.proofs.Common.{◌≡◌, ℕ, sym, subst, arith}
use Rattle.kk_table.specs.Founder.{IsFresh}
use Rattle.kk_table.proofs.Storages.{fresh_more, fresh_none}
use Rattle.kk_table.proofs.founder.storage.Goals as goal

pub loop-init : goal.loop-init
loop-init c = fresh_none _ _ c.in_ok-seen.ensures.items

pub loop-preserved : goal.loop-preserved
loop-preserved c = fresh_more _ _ _ _ _ c.in_ok-push.ensures.items c.loop.invariant c.new.ensures

pub returns : goal.returns
returns c =
    let done : c.loop.counter ≡ c.args.shape.generations = omega (arith, c.loop-test.false, c.loop.auto) in
    subst (IsFresh c.args.shape.width c.args.shape.generations) (sym c.into_boxed_slice.ensures.items)
    (subst (λ (n : ℕ). IsFresh c.args.shape.width n c.loop.seen.items) done c.loop.invariant)
