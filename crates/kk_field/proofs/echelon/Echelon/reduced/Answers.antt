use Rattle.std.proofs.Common.{ℕ, ◌*◌, ◌^◌, ◌<◌, ◌≤◌, slice_index, arith, sym, ap, ◌∙◌, subst}
use Rattle.std.proofs.Math.Nat.{pow-suc}
use Rattle.std.specs.Int.Bits.{xor_self, xor_assoc}
use Rattle.kk_field.specs.Echelon.{InSpan, none, more}
use Rattle.kk_field.specs.Polynomial.{HasDegree}
use Rattle.kk_field.proofs.Degrees.{degree_unique, xor_top}
use Rattle.kk_field.proofs.echelon.Echelon.reduced.Goals as goal

-- what `ilog2` says
degree_by_log : (n k : ℕ) → 2 ^ k ≤ n → n < 2 * 2 ^ k → HasDegree n k
degree_by_log n k least below = record { at_least = least; below = omega (arith, pow-suc 2 k) }

pub loop-left-init : goal.loop-left-init
loop-left-init c = subst (InSpan c.args.self.now.pivots) (sym (xor_self c.args.v)) none

pub returns-then-pivot-eq0-clause-free : goal.returns-then-pivot-eq0-clause-free
returns-then-pivot-eq0-clause-free c = λ t d.
    let log = c.ilog2-top.ensures in
    let top = degree_unique c.loop-left.left t c.ilog2-top.result d (degree_by_log c.loop-left.left c.ilog2-top.result log.power_le log.next_power_gt) in
    ap (slice_index c.args.self.now.pivots) top ∙ c.if-pivot-eq0.true

pub loop-left-smaller : goal.loop-left-smaller
loop-left-smaller c =
    let log = c.ilog2-top.ensures in
    let top = c.ilog2-top.result in
    let pivot = slice_index c.args.self.now.pivots top in
    omega (
      arith,
      log.power_le,
      xor_top top c.loop-left.left pivot (degree_by_log c.loop-left.left top log.power_le log.next_power_gt)
          (c.args.self.now.echelon.degrees top c.if-pivot-eq0.false),
    )

pub loop-left-preserved : goal.loop-left-preserved
loop-left-preserved c =
    let pivots = c.args.self.now.pivots in
    let top = c.ilog2-top.result in
    subst (InSpan pivots) (xor_assoc c.args.v c.loop-left.left (slice_index pivots top)) (more top c.loop-left.invariant)
