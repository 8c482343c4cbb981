use Rattle.std.proofs.Common.{◌≡◌, ◌^◌, ◌<◌, arith, subst, ap, ◌∙◌}
use Rattle.std.proofs.Math.Pow.{pow_pos}
use Rattle.std.specs.Int.Bits.{xor_lt}
use Rattle.kk_field.specs.Polynomial.{product_below}
use Rattle.kk_field.specs.Field.{residue}
use Rattle.kk_field.proofs.Residues.{sum_none, sum_more, sum_same, sum_all, term_first, term_next}
use Rattle.kk_field.proofs.ring.Ring.product.Goals as goal
use Rattle.kk_field.proofs.ring.Ring.product.Goals.{then-b-i-eq1, else-b-i-eq1}

pub loop-i-init : goal.loop-i-init
loop-i-init c =
    let f = c.args.self.now in
    let low : f.low < 2 ^ f.degree = subst (λ f. f.low < 2 ^ f.degree) c.self.view_is c.self.invariant.2 in
    record {
      sum_is = sum_none f low c.args.a c.args.b;
      sum_below = pow_pos f.degree;
      shifted_is = term_first f low c.args.a c.requires.a_below;
      shifted_below = c.requires.a_below;
    }

pub doubled-shifted-requires : goal.doubled-shifted-requires
doubled-shifted-requires c = c.loop-i.invariant.shifted_below

pub loop-i-preserved : goal.loop-i-preserved
loop-i-preserved c =
    let f = c.args.self.now in
    let low : f.low < 2 ^ f.degree = subst (λ f. f.low < 2 ^ f.degree) c.self.view_is c.self.invariant.2 in
    let inv = c.loop-i.invariant in
    record {
      sum_is =
          elim c.if-b-i-eq1.branch [
            | then-b-i-eq1 w ↦ w.sum-is ∙ sum_more f low c.args.a c.args.b c.loop-i.i c.loop-i.sum c.loop-i.shifted inv.sum_is inv.shifted_is w.if-b-i-eq1.true
            | else-b-i-eq1 w ↦ w.sum-is ∙ sum_same f low c.args.a c.args.b c.loop-i.i c.loop-i.sum inv.sum_is w.if-b-i-eq1.false
          ];
      sum_below =
          elim c.if-b-i-eq1.branch [
            | then-b-i-eq1 w ↦ rw w.sum-is (xor_lt f.degree c.loop-i.sum c.loop-i.shifted inv.sum_below inv.shifted_below)
            | else-b-i-eq1 w ↦ rw w.sum-is inv.sum_below
          ];
      shifted_is = c.doubled-shifted.ensures.value ∙ term_next f low c.args.a c.loop-i.i c.loop-i.shifted inv.shifted_is;
      shifted_below = c.doubled-shifted.ensures.below;
    }

pub returns-clause-value : goal.returns-clause-value
returns-clause-value c =
    let f = c.args.self.now in
    let low : f.low < 2 ^ f.degree = subst (λ f. f.low < 2 ^ f.degree) c.self.view_is c.self.invariant.2 in
    let degree : c.self.inside.m ≡ f.degree = ap (λ f. f.degree) c.self.view_is in
    let all : c.loop-i.i ≡ f.degree = omega (arith, degree) in
    c.loop-i.invariant.sum_is ∙ ap (λ i. residue f (product_below c.args.a c.args.b i)) all
    ∙ sum_all f low c.args.a c.args.b c.requires.b_below

pub returns-clause-below : goal.returns-clause-below
returns-clause-below c = c.loop-i.invariant.sum_below
