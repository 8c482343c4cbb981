use Rattle.std.proofs.Common.{◌≡◌, ℕ, ◌*◌, ◌^◌, ◌<◌, length, ap, ◌∙◌, inl, inr, arith}
use Rattle.std.proofs.Math.Nat.{one-mul}
use Rattle.std.proofs.lemmas.Bool.{cases_lt}
use Rattle.std.proofs.lemmas.List.{get_or-set_same, get_or-set_other, length-set, length-replicate}
use Rattle.kk_field.proofs.Residues.{term_first, term_next}
use Rattle.kk_code.specs.Encoder.{multiples}
use Rattle.kk_code.proofs.PackedMultiples.{multiples-residue, two_fits}
use Rattle.kk_code.proofs.multiples.units.Goals as goal

pub loop-j-init : goal.loop-j-init
loop-j-init g c =
    let f = c.args.field.now in
    let two = two_fits f.degree c.requires.some in
    let one : 1 < 2 ^ f.degree = omega (arith, two) in
    record {
      long = length-replicate {A = ℕ} 64 0;
      x_is = term_first f c.requires.modulus.low_below 1 one;
      below = one;
      done = λ i less. absurd (omega (arith, less));
    }

pub mul-x-requires-clause-b_below : goal.mul-x-requires-clause-b_below
mul-x-requires-clause-b_below g c = two_fits c.args.field.now.degree c.requires.some

pub loop-j-preserved : goal.loop-j-preserved
loop-j-preserved g c =
    let f = c.args.field.now in
    let h = c.requires.modulus.low_below in
    let j = c.loop-j.j in
    let units = c.loop-j.units in
    let y = c.multiples.result in
    let inv = c.loop-j.invariant in
    let room : j < length units = omega (arith, inv.long, c.loop-j-test.true) in
    let y_is : y ≡ multiples f c.args.base c.args.n (2 ^ j) =
    c.multiples.ensures ∙ ap (multiples f c.args.base c.args.n) inv.x_is
    ∙ multiples-residue f h c.args.base c.args.n (1 * 2 ^ j) ∙ ap (multiples f c.args.base c.args.n) (one-mul (2 ^ j)) in
    record {
      long = length-set units j y ∙ inv.long;
      x_is = c.mul-x.ensures.value ∙ term_next f h 1 j c.loop-j.x inv.x_is;
      below = c.mul-x.ensures.below;
      done = λ i less. elim (cases_lt i j) [
        | inl before ↦ get_or-set_other units j i y 0 (λ e. omega (arith, e, before)) ∙ inv.done i before
        | inr here ↦ let e : i ≡ j = omega (arith, less, here) in
            rw e (get_or-set_same units j y 0 room ∙ y_is)
      ];
    }
