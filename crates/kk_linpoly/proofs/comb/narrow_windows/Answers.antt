use Rattle.std.proofs.Common.{◌+◌, arith, refl, ap, ◌∙◌}
use Rattle.std.proofs.lemmas.List.{length-set}
use Rattle.kk_field.specs.Polynomial.{product}
use Rattle.kk_linpoly.proofs.Coefficients.{coefficient-lt}
use Rattle.kk_linpoly.proofs.Combs.{windows_more}
use Rattle.kk_linpoly.proofs.comb.narrow_windows.Goals as goal

pub narrow_window-requires : goal.narrow_window-requires
narrow_window-requires c = rw c.entry.ensures (coefficient-lt 60 c.args.vector.now c.requires.small (c.args.first + c.loop-i.i))

pub loop-i-init : goal.loop-i-init
loop-i-init c = record { long = refl; made = λ j k less few. absurd (omega (arith, less)) }

pub loop-i-preserved : goal.loop-i-preserved
loop-i-preserved c =
    let inv = c.loop-i.invariant in
    let i = c.loop-i.i in
    record {
      long = length-set c.loop-i.windows i c.narrow_window.result ∙ inv.long;
      made = windows_more c.args.vector.now c.args.first i c.loop-i.windows c.narrow_window.result (omega (arith, c.loop-i-test.true, inv.long)) inv.made
          (λ k few. c.narrow_window.ensures k few ∙ ap (λ x. product x k) c.entry.ensures);
    }

pub returns : goal.returns
returns c = record { entries = λ i k less few. c.loop-i.invariant.made i k (omega (arith, less, c.loop-i.auto.i-end, c.loop-i-test.false)) few }
