use Rattle.std.proofs.Common.{◌≡◌, ◌+◌, ◌-◌, take, sym, ap, ◌∙◌, arith}
use Rattle.kk_linpoly.specs.LinPoly.{trimmed}
use Rattle.kk_linpoly.proofs.Loops.{zero_passed, last_found}
use Rattle.kk_linpoly.proofs.places.trimmed_len.Goals as goal

pub loop-len-preserved : goal.loop-len-preserved
loop-len-preserved c =
    let cs = c.args.coefficients.now in
    let n = c.loop-len.len in
    let next : n - 1 + 1 ≡ n = omega arith in
    record {
      within = omega arith;
      same = sym (zero_passed cs (n - 1) (omega arith) c.if-coefficients-len-eq0.true)
          ∙ ap (λ k. trimmed (take k cs)) next ∙ c.loop-len.invariant.same;
    }

pub returns-else-coefficients-len-eq0-clause-front : goal.returns-else-coefficients-len-eq0-clause-front
returns-else-coefficients-len-eq0-clause-front c =
    let cs = c.args.coefficients.now in
    let n = c.loop-len.len in
    let next : n - 1 + 1 ≡ n = omega arith in
    sym (ap (λ k. take k cs) next) ∙ sym (last_found cs (n - 1) (omega arith) c.if-coefficients-len-eq0.false)
    ∙ ap (λ k. trimmed (take k cs)) next ∙ c.loop-len.invariant.same

pub returns-after-loop-len-clause-front : goal.returns-after-loop-len-clause-front
unfolding trimmed
returns-after-loop-len-clause-front c =
    let cs = c.args.coefficients.now in
    let none : c.loop-len.len ≡ 0 = omega arith in
    ap (λ k. take k cs) none ∙ sym (ap (λ k. trimmed (take k cs)) none) ∙ c.loop-len.invariant.same
