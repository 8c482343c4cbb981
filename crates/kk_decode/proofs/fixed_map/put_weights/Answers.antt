use Rattle.std.proofs.Common.{◌≡◌, ℕ, ◌-◌, ◌^◌, ◌<◌, [], length, take, replicate, get_or, inl, inr, sym, ◌∙◌, subst, arith}
use Rattle.std.proofs.Math.Pow.{pow_pos}
use Rattle.std.proofs.lemmas.Bool.{cases_lt}
use Rattle.std.proofs.lemmas.List.{get_or-set_same, get_or-set_other, length-set}
use Rattle.std.proofs.lemmas.List.Elements.{All-get_or, All-take, All-append, All-replicate}
use Rattle.kk_linpoly.specs.LinPoly.{IsOver}
use Rattle.kk_decode.proofs.fixed_map.put_weights.Goals as goal

pub loop-j-preserved : goal.loop-j-preserved
loop-j-preserved g c =
    let m = c.args.field.now.degree in
    let rows = c.loop-j.rows in
    let j = c.loop-j.j in
    let row = c.of.result in
    let P : ℕ → Type 0 = λ a. a < 2 ^ m in
    let weights = get_or c.weights-weights.result j [] in
    let over : IsOver m row =
    subst (IsOver m) (sym c.of.ensures.value)
    (All-append P (take c.args.k weights) (replicate (64 - length (take c.args.k weights)) 0)
    (All-take P c.args.k weights (All-get_or (IsOver m) c.weights-weights.result j [] (omega (arith, c.loop-j-test.true, c.requires)) c.weights-weights.ensures.below))
    (All-replicate P (64 - length (take c.args.k weights)) 0 (pow_pos m))) in
    record {
      long = length-set rows j row ∙ c.loop-j.invariant.long;
      of_field = λ i less. elim (cases_lt i j) [
        | inl before ↦ subst (IsOver m) (sym (get_or-set_other rows j i row [] (λ e. omega (arith, e, before)))) (c.loop-j.invariant.of_field i before)
        | inr here ↦
            let e : i ≡ j = omega (arith, less, here) in
            rw e (subst (IsOver m) (sym (get_or-set_same rows j row [] (omega (arith, c.loop-j.invariant.long, c.loop-j-test.true, c.requires)))) over)
      ];
    }
