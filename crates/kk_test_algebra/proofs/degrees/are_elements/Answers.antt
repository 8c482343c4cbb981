use Rattle.std.proofs.Common.{◌≡◌, ℕ, ◌+◌, ◌^◌, ◌<◌, ◌++◌, [], ◌∷◌, take, get_or, sym, ◌∙◌, ap, subst, add-one}
use Rattle.std.specs.Prelude.{All}
use Rattle.std.proofs.Math.Seq.{take-suc}
use Rattle.std.proofs.lemmas.List.{take_all}
use Rattle.std.proofs.lemmas.List.Elements.{All-push}
use Rattle.kk_linpoly.specs.LinPoly.{IsOver}
use Rattle.kk_test_algebra.proofs.degrees.are_elements.Goals as goal

pub loop-x-preserved : goal.loop-x-preserved
loop-x-preserved c =
    let m = c.args.field.now.degree in
    let xs = c.args.xs.now in
    let i = c.loop-x.x-index in
    let x = get_or xs i 0 in
    let more : take (i + 1) xs ≡ take i xs ++ x ∷ [] = ap (λ n. take n xs) (add-one i) ∙ take-suc xs i 0 c.loop-x-test.true in
    record { over = subst (IsOver m) (sym more) (All-push (λ s. s < 2 ^ m) (take i xs) x c.loop-x.invariant.over (c.is_element.ensures c.if-not-is_element.false)) }

pub returns : goal.returns
returns c told = subst (IsOver c.args.field.now.degree) (take_all c.loop-x.x-index c.args.xs.now c.loop-x-test.false) c.loop-x.invariant.over
