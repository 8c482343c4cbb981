use Rattle.std.proofs.Common.{[]}
use Rattle.std.proofs.lemmas.List.Elements.{All-cons, All-nil}
use Rattle.kk_linpoly.specs.LinPoly.{IsOver}
use Rattle.kk_linpoly.proofs.Combs.{IsOver-row}
use Rattle.kk_test_algebra.proofs.degrees.row_times.Goals as goal

pub transform-requires-clause-matrix_of_field : goal.transform-requires-clause-matrix_of_field
transform-requires-clause-matrix_of_field c =
    let m = c.args.field.now.degree in
    All-cons (IsOver m) c.of.result [] (IsOver-row m c.args.row.now c.of.result _ c.of.ensures.value (c.are_elements.ensures c.if-not-are_elements.false)) (All-nil (IsOver m))
