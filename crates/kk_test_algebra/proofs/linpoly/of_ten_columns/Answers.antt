use Rattle.std.proofs.Common.{rules, ◌≡◌, [], ◌∷◌, ap}
use Rattle.std.proofs.lemmas.List.Elements.{All-cons, All-nil}
use Rattle.kk_field.specs.Field.{Modulus}
use Rattle.kk_linpoly.specs.LinPoly.{IsOver}
use Rattle.kk_linpoly.proofs.Combs.{IsOver-row}
use Rattle.kk_test_algebra.proofs.linpoly.of_ten_columns.Goals as goal

pub transform-requires-clause-matrix_of_field : goal.transform-requires-clause-matrix_of_field
transform-requires-clause-matrix_of_field c =
    let degree : c.in_ok-field.field.degree ≡ 3 = ap (λ (f : Modulus). f.degree) c.in_ok-field.ensures in
    let elements : IsOver 3 (1 ∷ 2 ∷ 4 ∷ 3 ∷ 6 ∷ 7 ∷ 5 ∷ 1 ∷ 2 ∷ 4 ∷ []) = search rules in
    rw degree
    (All-cons (IsOver 3) c.of.result [] (IsOver-row 3 (1 ∷ 2 ∷ 4 ∷ 3 ∷ 6 ∷ 7 ∷ 5 ∷ 1 ∷ 2 ∷ 4 ∷ []) c.of.result 54 c.of.ensures.value elements)
    (All-nil (IsOver 3)))
