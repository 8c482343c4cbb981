use Rattle.std.proofs.Common.{rules, ◌≡◌, [], ◌∷◌, ap}
use Rattle.std.proofs.lemmas.List.Elements.{All-cons, All-nil}
use Rattle.kk_field.specs.Field.{Modulus}
use Rattle.kk_linpoly.specs.LinPoly.{IsOver}
use Rattle.kk_linpoly.proofs.Combs.{IsOver-row}
use Rattle.kk_test_algebra.proofs.linpoly.of_the_matrix.Goals as goal

pub transform-requires-clause-matrix_of_field : goal.transform-requires-clause-matrix_of_field
transform-requires-clause-matrix_of_field c =
    let degree : c.in_ok-field.field.degree ≡ 3 = ap (λ (f : Modulus). f.degree) c.in_ok-field.ensures in
    let first : IsOver 3 (1 ∷ 2 ∷ []) = search rules in
    let second : IsOver 3 (4 ∷ 7 ∷ []) = search rules in
    rw degree
    (All-cons (IsOver 3) c.of.result (c.of-2.result ∷ []) (IsOver-row 3 (1 ∷ 2 ∷ []) c.of.result 62 c.of.ensures.value first)
    (All-cons (IsOver 3) c.of-2.result [] (IsOver-row 3 (4 ∷ 7 ∷ []) c.of-2.result 62 c.of-2.ensures.value second) (All-nil (IsOver 3))))
