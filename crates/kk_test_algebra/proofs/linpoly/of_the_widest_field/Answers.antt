use Rattle.std.proofs.Common.{rules, ◌≡◌, [], ◌∷◌, ap, ◌∙◌}
use Rattle.std.proofs.lemmas.List.Elements.{All-cons, All-nil}
use Rattle.kk_field.specs.Field.{Modulus}
use Rattle.kk_linpoly.specs.LinPoly.{IsOver}
use Rattle.kk_linpoly.proofs.Combs.{IsOver-row}
use Rattle.kk_test_algebra.proofs.linpoly.of_the_widest_field.Goals as goal

pub transform-requires-clause-matrix_of_field : goal.transform-requires-clause-matrix_of_field
transform-requires-clause-matrix_of_field c =
    let degree : c.new.result.degree ≡ 64 = ap (λ (f : Modulus). f.degree) (c.new.ensures ∙ c.of-3.ensures ∙ c.new-ring.ensures) in
    let first : IsOver 64 (9223372036854775808 ∷ 3 ∷ []) = search rules in
    let second : IsOver 64 (18446744073709551615 ∷ []) = search rules in
    rw degree
    (All-cons (IsOver 64) c.of.result (c.of-2.result ∷ []) (IsOver-row 64 (9223372036854775808 ∷ 3 ∷ []) c.of.result 62 c.of.ensures.value first)
    (All-cons (IsOver 64) c.of-2.result [] (IsOver-row 64 (18446744073709551615 ∷ []) c.of-2.result 63 c.of-2.ensures.value second) (All-nil (IsOver 64))))
