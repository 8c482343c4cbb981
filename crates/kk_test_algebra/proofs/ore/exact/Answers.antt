use Rattle.std.proofs.Common.{◌≡◌, [], ◌∷◌, ap, ◌∙◌, arith}
use Rattle.std.specs.Prelude.{slice_index}
use Rattle.kk_linpoly.proofs.Trimmed.{slice_index-trimmed}
use Rattle.kk_test_algebra.proofs.ore.exact.Goals as goal

pub exact_left-requires-clause-starts : goal.exact_left-requires-clause-starts
exact_left-requires-clause-starts g c none =
    let one : slice_index c.from_slice-b.result 0 ≡ 1 =
    ap (λ l. slice_index l 0) c.from_slice-b.ensures.value ∙ slice_index-trimmed (1 ∷ 1 ∷ []) 0 in
    omega (arith, none, one)
