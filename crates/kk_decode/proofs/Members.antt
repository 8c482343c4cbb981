-- A space whose rows are all of one codeword.
use Rattle.std.proofs.Common.{◌≡◌, ℕ, ◌-◌, ◌/◌, ◌^◌, ◌<◌, ◌≤◌, true, List, ◌++◌, sym, ap, ◌∙◌, subst, arith}
use Rattle.std.specs.Prelude.{All}
use Rattle.std.proofs.Math.Nat.{div-add-mod'}
use Rattle.std.proofs.lemmas.List.Elements.{All-weaker}
use Rattle.kk_rows.specs.Span.{in_span, dimension}
use Rattle.kk_rows.specs.Distance.{distance}
use Rattle.kk_rows.proofs.Spans.{in_span-within, in_span-append_least}
use Rattle.kk_rows.proofs.Dimensions.{dimension-le_within}
use Rattle.kk_rows.proofs.Distances.{distance_by_sum}
use Rattle.kk_linpoly.specs.LinPoly.{value}
use Rattle.kk_code.specs.Codeword.{Parameters, IsCode, row_of, codeword}
use Rattle.kk_code.proofs.Graphs.{in_codeword, dimension-codeword}
use Rattle.kk_decode.specs.Solving.{IsOnGraph}

pub on_graph_member : (p : Parameters) → p.field.low < 2 ^ p.field.degree → (u : List ℕ) (r : ℕ) → IsOnGraph p u r → in_span (codeword p u) r ≡ true
on_graph_member p h u r on =
    let f = p.field in
    let n = 2 ^ f.degree in
    let row : row_of p (r / n) (value f u (r / n)) ≡ r = ap (row_of p (r / n)) (sym on.y) ∙ div-add-mod' r n in
    subst (λ w. in_span (codeword p u) w ≡ true) row (in_codeword p h u (r / n) on.x)

-- a space of rows of one codeword is within the radius from the dimension k on
pub within_of_part : (p : Parameters) → IsCode p → (rows u : List ℕ) → p.k ≤ dimension rows → All (IsOnGraph p u) rows
    → distance (codeword p u) rows ≤ p.l - p.k
within_of_part p code rows u enough each =
    let c = codeword p u in
    let within = in_span-within rows c (All-weaker (IsOnGraph p u) (λ r. in_span c r ≡ true) (on_graph_member p code.field.modulus.low_below u) rows each) in
    let sum = dimension-le_within (c ++ rows) c (in_span-append_least c rows c (λ x k. k) within) in
    omega (arith, sum, enough, distance_by_sum c rows, dimension-codeword p code.field.modulus.low_below u)
