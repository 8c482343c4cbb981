-- Which spaces can decode, and that this depends on the span alone.
use Rattle.std.proofs.Common.{◌≡◌, ℕ, ◌+◌, ◌-◌, ◌*◌, ◌≤◌, List, refl, subst, arith}
use Rattle.kk_rows.specs.Span.{in_span, dimension}
use Rattle.kk_rows.proofs.Distances.{distance_by_meet, distance-same_span, meet_dimension-le_left, meet_dimension-le_right}
use Rattle.kk_code.specs.Codeword.{Parameters, IsCode, codeword}
use Rattle.kk_code.specs.Decoding.{Decodes}
use Rattle.kk_code.proofs.Graphs.{dimension-codeword}

pub Decodes-same_span : (p : Parameters) (rows rows' u : List ℕ) → ((x : ℕ) → in_span rows x ≡ in_span rows' x) → Decodes p rows u → Decodes p rows' u
Decodes-same_span p rows rows' u same d = record {
  message = d.message;
  within = subst (λ n. n ≤ p.l - p.k) (distance-same_span (codeword p u) (codeword p u) rows rows' (λ x. refl) same) d.within;
}

pub rank_in_reach : (p : Parameters) → IsCode p → (rows u : List ℕ) → Decodes p rows u → (p.k ≤ dimension rows) × (dimension rows + p.k ≤ 2 * p.l)
rank_in_reach p code rows u d =
    let c = codeword p u in
    let within = d.within in
    let left = meet_dimension-le_left c rows in
    let right = meet_dimension-le_right c rows in
    let whole = distance_by_meet c rows in
    let l = dimension-codeword p code.field.modulus.low_below u in
    (omega (arith, within, right, whole, l, code.k_high), omega (arith, within, left, whole, l, code.k_high))
