-- The subspace distance, at any width.
use Rattle.std.proofs.Common.{◌≡◌, ℕ, ◌+◌, ◌≤◌, ◌*◌, true, List, ◌++◌, ◌∙◌, arith}
use Rattle.kk_rows.specs.Span.{in_span, dimension, HaveSameSpan}
use Rattle.kk_rows.specs.Distance.{sum_dimension, meet_dimension, distance}
use Rattle.kk_rows.specs.Laws.{DistanceIsAMetric}
use Rattle.kk_rows.proofs.Spans.{same_bool, same_span_members, HaveSameSpan-from_members, in_span-swapped, in_span-append_left, in_span-append_right, in_span-append_least, in_span-append_within, in_span-append_same}
use Rattle.kk_rows.proofs.Dimensions.{dimension-same_span, dimension-le_within, in_span-all_from_dimension}
use Rattle.kk_rows.proofs.Meets.{sum_dimension-le, sum_and_meet_dimension, dimension-le_sum_left, dimension-le_sum_right, dimension-le_meet}

-- d(U, V) + dim U + dim V is 2 dim(U + V)
pub distance_by_sum : (us vs : List ℕ) → distance us vs + (dimension us + dimension vs) ≡ 2 * sum_dimension us vs
distance_by_sum us vs = omega (arith, sum_dimension-le us vs, dimension-le_sum_left us vs, dimension-le_sum_right us vs)

-- d(U, V) + 2 dim(U ∩ V) is dim U + dim V
pub distance_by_meet : (us vs : List ℕ) → distance us vs + 2 * meet_dimension us vs ≡ dimension us + dimension vs
distance_by_meet us vs = omega (arith, sum_dimension-le us vs, dimension-le_sum_left us vs, dimension-le_sum_right us vs)

pub sum_dimension_comm : (us vs : List ℕ) → sum_dimension us vs ≡ sum_dimension vs us
sum_dimension_comm us vs = dimension-same_span (us ++ vs) (vs ++ us) (in_span-swapped us vs)

pub distance_comm : (us vs : List ℕ) → distance us vs ≡ distance vs us
distance_comm us vs = omega (arith, distance_by_sum us vs, distance_by_sum vs us, sum_dimension_comm us vs)

-- the distance depends on the spans alone
pub distance-same_span : (us us' vs vs' : List ℕ) → ((x : ℕ) → in_span us x ≡ in_span us' x) → ((x : ℕ) → in_span vs x ≡ in_span vs' x) → distance us vs ≡ distance us' vs'
distance-same_span us us' vs vs' same_u same_v =
    omega (arith, distance_by_sum us vs, distance_by_sum us' vs', dimension-same_span us us' same_u, dimension-same_span vs vs' same_v, dimension-same_span (us ++ vs) (us' ++ vs') (in_span-append_same us us' vs vs' same_u same_v))

-- a sum no larger than us has vs inside us
within_from_sum : (us vs : List ℕ) → sum_dimension us vs ≤ dimension us → (x : ℕ) → in_span vs x ≡ true → in_span us x ≡ true
within_from_sum us vs h x k =
    in_span-all_from_dimension us (us ++ vs) (in_span-append_left us vs) h x (in_span-append_right us vs x k)

pub same_span_from_distance : (us vs : List ℕ) → distance us vs ≡ 0 → HaveSameSpan us vs
same_span_from_distance us vs h =
    let by_sum = distance_by_sum us vs in
    let left = dimension-le_sum_left us vs in
    let right = dimension-le_sum_right us vs in
    HaveSameSpan-from_members us vs (λ x. same_bool _ _
    (within_from_sum vs us (omega (arith, sum_dimension_comm us vs)) x)
    (within_from_sum us vs (omega arith) x))

pub distance_of_same_span : (us vs : List ℕ) → HaveSameSpan us vs → distance us vs ≡ 0
distance_of_same_span us vs h =
    let same = same_span_members us vs h in
    let sum = dimension-le_within (us ++ vs) us (in_span-append_least us vs us (λ x k. k) (λ x k. same x ∙ k)) in
    omega (arith, distance_by_sum us vs, dimension-same_span us vs same)

-- dim(U + W) + dim V is at most dim(U + V) + dim(V + W), since V lies in both sums
pub sum_dimension_through : (us vs ws : List ℕ) → sum_dimension us ws + dimension vs ≤ sum_dimension us vs + sum_dimension vs ws
sum_dimension_through us vs ws =
    let left = us ++ vs in
    let right = vs ++ ws in
    let common = dimension-le_meet left right vs (in_span-append_right us vs) (in_span-append_left vs ws) in
    let outer = dimension-le_within (us ++ ws) (left ++ right) (in_span-append_within us left ws right (in_span-append_left us vs) (in_span-append_right vs ws)) in
    omega (arith, sum_and_meet_dimension left right)

pub distance_triangle : (us vs ws : List ℕ) → distance us ws ≤ distance us vs + distance vs ws
distance_triangle us vs ws =
    omega (arith, sum_dimension_through us vs ws, distance_by_sum us ws, distance_by_sum us vs, distance_by_sum vs ws)

pub distance_is_a_metric : DistanceIsAMetric
distance_is_a_metric = record {
  symmetric = distance_comm;
  zero_at_same_span = λ us vs. (same_span_from_distance us vs, distance_of_same_span us vs);
  triangle = distance_triangle;
}

-- ---- what the crates above cite of sum and meet

pub sum_dimension-same_span : (us us' vs vs' : List ℕ) → ((x : ℕ) → in_span us x ≡ in_span us' x) → ((x : ℕ) → in_span vs x ≡ in_span vs' x) → sum_dimension us vs ≡ sum_dimension us' vs'
sum_dimension-same_span us us' vs vs' same_u same_v =
    dimension-same_span (us ++ vs) (us' ++ vs') (in_span-append_same us us' vs vs' same_u same_v)

pub meet_dimension-same_span : (us us' vs vs' : List ℕ) → ((x : ℕ) → in_span us x ≡ in_span us' x) → ((x : ℕ) → in_span vs x ≡ in_span vs' x) → meet_dimension us vs ≡ meet_dimension us' vs'
meet_dimension-same_span us us' vs vs' same_u same_v =
    omega (arith, dimension-same_span us us' same_u, dimension-same_span vs vs' same_v, sum_dimension-same_span us us' vs vs' same_u same_v)

pub meet_dimension_comm : (us vs : List ℕ) → meet_dimension us vs ≡ meet_dimension vs us
meet_dimension_comm us vs = omega (arith, sum_dimension_comm us vs)

pub meet_dimension-le_left : (us vs : List ℕ) → meet_dimension us vs ≤ dimension us
meet_dimension-le_left us vs = omega (arith, dimension-le_sum_right us vs)

pub meet_dimension-le_right : (us vs : List ℕ) → meet_dimension us vs ≤ dimension vs
meet_dimension-le_right us vs = omega (arith, dimension-le_sum_left us vs)
