-- The laws of dimension, meet, distance and additive maps, over any rows.
use Rattle.std.specs.Prelude.{◌≡◌, ℕ, ◌+◌, ◌^◌, ◌<◌, ◌≤◌, ◌↔◌, IsTrue, List, ◌&&◌, length}
use Rattle.kk_rows.specs.Span.{in_span, dimension, IsIndependent, HaveSameSpan}
use Rattle.kk_rows.specs.Distance.{meet_dimension, distance}
use Rattle.kk_rows.specs.Echelon.{IsReduced}
use Rattle.kk_rows.specs.AdditiveMap.{IsAdditive, MapsSpan, unit_rows}

-- rows of the same span have the same dimension
abbrev pub SpanDimensionIsUnique : Type 0
SpanDimensionIsUnique = (us vs : List ℕ) → HaveSameSpan us vs → dimension us ≡ dimension vs

-- independent rows that span the common members of two spans, and nothing else
pub record IsBasisOfMeet (us vs ws : List ℕ) : Type 0 where
  pub independent : IsIndependent ws
  pub spans : (x : ℕ) → in_span ws x ≡ (in_span us x && in_span vs x)

-- the common members of two spans have a basis, and the meet's dimension is its length
abbrev pub MeetDimensionIsTheMeet : Type 0
MeetDimensionIsTheMeet =
    (us vs : List ℕ) → (ws : List ℕ) × IsBasisOfMeet us vs ws × (meet_dimension us vs ≡ length ws)

-- the subspace distance is a metric on spans
pub record DistanceIsAMetric : Type 0 where
  pub symmetric : (us vs : List ℕ) → distance us vs ≡ distance vs us
  pub zero_at_same_span : (us vs : List ℕ) → (distance us vs ≡ 0) ↔ HaveSameSpan us vs
  pub triangle : (us vs ws : List ℕ) → distance us ws ≤ distance us vs + distance vs ws

-- a span has one reduced row echelon form
abbrev pub ReducedFormIsUnique : Type 0
ReducedFormIsUnique = (us vs : List ℕ) → IsReduced us → IsReduced vs → HaveSameSpan us vs → us ≡ vs

-- an additive map takes spans onto spans
abbrev pub AdditiveMapsTakeSpansToSpans : Type 0
AdditiveMapsTakeSpansToSpans = (g : ℕ → ℕ) → IsAdditive g → (rows : List ℕ) → MapsSpan g rows

-- the rows with one coordinate 1, at the places below n, are a basis of the rows below 2^n
pub record IsBasisBelow (n : ℕ) : Type 0 where
  pub independent : IsIndependent (unit_rows n)
  pub spans : (v : ℕ) → IsTrue (in_span (unit_rows n) v) ↔ (v < 2 ^ n)

-- the rows with one coordinate 1 are a basis of all rows of their width
abbrev pub UnitRowsAreABasis : Type 0
UnitRowsAreABasis = (n : ℕ) → IsBasisBelow n
