-- The laws of losses, which the functions of `laws` prove.
use Rattle.std.specs.Prelude.{◌≡◌, ◌+◌, ◌-◌, ◌*◌, ◌^◌, ◌<◌, ◌≤◌, ℕ, List, map, All, IsTrue}
use Rattle.kk_rows.specs.Span.{in_span, dimension}
use Rattle.kk_rows.specs.Distance.{meet_dimension, distance}
use Rattle.kk_code.specs.Codeword.{Parameters, IsCode, width, codeword}
use Rattle.kk_code.specs.Decoding.{erased, injected}
use Rattle.kk_decode.specs.Offset.{offset}

-- the distance of a codeword from a space is what was erased and what was injected
abbrev pub DistanceIsTheLoss : Type 0
DistanceIsTheLoss =
    (p : Parameters) → IsCode p → (rows u : List ℕ) → distance (codeword p u) rows ≡ erased p rows u + injected p rows u

-- Rows of a space into which at most t dimensions were injected are within distance l - k of the codeword where they have
-- k + 2 t dimensions.
abbrev pub PartIsWithinTheRadius : Type 0
PartIsWithinTheRadius =
    (p : Parameters) → IsCode p → (part rows u : List ℕ) (t : ℕ) → All (λ r. IsTrue (in_span rows r)) part
    → injected p rows u ≤ t → p.k + 2 * t ≤ dimension part → distance (codeword p u) part ≤ p.l - p.k

-- The dimension that a space has in common with the codeword of u is its own less that of the offsets of its rows.
abbrev pub MeetByOffsets : Type 0
MeetByOffsets =
    (p : Parameters) → IsCode p → (rows u : List ℕ) → All (λ r. r < 2 ^ width p) rows
    → meet_dimension rows (codeword p u) ≡ dimension rows - dimension (map (offset p.field u) rows)
