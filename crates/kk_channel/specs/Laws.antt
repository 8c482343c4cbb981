-- What is true of all channels, which the functions of `laws` prove.
use Rattle.std.specs.Prelude.{◌≡◌, ℕ, ◌≤◌, List}
use Rattle.kk_rows.specs.Span.{IsIndependent, HaveSameSpan}
use Rattle.kk_code.specs.Codeword.{Parameters, IsCode, codeword}
use Rattle.kk_code.specs.Decoding.{erased, injected}
use Rattle.kk_channel.specs.Channel.{mixed_rows, channel_rows}

-- independent rows of the same span
pub record IsBasisOf (rows basis : List ℕ) : Type 0 where
  pub independent : IsIndependent basis
  pub spans : HaveSameSpan basis rows

-- the mixed rows are a basis of the codeword
abbrev pub MixedRowsAreABasis : Type 0
MixedRowsAreABasis =
    (p : Parameters) → IsCode p → (u : List ℕ) (word : ℕ → ℕ) → IsBasisOf (codeword p u) (mixed_rows word (codeword p u))

-- independent rows that lack so many dimensions of the codeword of u, and have so many that are foreign to it
pub record HasLoss (p : Parameters) (u rows : List ℕ) (erase inject : ℕ) : Type 0 where
  pub independent : IsIndependent rows
  pub erased_are : erased p rows u ≡ erase
  pub injected_are : injected p rows u ≡ inject

-- what a channel takes from a codeword, and what it adds
abbrev pub LossIsExact : Type 0
LossIsExact =
    (p : Parameters) → IsCode p → (u : List ℕ) (word : ℕ → ℕ) (erase inject : ℕ) → erase ≤ p.l → inject ≤ p.field.degree
    → HasLoss p u (channel_rows word (codeword p u) erase inject) erase inject
