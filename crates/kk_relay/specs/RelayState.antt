-- What callers see of a relay.
use Rattle.std.specs.Prelude.{ℕ, ◌^◌, ◌<◌, ◌≤◌, if◌then◌else◌, List, [], ◌∷◌, ◌++◌, All, length, map}
use Rattle.std.specs.List.{range_with_len}
use Rattle.kk_rows.specs.Span.{in_span, IsIndependent}
use Rattle.kk_rows.specs.declared.row_space.TheConstants.{MAX_WIDTH}
use Rattle.kk_code.specs.Codeword.{width}
use Rattle.kk_code.specs.Ticket.{TicketFields, generations}
use Rattle.kk_relay.specs.Relaying.{held}

-- the innovative rows of a generation, in the order in which they came; each is below 2^width
pub record BasisState : Type 0 where
  pub width : ℕ
  pub rows : List ℕ

-- no row yet
abbrev pub no_rows : ℕ → BasisState
no_rows width = record { width = width; rows = [] }

-- after one row more, which is held where it is innovative
abbrev pub with_row : BasisState → ℕ → BasisState
with_row basis row = record basis { rows = if in_span basis.rows row then basis.rows else basis.rows ++ row ∷ [] }

-- what every basis keeps
pub record IsBasis (basis : BasisState) : Type 0 where
  pub fits : basis.width ≤ MAX_WIDTH
  pub below : All (λ row. row < 2 ^ basis.width) basis.rows
  pub independent : IsIndependent basis.rows

-- what a relay under this ticket holds of generation g after these data frames
abbrev pub basis_after : TicketFields → List (ℕ × ℕ) → ℕ → BasisState
basis_after t frames g = record { width = width t.code; rows = held frames g }

-- the same of each generation
abbrev pub relay_after : TicketFields → List (ℕ × ℕ) → List BasisState
relay_after t frames = map (basis_after t frames) (range_with_len 0 (generations t))

-- the dimension of a basis
abbrev pub rank : BasisState → ℕ
rank basis = length basis.rows
