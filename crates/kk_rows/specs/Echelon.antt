-- Reduced row echelon form.
use Rattle.std.specs.Prelude.{◌≡◌, ℕ, ◌+◌, ◌<◌, ◌^◌, List, All, AllPairs, min, bit_xor}
use Rattle.std.specs.Int.{bit_at}

-- bit p of the row is 1, and none above it is
pub record IsLeadingBit (row p : ℕ) : Type 0 where
  pub is_one : bit_at row p ≡ 1
  pub none_above : row < 2 ^ (p + 1)

-- the bit that leads the row is 0 in v
abbrev pub IsClearAt : ℕ → ℕ → Type 0
IsClearAt row v = (p : ℕ) → IsLeadingBit row p → bit_at v p ≡ 0

-- every bit that leads one of the rows is 0 in v
abbrev pub IsClear : List ℕ → ℕ → Type 0
IsClear rows v = All (λ row. IsClearAt row v) rows

-- every bit that leads one of the rows is 1 in `leads`
abbrev pub HasLeads : ℕ → List ℕ → Type 0
HasLeads leads rows = All (λ row. (p : ℕ) → IsLeadingBit row p → bit_at leads p ≡ 1) rows

-- the bit that leads the upper row stands above the one that leads the lower
abbrev pub LeadsAbove : ℕ → ℕ → Type 0
LeadsAbove upper lower = (p q : ℕ) → IsLeadingBit upper p → IsLeadingBit lower q → q < p

-- reduced row echelon form: no row is 0, the leading bits fall, and each is 0 in all other rows
pub record IsReduced (rows : List ℕ) : Type 0 where
  pub nonzero : All (λ row. 0 < row) rows
  pub falling : AllPairs LeadsAbove rows
  pub clear_above : AllPairs (λ upper lower. IsClearAt lower upper) rows
  pub clear_below : AllPairs (λ upper lower. IsClearAt upper lower) rows

-- v with the bit that leads the row made 0 by the addition of the row: the smaller of v and of its sum with the row
abbrev pub cleared : ℕ → ℕ → ℕ
cleared v row = min v (bit_xor v row)
