-- A call fails only where the outside did: each object of the outside counts its faults.
use Rattle.std.specs.Prelude.{◌≡◌, ℕ, ◌+◌, ◌-◌, ◌^◌, ◌<◌, ◌≤◌, min, Result, OnOk, OnErr}

-- one more, up to the last value of a count
abbrev pub one_more : ℕ → ℕ
one_more count = min (count + 1) (2 ^ 64 - 1)

-- The count is below its last value, so that it shows the next fault.
abbrev pub CanCount : ℕ → Type 0
CanCount count = count < 2 ^ 64 - 1

-- the count of faults rose, or stands at its last value
abbrev pub Rose : ℕ → ℕ → Type 0
Rose old new = min (old + 1) (2 ^ 64 - 1) ≤ new

-- the count of faults never falls, an error has a fault, and an answer has none
pub record HasCause {T E : Type 0} (old new : ℕ) (result : Result T E) : Type 0 where
  pub later : old ≤ new
  pub failed : OnErr result (Rose old new)
  pub kept : OnOk result (new ≡ old)

-- The count of faults rose, or stands at its last value, where this holds, and else it stayed.
pub record RoseWhere (failed : Type 0) (old new : ℕ) : Type 0 where
  pub rose : failed → Rose old new
  pub kept : (failed → ⊥) → new ≡ old
