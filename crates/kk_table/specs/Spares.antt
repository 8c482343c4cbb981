-- The storages that a founder has reserved, in slots.
use Rattle.std.specs.Prelude.{ℕ, ◌<◌, ◌≤◌, List, [], length, map, take, slice_index_or, Option, Some, None, IsSome}
use Rattle.std.specs.Box.{boxed_slice_items}
use Rattle.std.specs.declared.alloc.Global.{Global}
use Rattle.std.specs.declared.boxed.BoxedSlice.{BoxedSlice}
use Rattle.kk_machine.specs.Sights.{Seen}

-- a place for a storage
abbrev pub Slot : Type 0
Slot = Option (BoxedSlice Seen Global)

-- what is seen in a slot's storage
abbrev pub seen_in : Slot → List Seen
seen_in None = []
seen_in (Some storage) = boxed_slice_items storage

-- the storages in the first slots, so many
abbrev pub storages_in : ℕ → List Slot → List (List Seen)
storages_in count slots = map seen_in (take count slots)

-- the first slots, so many, have a storage each
pub record AreSpares (count : ℕ) (slots : List Slot) : Type 0 where
  pub within : count ≤ length slots
  pub filled : (i : ℕ) (d : Slot) → i < count → IsSome (slice_index_or slots i d)
