-- What all commands share: their words, and what their statuses say.
use Rattle.std.specs.Prelude.{◌≡◌, ◌⊎◌, ℕ, List, map, String, string_bytes}
use Rattle.std.specs.declared.alloc.Global.{Global}

-- the bytes of each word
abbrev pub texts : List (String Global) → List (List ℕ)
texts words = map string_bytes words

-- The status tells that the words, the ticket, a number or the gates that were handed in were refused, or that there was no
-- memory. Of `plan` 2 also tells that its source has too many bytes.
abbrev pub IsRefusalOfWords : ℕ → Type 0
IsRefusalOfWords status = (status ≡ 1) ⊎ ((status ≡ 2) ⊎ ((status ≡ 8) ⊎ (status ≡ 11)))

-- The run came to its end: all its work was done, except that at 5 a sink failed. No other run writes to the file's sink.
abbrev pub RanThrough : ℕ → Type 0
RanThrough status = (status ≡ 0) ⊎ (status ≡ 5)
