-- A capture: frames one after another, as a file or a pipe carries them.
use Rattle.std.specs.Prelude.{◌≡◌, refl, ℕ, ◌*◌, ◌/◌, ◌%◌, ◌==◌, if◌then◌else◌, List, [], ◌∷◌, ◌++◌, length, drop, map}
use Rattle.kk_outside.specs.declared.event.Event.{Event}
use Rattle.kk_outside.specs.declared.event.Event.TheVariants.{Datagram}
use Rattle.kk_frame.specs.Datagram.{pieces}

-- The events of a capture: each piece is a datagram, and so are the bytes that remain after the whole pieces.
abbrev pub capture_events : ℕ → List ℕ → List Event
capture_events size bytes =
    map Datagram (pieces size bytes ++ (if length bytes % size == 0 then [] else drop (length bytes / size * size) bytes ∷ []))

pub two_pieces_and_a_remainder : capture_events 2 (1 ∷ 2 ∷ 3 ∷ 4 ∷ 5 ∷ []) ≡ Datagram (1 ∷ 2 ∷ []) ∷ Datagram (3 ∷ 4 ∷ []) ∷ Datagram (5 ∷ []) ∷ []
two_pieces_and_a_remainder = refl
