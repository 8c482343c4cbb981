-- Frames of the program, seen as the definitions speak of them.
use Rattle.std.specs.Prelude.{ℕ, Option, Some, None, Result, Ok, Err, List, [], ◌∷◌, map}
use Rattle.kk_rows.specs.declared.rows.Row.{Row}
use Rattle.kk_frame.specs.declared.fault.FrameFault.{FrameFault}
use Rattle.kk_frame.specs.declared.frame.Frame.{Frame}
use Rattle.kk_frame.specs.declared.frame.Frame.TheVariants as variants
use Rattle.kk_frame.specs.Frame.{FrameValue, Vector, End}

-- a frame of the program as a frame of the definitions
abbrev pub value : Frame → FrameValue
value (variants.Vector generation row) = Vector generation row.0
value variants.End = End

-- what was read of a piece, with the frame as one of the definitions
abbrev pub values : Result Frame FrameFault → Result FrameValue FrameFault
values (Ok frame) = Ok (value frame)
values (Err fault) = Err fault

-- generations and rows of the program, seen as numbers
abbrev pub pairs : List (ℕ × Row) → List (ℕ × ℕ)
pairs frames = map (λ f. (f.0, f.1.0)) frames

-- the one data frame of a piece, or none
abbrev pub frame_of : Option (ℕ × Row) → List (ℕ × ℕ)
frame_of None = []
frame_of (Some f) = (f.0, f.1.0) ∷ []
