use Rattle.std.proofs.Common.{◌≡◌, false, map, take}
use Rattle.kk_frame.specs.Frame.{frame_read}
use Rattle.kk_frame.specs.Counting.{HasReadings}
use Rattle.kk_frame.proofs.received.Received.of.Given as goal

-- the readings of the pieces before number i, none of which is an END
abbrev pub invariant-loop-i : goal.invariant-loop-i
invariant-loop-i l = HasReadings 0 (map (frame_read l.ticket) (take l.i l.frames)) l.received × (l.received.has_end ≡ false)
