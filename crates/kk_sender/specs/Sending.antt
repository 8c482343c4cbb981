-- Frames on their way to an outlet, in datagrams.
use Rattle.std.specs.Prelude.{◌≡◌, ℕ, ◌*◌, ◌<◌, List, ◌++◌, length}
use Rattle.kk_outside.specs.Change.{Change}
use Rattle.kk_outside.specs.Outlet.{OutletTold, append_datagrams, append_failing}
use Rattle.kk_code.specs.Ticket.{TicketFields}
use Rattle.kk_frame.specs.Frame.{FrameValue}
use Rattle.kk_sender.specs.SentFrames.{text_of, datagrams_of}

-- a datagram that is filled up to `frames_per_datagram` frames: how many it has, and their bytes
pub record DatagramState : Type 0 where
  pub frames_per_datagram : ℕ
  pub frames : ℕ
  pub bytes : List ℕ

-- The first of these frames fill datagrams of `frames_per_datagram`, and the others come after them.
pub record IsOut (frames_per_datagram : ℕ) (frames out others : List FrameValue) : Type 0 where
  pub parts : frames ≡ out ++ others
  pub count : ℕ
  pub whole : length out ≡ count * frames_per_datagram

-- All of these frames went out except for the last ones, which the datagram has.
pub record IsPending (t : TicketFields) (outlet : Change OutletTold) (datagram : DatagramState) (frames : List FrameValue) : Type 0 where
  pub out : List FrameValue
  pub waiting : List FrameValue
  pub is_out : IsOut datagram.frames_per_datagram frames out waiting
  pub sent : outlet.new.sends ≡ append_datagrams outlet.old.sends (datagrams_of t datagram.frames_per_datagram out)
  pub bytes : datagram.bytes ≡ text_of t waiting
  pub count : datagram.frames ≡ length waiting

-- Some of these frames didn't go out, since the outlet failed; the send that failed was the last.
pub record IsCut (t : TicketFields) (frames_per_datagram : ℕ) (outlet : Change OutletTold) (frames : List FrameValue) : Type 0 where
  pub out : List FrameValue
  pub others : List FrameValue
  pub is_out : IsOut frames_per_datagram frames out others
  pub sent : outlet.new.sends ≡ append_failing outlet.old.sends (datagrams_of t frames_per_datagram out)
  pub some : 0 < length others
