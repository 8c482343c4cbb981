use Rattle.std.proofs.Common.{◌≡◌, ℕ, ◌+◌, ◌++◌, refl, ap, arith, rules}
use Rattle.kk_outside.specs.Change.{change}
use Rattle.kk_frame.specs.Frame.{frame_text}
use Rattle.kk_frame.specs.FrameView.{value}
use Rattle.kk_sender.specs.Sending.{DatagramState}
use Rattle.kk_sender.proofs.Datagrams.{OnOk-then, OnErr-then, IsPending-waits, IsPending-sent, IsCut-unsent}
use Rattle.kk_sender.proofs.datagram.Datagram.push.Goals as goal

pub returns-clause-pending : goal.returns-clause-pending
returns-clause-pending g c =
    let told = g.O.Outlet.told in
    let pack = ap (λ (s : DatagramState). s.frames_per_datagram) c.self.view_is in
    let frames = ap (λ (s : DatagramState). s.frames) c.self.view_is in
    let bytes = ap (λ (s : DatagramState). s.bytes) c.self.view_is in
    let text : c.as_slice.result.now ≡ c.args.self.now.bytes ++ frame_text c.args.ticket.now (value c.args.frame.now) = search rules in
    OnOk-then _ _ c.send-sent.result c.send-sent.ensures.sends.sent (λ went start all pending.
    IsPending-sent c.args.ticket.now start (told c.args.outlet.now) (told c.send-sent.new.self) c.args.self.now (record { frames_per_datagram = c.self.inside.frames_per_datagram; frames = 0; bytes = c.clear.new.self.items }) c.as_slice.result.now all (value c.args.frame.now)
    (omega (arith, pack, c.self.invariant.0)) pack refl c.clear.ensures (omega (arith, pack, frames, c.self.invariant.0, c.if-self.false)) text went pending)

pub returns-then-self-clause-pending : goal.returns-then-self-clause-pending
returns-then-self-clause-pending g c = λ start all pending.
    let pack = ap (λ (s : DatagramState). s.frames_per_datagram) c.self.view_is in
    let frames = ap (λ (s : DatagramState). s.frames) c.self.view_is in
    let text : c.try_extend_from_slice.new.self.items ≡ c.args.self.now.bytes ++ frame_text c.args.ticket.now (value c.args.frame.now) = search rules in
    let new : DatagramState = record { frames_per_datagram = c.self.inside.frames_per_datagram; frames = c.self.inside.frames + 1; bytes = c.try_extend_from_slice.new.self.items } in
    IsPending-waits c.args.ticket.now (change start (g.O.Outlet.told c.args.outlet.now)) c.args.self.now new all (value c.args.frame.now)
    pack (ap (λ (n : ℕ). n + 1) frames) text pending

pub returns-clause-cut : goal.returns-clause-cut
returns-clause-cut g c =
    let told = g.O.Outlet.told in
    OnErr-then _ _ c.send-sent.result c.send-sent.ensures.sends.failed (λ failed start all pending.
    IsCut-unsent c.args.ticket.now start (told c.args.outlet.now) (told c.send-sent.new.self) c.args.self.now all (value c.args.frame.now) failed pending)
