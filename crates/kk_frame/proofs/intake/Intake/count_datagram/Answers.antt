use Rattle.std.proofs.Common.{◌≡◌, ◌+◌, refl, ap, lit≤}
use Rattle.kk_frame.specs.declared.frame.TheConstants.{FRAME_BYTES}
use Rattle.kk_frame.specs.declared.received.Received.{Received}
use Rattle.kk_frame.specs.Datagram.{readings, data_frames}
use Rattle.kk_frame.proofs.Intakes.{running_at, after_at, why, after_received, intake_received}
use Rattle.kk_frame.proofs.Readings.{IsAtMost-le}
use Rattle.kk_frame.proofs.intake.Intake.count_datagram.Goals as goal

pub add-requires-clause-more : goal.add-requires-clause-more
add-requires-clause-more c = IsAtMost-le _ _ _ c.requires.refused (lit≤ tt)

ended_is : (c : goal.After-self-4-1) → c.ended_by-self-inside.result ≡ why c.args.has_end (record { limits = c.self.inside.limits; counts = c.self.inside.counts; quiets = c.self.inside.quiets })
ended_is c = rw c.from.ensures at c.ended_by-self-inside.ensures

pub invariant_of-self : goal.invariant_of-self
invariant_of-self c =
    intake_received _ c.args.has_end c.args.frames _ c.args.refused.now _ c.self.invariant (running_at _ _ c.self.view_is c.requires.running) (ended_is c) c.requires.few
    c.requires.refused c.add.ensures

pub returns-clause-after : goal.returns-clause-after
returns-clause-after c = λ t events bytes h counted.
    let rs = readings FRAME_BYTES t bytes in
    let r : Received = record { batch = data_frames rs; refused = c.args.refused.now; has_end = c.args.has_end } in
    after_received t events bytes _ _ r c.self.invariant (running_at _ _ c.self.view_is c.requires.running) (after_at t events _ _ c.self.view_is h)
    (record { batch = refl; refused = counted.refused_is; end = counted.end_is }) refl refl
    (ended_is c) refl (ap (λ n. c.self.inside.counts.frames + n) counted.frames_are) c.add.ensures
