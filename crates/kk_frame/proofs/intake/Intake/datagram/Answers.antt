use Rattle.std.proofs.Common.{◌++◌, sym, ap, ◌∙◌, length, lit<}
use Rattle.kk_outside.specs.declared.event.Event.TheVariants.{Datagram}
use Rattle.kk_frame.specs.declared.frame.TheConstants.{FRAME_BYTES}
use Rattle.kk_frame.specs.Events.{taken}
use Rattle.kk_frame.proofs.Readings.{received_at_most, data_frames_in_range}
use Rattle.kk_frame.proofs.Intakes.{taken-push}
use Rattle.kk_frame.proofs.intake.Intake.datagram.Goals as goal

pub count_datagram-requires-clause-refused : goal.count_datagram-requires-clause-refused
count_datagram-requires-clause-refused c =
    received_at_most FRAME_BYTES c.args.ticket.now c.args.bytes.now c.of-received.result (lit< tt) c.of-received.ensures

pub returns-clause-in_range : goal.returns-clause-in_range
returns-clause-in_range c = rw c.of-received.ensures.batch (data_frames_in_range FRAME_BYTES c.args.ticket.now c.args.bytes.now)

pub returns-clause-after : goal.returns-clause-after
returns-clause-after c = λ events h.
    c.count_datagram.ensures.after c.args.ticket.now events c.args.bytes.now h (record {
      frames_are = c.len.ensures.len ∙ ap length c.of-received.ensures.batch;
      refused_is = c.of-received.ensures.refused;
      end_is = c.of-received.ensures.end;
    })

pub returns-clause-taken : goal.returns-clause-taken
returns-clause-taken c = λ events h.
    taken-push c.args.ticket.now events (Datagram c.args.bytes.now) c.args.self.now h c.requires
    ∙ ap (λ batch. taken FRAME_BYTES c.args.ticket.now c.args.self.now.limits events ++ batch) (sym c.of-received.ensures.batch)
