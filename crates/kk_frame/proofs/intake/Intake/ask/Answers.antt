use Rattle.std.proofs.Common.{arith, [], Ok, take, ap, sym, subst, ◌∙◌}
use Rattle.std.proofs.lemmas.List.{append-nil}
use Rattle.kk_outside.specs.Change.{change}
use Rattle.kk_outside.specs.declared.event.Event.TheVariants.{Datagram, Quiet, Fault}
use Rattle.kk_outside.specs.declared.failed.Failed.{Failed}
use Rattle.kk_outside.specs.declared.got.Got.{Got}
use Rattle.kk_outside.specs.Gate.{events_of, overs_of, TookEvents}
use Rattle.kk_outside.proofs.Taken.{TookEvents-next, events_told-next}
use Rattle.kk_frame.specs.declared.frame.TheConstants.{FRAME_BYTES}
use Rattle.kk_frame.specs.Events.{taken}
use Rattle.kk_frame.proofs.Asks.{HasAsked-event, HasAsked-over}
use Rattle.kk_frame.proofs.intake.Intake.ask.Goals as goal

pub returns-in-Ok-Datagram-clause-asked : goal.returns-in-Ok-Datagram-clause-asked
returns-in-Ok-Datagram-clause-asked g c = λ origin events frames asked.
    let told = g.G.Gate.told in
    let gate = change (told c.args.gate.now) (told c.next.new.self) in
    let event = Datagram (take c.in-Ok-Datagram.len c.next.new.buf) in
    let is = ap (λ r. events_of r c.next.new.buf) c.in-Ok-Datagram.is ∙ ap (λ (a : Got). events_of {E = Failed} (Ok a) c.next.new.buf) c.in-Ok-Datagram.field-0-is in
    let overs = ap (λ r. overs_of r) c.in-Ok-Datagram.is ∙ ap (λ (a : Got). overs_of {E = Failed} (Ok a)) c.in-Ok-Datagram.field-0-is in
    let took = subst (λ es. TookEvents es gate) is (TookEvents-next gate c.next.result c.next.new.buf c.next.ensures.tells) in
    HasAsked-event c.args.ticket.now origin (told c.args.gate.now) (told c.next.new.self) events frames c.datagram.result event c.args.self.now c.datagram.new.self asked c.requires took (omega (arith, c.next.ensures.tells.counted, overs))
    (c.datagram.ensures.after events) (c.datagram.ensures.taken events) c.datagram.ensures.limits
    (record { rose = λ fault. absurd (c.datagram.ensures.ended fault); kept = λ _. c.in-Ok-Datagram.ensures.cause.kept })

pub returns-in-Ok-Quiet-clause-asked : goal.returns-in-Ok-Quiet-clause-asked
returns-in-Ok-Quiet-clause-asked g c = λ origin events frames asked.
    let told = g.G.Gate.told in
    let t = c.args.ticket.now in
    let gate = change (told c.args.gate.now) (told c.next.new.self) in
    let is = ap (λ r. events_of r c.next.new.buf) c.in-Ok-Quiet.is ∙ ap (λ (a : Got). events_of {E = Failed} (Ok a) c.next.new.buf) c.in-Ok-Quiet.field-0-is in
    let overs = ap (λ r. overs_of r) c.in-Ok-Quiet.is ∙ ap (λ (a : Got). overs_of {E = Failed} (Ok a)) c.in-Ok-Quiet.field-0-is in
    let took = subst (λ es. TookEvents es gate) is (TookEvents-next gate c.next.result c.next.new.buf c.next.ensures.tells) in
    HasAsked-event t origin (told c.args.gate.now) (told c.next.new.self) events frames [] Quiet c.args.self.now c.quiet.new.self asked c.requires took (omega (arith, c.next.ensures.tells.counted, overs))
    (c.quiet.ensures.after t events) (λ after. c.quiet.ensures.taken t events after ∙ sym (append-nil (taken FRAME_BYTES t c.args.self.now.limits events))) c.quiet.ensures.limits
    (record { rose = λ fault. absurd (c.quiet.ensures.ended fault); kept = λ _. c.in-Ok-Quiet.ensures.cause.kept })

pub returns-in-Ok-Over-clause-asked : goal.returns-in-Ok-Over-clause-asked
returns-in-Ok-Over-clause-asked g c = λ origin events frames asked.
    let told = g.G.Gate.told in
    let t = c.args.ticket.now in
    let gate = change (told c.args.gate.now) (told c.next.new.self) in
    let is = ap (λ r. events_of r c.next.new.buf) c.in-Ok-Over.is ∙ ap (λ (a : Got). events_of {E = Failed} (Ok a) c.next.new.buf) c.in-Ok-Over.field-0-is in
    let overs = ap (λ r. overs_of r) c.in-Ok-Over.is ∙ ap (λ (a : Got). overs_of {E = Failed} (Ok a)) c.in-Ok-Over.field-0-is in
    let took = subst (λ es. TookEvents es gate) is (TookEvents-next gate c.next.result c.next.new.buf c.next.ensures.tells) in
    HasAsked-over t origin (told c.args.gate.now) (told c.next.new.self) events frames c.args.self.now c.over.new.self asked c.requires took (omega (arith, c.next.ensures.tells.counted, overs))
    (c.next.ensures.tells.over is) (c.over.ensures.counts t events) c.over.ensures.ended c.over.ensures.limits c.in-Ok-Over.ensures.cause.kept

pub returns-in-Err-clause-asked : goal.returns-in-Err-clause-asked
returns-in-Err-clause-asked g c = λ origin events frames asked.
    let told = g.G.Gate.told in
    let t = c.args.ticket.now in
    let gate = change (told c.args.gate.now) (told c.next.new.self) in
    let is = ap (λ r. events_of r c.next.new.buf) c.in-Err.is in
    let overs = ap (λ r. overs_of r) c.in-Err.is in
    let took = subst (λ es. TookEvents es gate) is (TookEvents-next gate c.next.result c.next.new.buf c.next.ensures.tells) in
    HasAsked-event t origin (told c.args.gate.now) (told c.next.new.self) events frames [] Fault c.args.self.now c.fault.new.self asked c.requires took (omega (arith, c.next.ensures.tells.counted, overs))
    (c.fault.ensures.after t events) (λ after. c.fault.ensures.taken t events after ∙ sym (append-nil (taken FRAME_BYTES t c.args.self.now.limits events))) c.fault.ensures.limits
    (record { rose = λ _. c.in-Err.ensures.cause.failed; kept = λ other. absurd (other c.fault.ensures.ended) })

pub returns-in-Ok-Datagram-clause-one : goal.returns-in-Ok-Datagram-clause-one
returns-in-Ok-Datagram-clause-one g c = events_told-next (change (g.G.Gate.told c.args.gate.now) (g.G.Gate.told c.next.new.self)) c.next.result c.next.new.buf c.next.ensures.tells

pub returns-in-Ok-Quiet-clause-one : goal.returns-in-Ok-Quiet-clause-one
returns-in-Ok-Quiet-clause-one g c = events_told-next (change (g.G.Gate.told c.args.gate.now) (g.G.Gate.told c.next.new.self)) c.next.result c.next.new.buf c.next.ensures.tells

pub returns-in-Ok-Over-clause-one : goal.returns-in-Ok-Over-clause-one
returns-in-Ok-Over-clause-one g c = events_told-next (change (g.G.Gate.told c.args.gate.now) (g.G.Gate.told c.next.new.self)) c.next.result c.next.new.buf c.next.ensures.tells

pub returns-in-Err-clause-one : goal.returns-in-Err-clause-one
returns-in-Err-clause-one g c = events_told-next (change (g.G.Gate.told c.args.gate.now) (g.G.Gate.told c.next.new.self)) c.next.result c.next.new.buf c.next.ensures.tells
