use Rattle.std.proofs.Common.{List, [], ◌∷◌, ◌++◌, get_or, refl, sym, ap, subst, ◌∙◌}
use Rattle.std.specs.Prelude.{All}
use Rattle.kk_outside.specs.Gate.{FitsGate}
use Rattle.kk_outside.specs.declared.event.Event.{Event}
use Rattle.kk_outside.specs.declared.event.Event.TheVariants.{Datagram}
use Rattle.kk_frame.specs.Frame.{Vector, frame_text}
use Rattle.kk_frame.specs.FrameView.{pairs}
use Rattle.kk_frame.proofs.Batches.{in_batch}
use Rattle.kk_trial.proofs.Dealt.{trial_events-none, trial_events-fit, events_dealt, events_passed_over}
use Rattle.kk_trial.proofs.dealing.gate_of.Goals as goal
use Rattle.kk_trial.proofs.dealing.gate_of.Goals.{then-number-gates+in_ok-datagram+in_ok-push, else-number-gates}

pub loop-number-init : goal.loop-number-init
loop-number-init c = c.new-events.ensures.items ∙ sym (trial_events-none c.args.ticket.now c.args.gates c.args.i)

pub datagram-requires : goal.datagram-requires
datagram-requires c =
    in_batch c.args.ticket.now c.args.frames.now (pairs c.args.frames.now) c.loop-number.number (0, record { 0 = 0 }) refl c.requires.frames c.loop-number-test.true

pub loop-number-preserved : goal.loop-number-preserved
loop-number-preserved c =
    let t = c.args.ticket.now in
    let number = c.loop-number.number in
    let frames = c.args.frames.now in
    let within = c.loop-number-test.true in
    let frame = get_or frames number (0, record { 0 = 0 }) in
    let event : Event = Datagram (frame_text t (Vector frame.0 frame.1.0)) in
    elim c.if-number-gates.branch [
      | then-number-gates+in_ok-datagram+in_ok-push w ↦
          ap (λ v. v.items) w.events-is
          ∙ w.in_ok-push.ensures.items
          ∙ ap (λ (e : Event). c.loop-number.events.items ++ e ∷ []) w.in_ok-datagram.ensures
          ∙ ap (λ (l : List Event). l ++ event ∷ []) c.loop-number.invariant
          ∙ sym (events_dealt t c.args.gates c.args.i number frames (0, record { 0 = 0 }) within w.if-number-gates.true)
      | else-number-gates w ↦
          ap (λ v. v.items) w.events-is
          ∙ c.loop-number.invariant
          ∙ sym (events_passed_over t c.args.gates c.args.i number frames (0, record { 0 = 0 }) within w.if-number-gates.false)
    ]

pub new-requires : goal.new-requires
new-requires c = subst (All FitsGate) (sym c.loop-number.invariant) (trial_events-fit c.args.ticket.now _)
