use Rattle.std.proofs.Common.{◌≢◌, ◌++◌, [], length, take, Some, ap, sym, ◌∙◌, arith}
use Rattle.kk_relay.proofs.Relays.{length-relay_after}
use Rattle.kk_outside.specs.Change.{change}
use Rattle.kk_outside.specs.Gate.{events_told}
use Rattle.kk_frame.specs.declared.gate_count.Ended.TheVariants as ended
use Rattle.kk_frame.specs.declared.gate_count.GateCount.{GateCount}
use Rattle.kk_frame.specs.Asking.{frames_of}
use Rattle.kk_frame.proofs.Asks.{asks, stops_there}
use Rattle.kk_frame.specs.Events.{ended_by_fault}
use Rattle.kk_relay.proofs.Outcomes.{Run-start, Run-next, Run-few, lacks_end, without_end_of_all, cut_told, cut_of_all, ends_short, fault_told, of_datagram}
use Rattle.kk_relay.proofs.relay.Relay.relay_all.Goals as goal
use Rattle.kk_relay.proofs.relay.Relay.relay_all.Goals.{After-relay_frames}

pub loop-buf-init : goal.loop-buf-init
loop-buf-init g c = Run-start c.args.ticket.now c.args.limits.now c.args.rate (g.R.Rng.stream c.args.rng.now) (g.G.Gate.told c.args.gate.now) (g.O.Outlet.told c.args.outlet.now) c.new-intake.result c.args.self.now c.new-intake.ensures.limits c.new-intake.ensures.after c.new-intake.ensures.running c.requires.empty

pub loop-buf-preserved : goal.loop-buf-preserved
loop-buf-preserved g c =
    let t = c.args.ticket.now in
    let start = g.R.Rng.stream c.args.rng.now in
    let gate = g.G.Gate.told in
    let outlet = g.O.Outlet.told in
    let loop = c.loop-buf in
    let run = loop.invariant in
    let before = change (gate c.args.gate.now) (gate loop.gate) in
    let so_far = change (outlet c.args.outlet.now) (outlet loop.outlet) in
    let asked = c.ask-frames.ensures.asked (gate c.args.gate.now) run.events run.frames run.asked in
    Run-next t c.args.limits.now c.args.rate start (gate c.args.gate.now) (gate c.ask-frames.new.gate) (outlet c.args.outlet.now) (outlet c.relay_frames.new.outlet) loop.intake c.ask-frames.new.self loop.self c.relay_frames.new.self (g.R.Rng.stream loop.rng) (g.R.Rng.stream c.relay_frames.new.rng) loop.sent c.in-Ok.more before so_far (frames_of c.ask-frames.result) run (events_told (change (gate loop.gate) (gate c.ask-frames.new.gate))) asked c.ask-frames.ensures.limits
    (c.in-Ok.ensures.relayed start run.frames (outlet c.args.outlet.now) run.progress)
    (c.in-Ok.ensures.count start run.frames (outlet c.args.outlet.now) run.progress)
    (c.in-Ok.ensures.cause.kept ∙ run.same)

pub overflow_add-sent : goal.overflow_add-sent
overflow_add-sent g c =
    let loop = c.loop-buf in
    let few = Run-few c.args.ticket.now c.args.limits.now c.args.rate (g.R.Rng.stream c.args.rng.now) (change (g.G.Gate.told c.args.gate.now) (g.G.Gate.told loop.gate)) (change (g.O.Outlet.told c.args.outlet.now) (g.O.Outlet.told loop.outlet)) loop.intake loop.self (g.R.Rng.stream loop.rng) loop.sent loop.invariant c.runs.ensures.intake (sym c.runs.ensures.running ∙ c.loop-buf-test.true) c.requires.rate in
    let q = c.new-intake.type_inv in let r = c.new-intake.auto in let z = c.well_formed in
    omega (arith, few, c.in-Ok.ensures.few)

-- ---- a send of what is sent for data frames failed

pub returns-in_default-clause-gate_fault : goal.returns-in_default-clause-gate_fault
returns-in_default-clause-gate_fault g c =
    let run = c.loop-buf.invariant in
    let asked = c.ask-frames.ensures.asked (g.G.Gate.told c.args.gate.now) run.events run.frames run.asked in
    let datagram = c.in_default.ensures.some in
    record {
      rose = λ e. absurd (cc);
      kept = λ _. asked.cause.kept (λ fault. of_datagram (c.ask-frames.new.self.counts.ended ≢ Some ended.Fault) c.ask-frames.result c.in_default.ensures.some c.ask-frames.ensures.no_fault fault);
    }

pub returns-in_default-clause-asked : goal.returns-in_default-clause-asked
returns-in_default-clause-asked g c =
    let gate = g.G.Gate.told in
    let run = c.loop-buf.invariant in
    let asked = c.ask-frames.ensures.asked (gate c.args.gate.now) run.events run.frames run.asked in
    asks c.args.ticket.now c.args.limits.now (change (gate c.args.gate.now) (gate c.ask-frames.new.gate)) (run.events ++ events_told (change (gate c.loop-buf.gate) (gate c.ask-frames.new.gate))) (run.frames ++ frames_of c.ask-frames.result) c.ask-frames.new.self (c.ask-frames.ensures.limits ∙ run.is) asked

pub returns-in_default-clause-cut_short : goal.returns-in_default-clause-cut_short
returns-in_default-clause-cut_short g c = λ is.
    let gate = g.G.Gate.told in
    let outlet = g.O.Outlet.told in
    let start = g.R.Rng.stream c.args.rng.now in
    let run = c.loop-buf.invariant in
    let asked = c.ask-frames.ensures.asked (gate c.args.gate.now) run.events run.frames run.asked in
    let off = c.in_default.ensures.breaks_off start run.frames (outlet c.args.outlet.now) run.progress in
    cut_told c.args.ticket.now c.args.limits.now c.args.rate start (change (gate c.args.gate.now) (gate c.ask-frames.new.gate)) (change (outlet c.args.outlet.now) (outlet c.relay_frames.new.outlet)) (run.events ++ events_told (change (gate c.loop-buf.gate) (gate c.ask-frames.new.gate))) (run.frames ++ frames_of c.ask-frames.result) c.ask-frames.new.self c.relay_frames.new.self (g.R.Rng.stream c.relay_frames.new.rng) (c.ask-frames.ensures.limits ∙ run.is) asked off

pub returns-in_default-clause-cut_short_of_all : goal.returns-in_default-clause-cut_short_of_all
returns-in_default-clause-cut_short_of_all g c = λ is.
    let gate = g.G.Gate.told in
    let outlet = g.O.Outlet.told in
    let start = g.R.Rng.stream c.args.rng.now in
    let run = c.loop-buf.invariant in
    let asked = c.ask-frames.ensures.asked (gate c.args.gate.now) run.events run.frames run.asked in
    let off = c.in_default.ensures.breaks_off start run.frames (outlet c.args.outlet.now) run.progress in
    cut_of_all c.args.ticket.now c.args.limits.now c.args.rate start (change (gate c.args.gate.now) (gate c.ask-frames.new.gate)) (change (outlet c.args.outlet.now) (outlet c.relay_frames.new.outlet)) (run.events ++ events_told (change (gate c.loop-buf.gate) (gate c.ask-frames.new.gate))) (run.frames ++ frames_of c.ask-frames.result) c.ask-frames.new.self c.relay_frames.new.self (g.R.Rng.stream c.relay_frames.new.rng) (c.ask-frames.ensures.limits ∙ run.is) asked off

pub returns-in_default-clause-broken_off : goal.returns-in_default-clause-broken_off
returns-in_default-clause-broken_off g c = λ is.
    let gate = g.G.Gate.told in
    let outlet = g.O.Outlet.told in
    let start = g.R.Rng.stream c.args.rng.now in
    let run = c.loop-buf.invariant in
    let asked = c.ask-frames.ensures.asked (gate c.args.gate.now) run.events run.frames run.asked in
    let off = c.in_default.ensures.breaks_off start run.frames (outlet c.args.outlet.now) run.progress in
    ends_short c.args.ticket.now c.args.limits.now c.args.rate start (change (gate c.args.gate.now) (gate c.ask-frames.new.gate)) (change (outlet c.args.outlet.now) (outlet c.relay_frames.new.outlet)) (run.events ++ events_told (change (gate c.loop-buf.gate) (gate c.ask-frames.new.gate))) (run.frames ++ frames_of c.ask-frames.result) c.ask-frames.new.self c.relay_frames.new.self (g.R.Rng.stream c.relay_frames.new.rng) (c.ask-frames.ensures.limits ∙ run.is) asked off

-- ---- the send of END failed

pub returns-in_default-send_frame-clause-cut_short_of_all : goal.returns-in_default-send_frame-clause-cut_short_of_all
returns-in_default-send_frame-clause-cut_short_of_all g c = λ is.
    let outlet = g.O.Outlet.told in
    let loop = c.loop-buf in
    without_end_of_all c.args.ticket.now c.args.limits.now c.args.rate (g.R.Rng.stream c.args.rng.now) (change (g.G.Gate.told c.args.gate.now) (g.G.Gate.told loop.gate)) (change (outlet c.args.outlet.now) (outlet loop.outlet)) loop.intake loop.self (g.R.Rng.stream loop.rng) loop.sent (outlet c.send_frame.new.outlet) loop.invariant (sym c.runs.ensures.running ∙ c.loop-buf-test.false)
    (ap ended_by_fault (ap (λ (n : GateCount). n.ended) (sym c.counts-counts.ensures.counts)) ∙ fault_told c.counts-counts.result.ended c.is_some_and.result c.is_some_and.ensures ∙ c.if-is_some_and.false)
    c.in_default-send_frame.ensures.sends.failed

pub returns-in_default-clause-generations : goal.returns-in_default-clause-generations
returns-in_default-clause-generations g c =
    let t = c.args.ticket.now in
    let run = c.loop-buf.invariant in
    let off = c.in_default.ensures.breaks_off (g.R.Rng.stream c.args.rng.now) run.frames (g.O.Outlet.told c.args.outlet.now) run.progress in
    ap length off.holds ∙ length-relay_after t (take off.count (run.frames ++ frames_of c.ask-frames.result)) ∙ sym (ap length c.requires.empty ∙ length-relay_after t [])

pub returns-in_default-send_frame-clause-broken_off : goal.returns-in_default-send_frame-clause-broken_off
returns-in_default-send_frame-clause-broken_off g c = λ is.
    let outlet = g.O.Outlet.told in
    let loop = c.loop-buf in
    lacks_end c.args.ticket.now c.args.limits.now c.args.rate (g.R.Rng.stream c.args.rng.now) (change (g.G.Gate.told c.args.gate.now) (g.G.Gate.told loop.gate)) (change (outlet c.args.outlet.now) (outlet loop.outlet)) loop.intake loop.self (g.R.Rng.stream loop.rng) loop.sent loop.invariant (sym c.runs.ensures.running ∙ c.loop-buf-test.false) (outlet c.send_frame.new.outlet)
    c.in_default-send_frame.ensures.sends.failed

-- ---- the gate has ended

pub returns-clause-asked : goal.returns-clause-asked
returns-clause-asked g c =
    let run = c.loop-buf.invariant in
    asks c.args.ticket.now c.args.limits.now (change (g.G.Gate.told c.args.gate.now) (g.G.Gate.told c.loop-buf.gate)) run.events run.frames c.loop-buf.intake run.is run.asked

pub returns-clause-stop : goal.returns-clause-stop
returns-clause-stop g c = λ other.
    let run = c.loop-buf.invariant in
    stops_there c.args.ticket.now c.args.limits.now (change (g.G.Gate.told c.args.gate.now) (g.G.Gate.told c.loop-buf.gate)) run.events run.frames c.loop-buf.intake run.is run.asked (sym c.runs.ensures.running ∙ c.loop-buf-test.false)
