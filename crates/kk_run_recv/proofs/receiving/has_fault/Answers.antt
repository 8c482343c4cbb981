use Rattle.std.proofs.Common.{◌∙◌, length, sym, ap, arith}
use Rattle.std.proofs.lemmas.Option.{get_or_from_slice_get}
use Rattle.std.proofs.lemmas.List.{take_all}
use Rattle.kk_run_recv.specs.Receiver.{some_fault}
use Rattle.kk_run_recv.proofs.Receivers.{some_fault-at, some_fault-more}
use Rattle.kk_run_recv.proofs.receiving.has_fault.Goals as goal

pub returns-then-is_fault : goal.returns-then-is_fault
returns-then-is_fault c =
    let gates = c.args.received.now.gates in
    let i = c.loop-i.i in
    let one = c.gate.result in
    sym (some_fault-at gates i one (omega (arith, c.loop-i-test.true, ap length c.gates-i-end.ensures)) (get_or_from_slice_get gates i one one c.gate.ensures) (sym c.is_fault.ensures ∙ c.if-is_fault.true))

pub loop-i-preserved : goal.loop-i-preserved
loop-i-preserved c =
    let gates = c.args.received.now.gates in
    let i = c.loop-i.i in
    let one = c.gate.result in
    some_fault-more gates i one (omega (arith, c.loop-i-test.true, ap length c.gates-i-end.ensures)) (get_or_from_slice_get gates i one one c.gate.ensures) (sym c.is_fault.ensures ∙ c.if-is_fault.false) c.loop-i.invariant

pub returns : goal.returns
returns c =
    let gates = c.args.received.now.gates in
    sym (ap some_fault (sym (take_all c.loop-i.i gates (omega (arith, c.loop-i-test.false, ap length c.gates-i-end.ensures)))) ∙ c.loop-i.invariant)
