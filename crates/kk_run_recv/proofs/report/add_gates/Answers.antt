use Rattle.std.proofs.Common.{◌≡◌, ◌<◌, ◌∙◌, length, get_or, sym, ap, arith}
use Rattle.std.proofs.lemmas.Option.{get_or_from_slice_get}
use Rattle.std.proofs.lemmas.Result.{err_from_is_err_and}
use Rattle.kk_report.specs.Report.{gate_line}
use Rattle.kk_report.proofs.Blocks.{Added-ok}
use Rattle.kk_outcome.proofs.Texts.{Added-gate, Adds-gate_failed}
use Rattle.kk_run_recv.proofs.report.add_gates.Goals as goal

pub returns-in_err-push-clause-adds : goal.returns-in_err-push-clause-adds
returns-in_err-push-clause-adds g c =
    let told = g.P.Sink.told in
    let loop = c.loop-i in
    let gates = c.args.received.now.gates in
    let one = c.gate.result in
    let within : loop.i < length gates = omega (arith, c.loop-i-test.true, ap length c.gates-i-end.ensures) in
    let at : one ≡ get_or gates loop.i one = sym (get_or_from_slice_get gates loop.i one one c.gate.ensures) in
    let text : c.as_bytes.result.now ≡ gate_line loop.i one = c.as_bytes.ensures.value ∙ c.as_str.ensures.value ∙ c.gate_line-line.ensures in
    let p = err_from_is_err_and c.from_residual.result c.from_residual.ensures.1 in
    rw p.1 (Adds-gate_failed (told c.args.report.now) (told loop.report) (told c.push.new.sink) c.args.block.now loop.block c.push.new.self gates loop.i one within at loop.invariant.added (rw text at c.in_err-push.ensures.adds))

pub loop-i-preserved : goal.loop-i-preserved
loop-i-preserved g c =
    let told = g.P.Sink.told in
    let loop = c.loop-i in
    let gates = c.args.received.now.gates in
    let one = c.gate.result in
    let within : loop.i < length gates = omega (arith, c.loop-i-test.true, ap length c.gates-i-end.ensures) in
    let at : one ≡ get_or gates loop.i one = sym (get_or_from_slice_get gates loop.i one one c.gate.ensures) in
    let text : c.as_bytes.result.now ≡ gate_line loop.i one = c.as_bytes.ensures.value ∙ c.as_str.ensures.value ∙ c.gate_line-line.ensures in
    record {
      added = Added-gate (told c.args.report.now) (told loop.report) (told c.push.new.sink) c.args.block.now loop.block c.push.new.self gates loop.i one within at loop.invariant.added (Added-ok _ _ _ _ _ (rw text at c.in_ok-push.ensures.adds));
      same = c.in_ok-push.ensures.cause.kept ∙ loop.invariant.same;
    }
