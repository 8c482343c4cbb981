use Rattle.std.proofs.Common.{◌≡◌, ◌++◌, length, ap, sym, ◌∙◌}
use Rattle.std.proofs.lemmas.Result.{err_from_is_err_and}
use Rattle.kk_outcome.specs.Outcome.{count_line, gate_lines_from, generation_lines, inserts_line}
use Rattle.kk_run_recv.specs.Report.{logged_outcomes}
use Rattle.kk_report.proofs.Blocks.{Added-ok, Adds-after, Added-after, Adds-stopped}
use Rattle.kk_run_recv.proofs.Logged.{length-logged}
use Rattle.kk_run_recv.proofs.report.add_received.Goals as goal

pub returns-in_err-push-clause-adds : goal.returns-in_err-push-clause-adds
returns-in_err-push-clause-adds g c =
    let told = g.P.Sink.told in
    let r = c.args.received.now in
    let n = c.args.received.now.logs.shape.generations in
    let found = logged_outcomes n r.logs.logs r.answers in
    let count = count_line (length found) in
    let gates = gate_lines_from 0 r.gates in
    let lines = generation_lines found in
    let inserts = inserts_line r.totals in
    let now = told c.args.report.now in
    let held = c.args.block.now in
    let first : c.as_bytes.result.now ≡ count = c.as_bytes.ensures.value ∙ c.as_str.ensures.value ∙ c.count_line-count.ensures ∙ ap count_line (c.generations.ensures.count ∙ sym (length-logged n r.logs.logs r.answers)) in
    let new = told c.push.new.sink in
    let holds = c.push.new.self in
    let failed = rw first at c.in_err-push.ensures.adds in
    let p = err_from_is_err_and c.from_residual.result c.from_residual.ensures.1 in
    rw p.1 (Adds-stopped {T = Unit {0}} now new held holds (count ++ gates ++ lines) inserts (Adds-stopped {T = Unit {0}} now new held holds (count ++ gates) lines (Adds-stopped now new held holds count gates failed)))

pub returns-in_err-add_gates-clause-adds : goal.returns-in_err-add_gates-clause-adds
returns-in_err-add_gates-clause-adds g c =
    let told = g.P.Sink.told in
    let r = c.args.received.now in
    let n = c.args.received.now.logs.shape.generations in
    let found = logged_outcomes n r.logs.logs r.answers in
    let count = count_line (length found) in
    let gates = gate_lines_from 0 r.gates in
    let lines = generation_lines found in
    let inserts = inserts_line r.totals in
    let now = told c.args.report.now in
    let held = c.args.block.now in
    let first : c.as_bytes.result.now ≡ count = c.as_bytes.ensures.value ∙ c.as_str.ensures.value ∙ c.count_line-count.ensures ∙ ap count_line (c.generations.ensures.count ∙ sym (length-logged n r.logs.logs r.answers)) in
    let one = Added-ok now (told c.push.new.sink) held c.push.new.self count (rw first at c.in_ok-push.ensures.adds) in
    let new = told c.add_gates.new.report in
    let holds = c.add_gates.new.block in
    let failed = Adds-after now (told c.push.new.sink) new held c.push.new.self holds _ count gates one c.in_err-add_gates.ensures.adds in
    let p = err_from_is_err_and c.from_residual-in_err-add_gates.result c.from_residual-in_err-add_gates.ensures.1 in
    rw p.1 (Adds-stopped {T = Unit {0}} now new held holds (count ++ gates ++ lines) inserts (Adds-stopped now new held holds (count ++ gates) lines failed))

pub returns-in_err-add_logs-clause-adds : goal.returns-in_err-add_logs-clause-adds
returns-in_err-add_logs-clause-adds g c =
    let told = g.P.Sink.told in
    let r = c.args.received.now in
    let n = c.args.received.now.logs.shape.generations in
    let found = logged_outcomes n r.logs.logs r.answers in
    let count = count_line (length found) in
    let gates = gate_lines_from 0 r.gates in
    let lines = generation_lines found in
    let inserts = inserts_line r.totals in
    let now = told c.args.report.now in
    let held = c.args.block.now in
    let first : c.as_bytes.result.now ≡ count = c.as_bytes.ensures.value ∙ c.as_str.ensures.value ∙ c.count_line-count.ensures ∙ ap count_line (c.generations.ensures.count ∙ sym (length-logged n r.logs.logs r.answers)) in
    let one = Added-ok now (told c.push.new.sink) held c.push.new.self count (rw first at c.in_ok-push.ensures.adds) in
    let two = Added-after now (told c.push.new.sink) (told c.add_gates.new.report) held c.push.new.self c.add_gates.new.block count gates one (Added-ok _ _ _ _ gates c.in_ok-add_gates.ensures.adds) in
    let new = told c.add_logs.new.report in
    let holds = c.add_logs.new.block in
    let failed = Adds-after now (told c.add_gates.new.report) new held c.add_gates.new.block holds _ (count ++ gates) lines two c.in_err-add_logs.ensures.adds in
    let p = err_from_is_err_and c.from_residual-in_err-add_logs.result c.from_residual-in_err-add_logs.ensures.1 in
    rw p.1 (Adds-stopped now new held holds (count ++ gates ++ lines) inserts failed)

pub returns-clause-adds : goal.returns-clause-adds
returns-clause-adds g c =
    let told = g.P.Sink.told in
    let r = c.args.received.now in
    let n = c.args.received.now.logs.shape.generations in
    let found = logged_outcomes n r.logs.logs r.answers in
    let count = count_line (length found) in
    let gates = gate_lines_from 0 r.gates in
    let lines = generation_lines found in
    let inserts = inserts_line r.totals in
    let now = told c.args.report.now in
    let held = c.args.block.now in
    let first : c.as_bytes.result.now ≡ count = c.as_bytes.ensures.value ∙ c.as_str.ensures.value ∙ c.count_line-count.ensures ∙ ap count_line (c.generations.ensures.count ∙ sym (length-logged n r.logs.logs r.answers)) in
    let one = Added-ok now (told c.push.new.sink) held c.push.new.self count (rw first at c.in_ok-push.ensures.adds) in
    let two = Added-after now (told c.push.new.sink) (told c.add_gates.new.report) held c.push.new.self c.add_gates.new.block count gates one (Added-ok _ _ _ _ gates c.in_ok-add_gates.ensures.adds) in
    let third : c.as_bytes-2.result.now ≡ inserts = c.as_bytes-2.ensures.value ∙ c.as_str-2.ensures.value ∙ c.inserts_line.ensures ∙ ap inserts_line c.totals.ensures in
    let three = Added-after now (told c.add_gates.new.report) (told c.add_logs.new.report) held c.add_gates.new.block c.add_logs.new.block (count ++ gates) lines two (Added-ok _ _ _ _ lines c.in_ok-add_logs.ensures.adds) in
    Adds-after now (told c.add_logs.new.report) (told c.push-2.new.sink) held c.add_logs.new.block c.push-2.new.self _ (count ++ gates ++ lines) inserts three (rw third at c.push-2.ensures.adds)
