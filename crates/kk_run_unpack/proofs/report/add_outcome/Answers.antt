use Rattle.std.proofs.Common.{◌≡◌, ◌++◌, length, ap, ◌∙◌}
use Rattle.std.specs.Prelude.{sum_by}
use Rattle.std.proofs.lemmas.Result.{err_from_is_err_and}
use Rattle.kk_rows.specs.Span.{dimension}
use Rattle.kk_outcome.specs.Outcome.{count_line, generation_lines, inserts_line, unfrozen_totals}
use Rattle.kk_report.specs.Report.{gate_line}
use Rattle.kk_run_unpack.specs.Report.{outcomes}
use Rattle.kk_report.proofs.Blocks.{Added-ok, Adds-after, Added-after, Adds-stopped}
use Rattle.kk_run_unpack.proofs.report.add_outcome.Goals as goal

pub returns-in_err-push-clause-adds : goal.returns-in_err-push-clause-adds
returns-in_err-push-clause-adds g c =
    let told = g.P.Sink.told in
    let spaces = c.args.spaces.now in
    let counts = c.args.counts.now in
    let count = count_line (length spaces) in
    let gate = gate_line 0 counts in
    let lines = generation_lines (outcomes spaces c.args.answers.now) in
    let inserts = inserts_line (unfrozen_totals counts.frames (sum_by (λ space. dimension space.rows) spaces)) in
    let now = told c.args.report.now in
    let held = c.args.block.now in
    let first : c.as_bytes.result.now ≡ count = c.as_bytes.ensures.value ∙ c.as_str.ensures.value ∙ c.count_line.ensures in
    let new = told c.push.new.sink in
    let holds = c.push.new.self in
    let failed = rw first at c.in_err-push.ensures.adds in
    let p = err_from_is_err_and c.from_residual.result c.from_residual.ensures.1 in
    rw p.1 (Adds-stopped {T = Unit {0}} now new held holds (count ++ gate ++ lines) inserts (Adds-stopped {T = Unit {0}} now new held holds (count ++ gate) lines (Adds-stopped now new held holds count gate failed)))

pub returns-in_err-push-2-clause-adds : goal.returns-in_err-push-2-clause-adds
returns-in_err-push-2-clause-adds g c =
    let told = g.P.Sink.told in
    let spaces = c.args.spaces.now in
    let counts = c.args.counts.now in
    let count = count_line (length spaces) in
    let gate = gate_line 0 counts in
    let lines = generation_lines (outcomes spaces c.args.answers.now) in
    let inserts = inserts_line (unfrozen_totals counts.frames (sum_by (λ space. dimension space.rows) spaces)) in
    let now = told c.args.report.now in
    let held = c.args.block.now in
    let first : c.as_bytes.result.now ≡ count = c.as_bytes.ensures.value ∙ c.as_str.ensures.value ∙ c.count_line.ensures in
    let second : c.as_bytes-2.result.now ≡ gate = c.as_bytes-2.ensures.value ∙ c.as_str-2.ensures.value ∙ c.gate_line.ensures in
    let new = told c.push-2.new.sink in
    let holds = c.push-2.new.self in
    let one = Added-ok now (told c.push.new.sink) held c.push.new.self count (rw first at c.in_ok-push.ensures.adds) in
    let failed = Adds-after now (told c.push.new.sink) new held c.push.new.self holds _ count gate one (rw second at c.in_err-push-2.ensures.adds) in
    let p = err_from_is_err_and c.from_residual-in_err-push-2.result c.from_residual-in_err-push-2.ensures.1 in
    rw p.1 (Adds-stopped {T = Unit {0}} now new held holds (count ++ gate ++ lines) inserts (Adds-stopped now new held holds (count ++ gate) lines failed))

pub returns-in_err-add_generations-clause-adds : goal.returns-in_err-add_generations-clause-adds
returns-in_err-add_generations-clause-adds g c =
    let told = g.P.Sink.told in
    let spaces = c.args.spaces.now in
    let counts = c.args.counts.now in
    let count = count_line (length spaces) in
    let gate = gate_line 0 counts in
    let lines = generation_lines (outcomes spaces c.args.answers.now) in
    let inserts = inserts_line (unfrozen_totals counts.frames (sum_by (λ space. dimension space.rows) spaces)) in
    let now = told c.args.report.now in
    let held = c.args.block.now in
    let first : c.as_bytes.result.now ≡ count = c.as_bytes.ensures.value ∙ c.as_str.ensures.value ∙ c.count_line.ensures in
    let second : c.as_bytes-2.result.now ≡ gate = c.as_bytes-2.ensures.value ∙ c.as_str-2.ensures.value ∙ c.gate_line.ensures in
    let new = told c.add_generations.new.report in
    let holds = c.add_generations.new.block in
    let one = Added-ok now (told c.push.new.sink) held c.push.new.self count (rw first at c.in_ok-push.ensures.adds) in
    let two = Added-after now (told c.push.new.sink) (told c.push-2.new.sink) held c.push.new.self c.push-2.new.self count gate one (Added-ok _ _ _ _ gate (rw second at c.in_ok-push-2.ensures.adds)) in
    let failed = Adds-after now (told c.push-2.new.sink) new held c.push-2.new.self holds _ (count ++ gate) lines two c.in_err-add_generations.ensures.adds in
    let p = err_from_is_err_and c.from_residual-in_err-add_generations.result c.from_residual-in_err-add_generations.ensures.1 in
    rw p.1 (Adds-stopped now new held holds (count ++ gate ++ lines) inserts failed)

pub returns-clause-adds : goal.returns-clause-adds
returns-clause-adds g c =
    let told = g.P.Sink.told in
    let spaces = c.args.spaces.now in
    let counts = c.args.counts.now in
    let count = count_line (length spaces) in
    let gate = gate_line 0 counts in
    let lines = generation_lines (outcomes spaces c.args.answers.now) in
    let inserts = inserts_line (unfrozen_totals counts.frames (sum_by (λ space. dimension space.rows) spaces)) in
    let now = told c.args.report.now in
    let held = c.args.block.now in
    let first : c.as_bytes.result.now ≡ count = c.as_bytes.ensures.value ∙ c.as_str.ensures.value ∙ c.count_line.ensures in
    let second : c.as_bytes-2.result.now ≡ gate = c.as_bytes-2.ensures.value ∙ c.as_str-2.ensures.value ∙ c.gate_line.ensures in
    let third : c.as_bytes-3.result.now ≡ inserts = c.as_bytes-3.ensures.value ∙ c.as_str-3.ensures.value ∙ c.inserts_line.ensures ∙ ap inserts_line c.unfrozen-totals.ensures in
    let one = Added-ok now (told c.push.new.sink) held c.push.new.self count (rw first at c.in_ok-push.ensures.adds) in
    let two = Added-after now (told c.push.new.sink) (told c.push-2.new.sink) held c.push.new.self c.push-2.new.self count gate one (Added-ok _ _ _ _ gate (rw second at c.in_ok-push-2.ensures.adds)) in
    let three = Added-after now (told c.push-2.new.sink) (told c.add_generations.new.report) held c.push-2.new.self c.add_generations.new.block (count ++ gate) lines two (Added-ok _ _ _ _ lines c.in_ok-add_generations.ensures.adds) in
    Adds-after now (told c.add_generations.new.report) (told c.push-3.new.sink) held c.add_generations.new.block c.push-3.new.self _ (count ++ gate ++ lines) inserts three (rw third at c.push-3.ensures.adds)
