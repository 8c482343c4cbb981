use Rattle.std.proofs.Common.{◌≡◌, ◌++◌, List, [], Option, Err, ap, refl, ◌∙◌, ℕ, arith}
use Rattle.std.proofs.lemmas.List.{append-nil}
use Rattle.std.proofs.lemmas.Result.{err_from_is_err_and}
use Rattle.kk_rows.specs.Space.{Space}
use Rattle.kk_frame.specs.declared.gate_count.GateCount.{GateCount}
use Rattle.kk_report.specs.declared.status.Status.{Status}
use Rattle.kk_report.specs.declared.status.Status.TheVariants.{Done, NotDecoded, GateFailed, OutputFault}
use Rattle.kk_run_unpack.specs.Report.{outcome_lines, outcome_report}
use Rattle.kk_report.specs.Report.{status_line}
use Rattle.kk_report.specs.Status.{code_of}
use Rattle.kk_report.proofs.Blocks.{Added-ok, Adds-err, Adds-after, Added-after, Adds-stopped, WritesAllTo-added}
use Rattle.kk_run_unpack.proofs.report.write_report.Goals as goal

with_lines : (status : Status) (counts : GateCount) (spaces : List Space) (answers : List (Option (List ℕ))) → (code_of status ≡ 5 → ⊥) → outcome_report (code_of status) counts spaces answers ≡ outcome_lines counts spaces answers ++ status_line (code_of status)
with_lines Done counts spaces answers other = refl
with_lines NotDecoded counts spaces answers other = refl
with_lines GateFailed counts spaces answers other = refl
with_lines OutputFault counts spaces answers other = absurd (other refl)

pub returns-in_err-add_outcome-clause-writes : goal.returns-in_err-add_outcome-clause-writes
returns-in_err-add_outcome-clause-writes g c =
    let told = g.P.Sink.told in
    let now = told c.args.report.now in
    let lines = outcome_lines c.args.counts.now c.args.spaces.now c.args.answers.now in
    let last = status_line (code_of c.args.status) in
    let empty = c.new-block.ensures in
    let are : outcome_report (code_of c.args.status) c.args.counts.now c.args.spaces.now c.args.answers.now ≡ lines ++ last = with_lines c.args.status c.args.counts.now c.args.spaces.now c.args.answers.now (grind arith) in
    let new = told c.add_outcome.new.report in
    let holds = c.add_outcome.new.block in
    let p = err_from_is_err_and c.from_residual.result c.from_residual.ensures.1 in
    let failed = Adds-stopped {T = Unit {0}} {d = p.0} now new [] holds lines last (rw empty at c.in_err-add_outcome.ensures.adds) in
    rw (p.1, are) (WritesAllTo-added now new holds (Err p.0) (lines ++ last) failed tt)

pub returns-in_err-push-clause-writes : goal.returns-in_err-push-clause-writes
returns-in_err-push-clause-writes g c =
    let told = g.P.Sink.told in
    let now = told c.args.report.now in
    let lines = outcome_lines c.args.counts.now c.args.spaces.now c.args.answers.now in
    let last = status_line (code_of c.args.status) in
    let empty = c.new-block.ensures in
    let are : outcome_report (code_of c.args.status) c.args.counts.now c.args.spaces.now c.args.answers.now ≡ lines ++ last = with_lines c.args.status c.args.counts.now c.args.spaces.now c.args.answers.now (grind arith) in
    let line : c.as_bytes-2.result.now ≡ last = c.as_bytes-2.ensures.value ∙ c.as_str-2.ensures.value ∙ c.status_line-last.ensures.text ∙ ap status_line c.code.ensures in
    let first = Added-ok now (told c.add_outcome.new.report) [] c.add_outcome.new.block lines (rw empty at c.in_ok-add_outcome.ensures.adds) in
    let new = told c.push.new.sink in
    let holds = c.push.new.self in
    let p = err_from_is_err_and c.from_residual-in_err-push.result c.from_residual-in_err-push.ensures.1 in
    let failed = Adds-after now (told c.add_outcome.new.report) new [] c.add_outcome.new.block holds (Err p.0) lines last first (Adds-err _ _ _ _ last (rw line at c.in_err-push.ensures.adds)) in
    rw (p.1, are) (WritesAllTo-added now new holds (Err p.0) (lines ++ last) failed tt)

pub returns-clause-writes : goal.returns-clause-writes
returns-clause-writes g c =
    let told = g.P.Sink.told in
    let now = told c.args.report.now in
    let lines = outcome_lines c.args.counts.now c.args.spaces.now c.args.answers.now in
    let last = status_line (code_of c.args.status) in
    let empty = c.new-block.ensures in
    let are : outcome_report (code_of c.args.status) c.args.counts.now c.args.spaces.now c.args.answers.now ≡ lines ++ last = with_lines c.args.status c.args.counts.now c.args.spaces.now c.args.answers.now (grind arith) in
    let line : c.as_bytes-2.result.now ≡ last = c.as_bytes-2.ensures.value ∙ c.as_str-2.ensures.value ∙ c.status_line-last.ensures.text ∙ ap status_line c.code.ensures in
    let first = Added-ok now (told c.add_outcome.new.report) [] c.add_outcome.new.block lines (rw empty at c.in_ok-add_outcome.ensures.adds) in
    let new = told c.flush.new.sink in
    let both = Added-after now (told c.add_outcome.new.report) (told c.push.new.sink) [] c.add_outcome.new.block c.push.new.self lines last first (Added-ok _ _ _ _ last (rw line at c.in_ok-push.ensures.adds)) in
    let all = Adds-after now (told c.push.new.sink) new [] c.push.new.self c.flush.new.self c.flush.result (lines ++ last) [] both c.flush.ensures.adds in
    rw are (WritesAllTo-added now new c.flush.new.self c.flush.result (lines ++ last) (rw append-nil at all) c.flush.ensures.empty)
