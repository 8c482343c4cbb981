use Rattle.std.proofs.Common.{◌≡◌, ◌++◌, List, [], Err, ap, refl, ◌∙◌, ℕ, Bool, arith}
use Rattle.std.proofs.lemmas.List.{append-nil}
use Rattle.std.proofs.lemmas.Result.{err_from_is_err_and}
use Rattle.kk_frame.specs.declared.gate_count.GateCount.{GateCount}
use Rattle.kk_report.specs.declared.status.Status.{Status}
use Rattle.kk_report.specs.declared.status.Status.TheVariants.{Done, NotDecoded, GateFailed, OutputFault}
use Rattle.kk_workers.specs.declared.totals.Totals.{Totals}
use Rattle.kk_outcome.specs.Outcome.{received_lines}
use Rattle.kk_run_recv.specs.Report.{receiver_report, logged_outcomes}
use Rattle.kk_report.specs.Report.{status_line}
use Rattle.kk_report.specs.Status.{code_of}
use Rattle.kk_report.proofs.Blocks.{Added-ok, Adds-err, Adds-after, Added-after, Adds-stopped, WritesAllTo-added}
use Rattle.kk_run_recv.proofs.report.write_received.Goals as goal

with_lines : (status : Status) (gates : List GateCount) (found : List (ℕ × Bool)) (totals : Totals) → (code_of status ≡ 5 → ⊥) → receiver_report (code_of status) gates found totals ≡ received_lines gates found totals ++ status_line (code_of status)
with_lines Done gates found totals other = refl
with_lines NotDecoded gates found totals other = refl
with_lines GateFailed gates found totals other = refl
with_lines OutputFault gates found totals other = absurd (other refl)

pub returns-in_err-add_received-clause-writes : goal.returns-in_err-add_received-clause-writes
returns-in_err-add_received-clause-writes g c =
    let told = g.P.Sink.told in
    let now = told c.args.report.now in
    let lines = received_lines c.args.received.now.gates (logged_outcomes c.args.received.now.logs.shape.generations c.args.received.now.logs.logs c.args.received.now.answers) c.args.received.now.totals in
    let last = status_line (code_of c.args.status) in
    let empty = c.new-block.ensures in
    let are : receiver_report (code_of c.args.status) c.args.received.now.gates (logged_outcomes c.args.received.now.logs.shape.generations c.args.received.now.logs.logs c.args.received.now.answers) c.args.received.now.totals ≡ lines ++ last = with_lines c.args.status c.args.received.now.gates (logged_outcomes c.args.received.now.logs.shape.generations c.args.received.now.logs.logs c.args.received.now.answers) c.args.received.now.totals (grind arith) in
    let new = told c.add_received.new.report in
    let holds = c.add_received.new.block in
    let p = err_from_is_err_and c.from_residual.result c.from_residual.ensures.1 in
    let failed = Adds-stopped {T = Unit {0}} {d = p.0} now new [] holds lines last (rw empty at c.in_err-add_received.ensures.adds) in
    rw (p.1, are) (WritesAllTo-added now new holds (Err p.0) (lines ++ last) failed tt)

pub returns-in_err-push-clause-writes : goal.returns-in_err-push-clause-writes
returns-in_err-push-clause-writes g c =
    let told = g.P.Sink.told in
    let now = told c.args.report.now in
    let lines = received_lines c.args.received.now.gates (logged_outcomes c.args.received.now.logs.shape.generations c.args.received.now.logs.logs c.args.received.now.answers) c.args.received.now.totals in
    let last = status_line (code_of c.args.status) in
    let empty = c.new-block.ensures in
    let are : receiver_report (code_of c.args.status) c.args.received.now.gates (logged_outcomes c.args.received.now.logs.shape.generations c.args.received.now.logs.logs c.args.received.now.answers) c.args.received.now.totals ≡ lines ++ last = with_lines c.args.status c.args.received.now.gates (logged_outcomes c.args.received.now.logs.shape.generations c.args.received.now.logs.logs c.args.received.now.answers) c.args.received.now.totals (grind arith) in
    let line : c.as_bytes-2.result.now ≡ last = c.as_bytes-2.ensures.value ∙ c.as_str-2.ensures.value ∙ c.status_line-last.ensures.text ∙ ap status_line c.code.ensures in
    let first = Added-ok now (told c.add_received.new.report) [] c.add_received.new.block lines (rw empty at c.in_ok-add_received.ensures.adds) in
    let new = told c.push.new.sink in
    let holds = c.push.new.self in
    let p = err_from_is_err_and c.from_residual-in_err-push.result c.from_residual-in_err-push.ensures.1 in
    let failed = Adds-after now (told c.add_received.new.report) new [] c.add_received.new.block holds (Err p.0) lines last first (Adds-err _ _ _ _ last (rw line at c.in_err-push.ensures.adds)) in
    rw (p.1, are) (WritesAllTo-added now new holds (Err p.0) (lines ++ last) failed tt)

pub returns-clause-writes : goal.returns-clause-writes
returns-clause-writes g c =
    let told = g.P.Sink.told in
    let now = told c.args.report.now in
    let lines = received_lines c.args.received.now.gates (logged_outcomes c.args.received.now.logs.shape.generations c.args.received.now.logs.logs c.args.received.now.answers) c.args.received.now.totals in
    let last = status_line (code_of c.args.status) in
    let empty = c.new-block.ensures in
    let are : receiver_report (code_of c.args.status) c.args.received.now.gates (logged_outcomes c.args.received.now.logs.shape.generations c.args.received.now.logs.logs c.args.received.now.answers) c.args.received.now.totals ≡ lines ++ last = with_lines c.args.status c.args.received.now.gates (logged_outcomes c.args.received.now.logs.shape.generations c.args.received.now.logs.logs c.args.received.now.answers) c.args.received.now.totals (grind arith) in
    let line : c.as_bytes-2.result.now ≡ last = c.as_bytes-2.ensures.value ∙ c.as_str-2.ensures.value ∙ c.status_line-last.ensures.text ∙ ap status_line c.code.ensures in
    let first = Added-ok now (told c.add_received.new.report) [] c.add_received.new.block lines (rw empty at c.in_ok-add_received.ensures.adds) in
    let new = told c.flush.new.sink in
    let both = Added-after now (told c.add_received.new.report) (told c.push.new.sink) [] c.add_received.new.block c.push.new.self lines last first (Added-ok _ _ _ _ last (rw line at c.in_ok-push.ensures.adds)) in
    let all = Adds-after now (told c.push.new.sink) new [] c.push.new.self c.flush.new.self c.flush.result (lines ++ last) [] both c.flush.ensures.adds in
    rw are (WritesAllTo-added now new c.flush.new.self c.flush.result (lines ++ last) (rw append-nil at all) c.flush.ensures.empty)
