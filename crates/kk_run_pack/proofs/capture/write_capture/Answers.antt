use Rattle.std.proofs.Common.{◌≡◌, [], ◌++◌, sym, subst, refl, ◌∙◌, arith, Err}
use Rattle.std.proofs.lemmas.List.{append-nil}
use Rattle.std.proofs.lemmas.Result.{err_from_is_err_and}
use Rattle.kk_code.specs.Ticket.{generations}
use Rattle.kk_frame.specs.Frame.{End, frame_text}
use Rattle.kk_sender.specs.SentFrames.{packed}
use Rattle.kk_report.specs.Block.{Adds}
use Rattle.kk_report.proofs.Blocks.{Added, Added-ok, Added-nothing, Added-after, Adds-after, Adds-err, Adds-stopped, WritesAllTo-added}
use Rattle.kk_run_pack.proofs.Capturing.{rows_are, text_to, text_to-more, packed-all, packed-cut}
use Rattle.kk_run_pack.proofs.capture.write_capture.Goals as goal

pub loop-generation-init : goal.loop-generation-init
loop-generation-init g c =
    let now = g.K.Sink.told c.args.sink.now in
    record {
      added = subst (λ b. Added now now [] b []) (sym c.new-block.ensures) (Added-nothing now []);
      same = refl;
    }

pub returns-in_err-add_rows-clause-writes : goal.returns-in_err-add_rows-clause-writes
returns-in_err-add_rows-clause-writes g c =
    let told = g.K.Sink.told in
    let t = c.args.ticket.now in
    let file = c.args.file.now in
    let n = c.loop-generation.generation in
    let start = told c.args.sink.now in
    let now = told c.loop-generation.sink in
    let after = told c.add_rows.new.sink in
    let holds = c.add_rows.new.block in
    let rows = c.as_slice.ensures.rows ∙ rows_are t file n c.args.encoder.now c.cut-message.result c.encode-codeword.result c.requires.encoder c.cut-message.ensures.exact c.encode-codeword.ensures.rows in
    let cut = packed-cut t file n _ (omega (arith, c.loop-generation-test.true, c.generations-generation-end.ensures.count)) rows in
    let p = err_from_is_err_and c.from_residual.result c.from_residual.ensures.1 in
    let failed = Adds-after {T = Unit {0}} start now after [] c.loop-generation.block holds (Err p.0) (text_to t file n) _ c.loop-generation.invariant.added (Adds-err _ _ _ _ _ c.in_err-add_rows.ensures.adds) in
    let all = Adds-stopped {T = Unit {0}} {U = Unit {0}} {d = p.0} start after [] holds _ cut.0 failed in
    rw p.1 (WritesAllTo-added start after holds (Err p.0) (packed t file) (subst (Adds start after [] holds (Err p.0)) (sym cut.1) all) tt)

pub loop-generation-preserved : goal.loop-generation-preserved
loop-generation-preserved g c =
    let told = g.K.Sink.told in
    let t = c.args.ticket.now in
    let file = c.args.file.now in
    let n = c.loop-generation.generation in
    let rows = c.as_slice.ensures.rows ∙ rows_are t file n c.args.encoder.now c.cut-message.result c.encode-codeword.result c.requires.encoder c.cut-message.ensures.exact c.encode-codeword.ensures.rows in
    record {
      added = subst (Added (told c.args.sink.now) (told c.add_rows.new.sink) [] c.add_rows.new.block) (sym (text_to-more t file n _ rows))
          (Added-after (told c.args.sink.now) (told c.loop-generation.sink) (told c.add_rows.new.sink) [] c.loop-generation.block c.add_rows.new.block (text_to t file n) _ c.loop-generation.invariant.added (Added-ok _ _ _ _ _ c.in_ok-add_rows.ensures.adds));
      same = c.in_ok-add_rows.ensures.cause.kept ∙ c.loop-generation.invariant.same;
    }

pub returns-in_err-add_frame-clause-writes : goal.returns-in_err-add_frame-clause-writes
returns-in_err-add_frame-clause-writes g c =
    let told = g.K.Sink.told in
    let t = c.args.ticket.now in
    let file = c.args.file.now in
    let start = told c.args.sink.now in
    let now = told c.loop-generation.sink in
    let after = told c.add_frame.new.sink in
    let holds = c.add_frame.new.block in
    let end : c.loop-generation.generation ≡ generations t = omega (arith, c.loop-generation-test.false, c.loop-generation.auto.generation-end, c.generations-generation-end.ensures.count) in
    let p = err_from_is_err_and c.from_residual-in_err-add_frame.result c.from_residual-in_err-add_frame.ensures.1 in
    let front = subst (λ n. Added start now [] c.loop-generation.block (text_to t file n)) end c.loop-generation.invariant.added in
    let failed = Adds-after {T = Unit {0}} start now after [] c.loop-generation.block holds (Err p.0) (text_to t file (generations t)) (frame_text t End) front (Adds-err _ _ _ _ _ c.in_err-add_frame.ensures.adds) in
    rw p.1 (WritesAllTo-added start after holds (Err p.0) (packed t file) (subst (Adds start after [] holds (Err p.0)) (sym (packed-all t file)) failed) tt)

pub returns-clause-writes : goal.returns-clause-writes
returns-clause-writes g c =
    let told = g.K.Sink.told in
    let t = c.args.ticket.now in
    let file = c.args.file.now in
    let start = told c.args.sink.now in
    let now = told c.loop-generation.sink in
    let then_ = told c.add_frame.new.sink in
    let after = told c.flush.new.sink in
    let end : c.loop-generation.generation ≡ generations t = omega (arith, c.loop-generation-test.false, c.loop-generation.auto.generation-end, c.generations-generation-end.ensures.count) in
    let front = subst (λ n. Added start now [] c.loop-generation.block (text_to t file n)) end c.loop-generation.invariant.added in
    let both = Added-after start now then_ [] c.loop-generation.block c.add_frame.new.block (text_to t file (generations t)) (frame_text t End) front (Added-ok _ _ _ _ _ c.in_ok-add_frame.ensures.adds) in
    let all = Adds-after start then_ after [] c.add_frame.new.block c.flush.new.self c.flush.result _ [] both c.flush.ensures.adds in
    WritesAllTo-added start after c.flush.new.self c.flush.result (packed t file)
    (subst (Adds start after [] c.flush.new.self c.flush.result) (append-nil (text_to t file (generations t) ++ frame_text t End) ∙ sym (packed-all t file)) all) c.flush.ensures.empty
