use Rattle.std.proofs.Common.{rules, ◌≡◌, ◌<◌, ◌≤◌, inl, inr, ap, length, subst, sym, arith, ◌∙◌}
use Rattle.std.proofs.lemmas.Bool.{false≢true}
use Rattle.kk_outside.specs.Change.{change}
use Rattle.kk_outside.specs.Source.{bytes_read}
use Rattle.kk_outside.specs.Sink.{WasGiven}
use Rattle.kk_code.specs.Ticket.{generations, for_length}
use Rattle.kk_code.specs.declared.ticket.TheConstants.{MAX_GENERATIONS}
use Rattle.kk_report.specs.Status.{code_of}
use Rattle.kk_run_plan.specs.Plan.{IsFirstTooLong, NamesTicket, planned}
use Rattle.kk_run_plan.proofs.Plans.{plans_failed, plans_stopped, plans_done, plan_failed, plan_ended, plan_stopped}
use Rattle.kk_run_plan.proofs.Asking.{run_alone}
use Rattle.kk_report.proofs.Statuses.{through_told}
use Rattle.kk_run_plan.proofs.planning.Planning.run.Goals as goal

pub returns-in_default-clause-plans : goal.returns-in_default-clause-plans
returns-in_default-clause-plans g c = λ words named.
    let t = c.self.inside.ticket in
    let source = change (g.S.Source.told c.args.source.now) (g.S.Source.told c.fill.new.source) in
    let size : length c.fill.new.buf ≡ length c.self.inside.room = c.fill.auto.buf ∙ ap length c.as_mut_slice.ensures.value in
    let room = subst (IsFirstTooLong t) (sym size) c.self.invariant.0 in
    let before = plan_failed t source c.in_default.field-0 c.fill.new.buf room c.in_default.ensures.fills in
    plans_failed words t c.refuse.result source (g.K.Sink.told c.args.file.now) (change (g.P.Sink.told c.args.report.now) (g.P.Sink.told c.refuse.new.report))
    (subst (NamesTicket words) (sym c.self.view_is) named) c.refuse.ensures.status (search rules) before c.refuse.ensures.given

pub returns-in-Ok-with_length-clause-plans : goal.returns-in-Ok-with_length-clause-plans
returns-in-Ok-with_length-clause-plans g c = λ words named.
    let t = c.self.inside.ticket in
    let source = change (g.S.Source.told c.args.source.now) (g.S.Source.told c.fill.new.source) in
    let size : length c.fill.new.buf ≡ length c.self.inside.room = c.fill.auto.buf ∙ ap length c.as_mut_slice.ensures.value in
    let room = subst (IsFirstTooLong t) (sym size) c.self.invariant.0 in
    let few : generations (for_length t c.in-Ok.count) ≤ MAX_GENERATIONS =
    let short : MAX_GENERATIONS < generations (for_length t c.in-Ok.count) → ⊥ = λ long. false≢true (c.in-Ok-with_length.ensures.refused.1 long) in omega arith in
    let ends = plan_ended t c.in-Ok.count source c.fill.new.buf room c.in-Ok.ensures.fills few in
    let file = change (g.K.Sink.told c.args.file.now) (g.K.Sink.told c.write_ticket.new.file) in
    let bytes : length (bytes_read source) ≡ c.in-Ok.count = ends.1 in
    let written : WasGiven (planned t (bytes_read source)) file = rw bytes (rw c.in-Ok-with_length.ensures.ticket at c.write_ticket.ensures.given) in
    plans_done words t (code_of c.write_ticket.result) c.conclude.result source file (change (g.P.Sink.told c.args.report.now) (g.P.Sink.told c.conclude.new.report))
    (subst (NamesTicket words) (sym c.self.view_is) named) c.in-Ok.ensures.cause.kept ends.0 c.write_ticket.ensures.status c.write_ticket.ensures.five written c.conclude.ensures.given c.conclude.ensures.same_or_five c.conclude.ensures.five

pub returns-clause-plans : goal.returns-clause-plans
returns-clause-plans g c = λ words named.
    let t = c.self.inside.ticket in
    let source = change (g.S.Source.told c.args.source.now) (g.S.Source.told c.fill.new.source) in
    let size : length c.fill.new.buf ≡ length c.self.inside.room = c.fill.auto.buf ∙ ap length c.as_mut_slice.ensures.value in
    let room = subst (IsFirstTooLong t) (sym size) c.self.invariant.0 in
    let many : MAX_GENERATIONS < generations (for_length t c.in-Ok.count) = c.in-Err.ensures.refused.0 (search rules) in
    let stops = plan_stopped t c.in-Ok.count source c.fill.new.buf room c.in-Ok.ensures.fills many in
    let bytes : length (bytes_read source) ≡ c.in-Ok.count = stops.1 in
    plans_stopped words t c.refuse_words.result c.in-Err.fault source (g.K.Sink.told c.args.file.now) (change (g.P.Sink.told c.args.report.now) (g.P.Sink.told c.refuse_words.new.report))
    (subst (NamesTicket words) (sym c.self.view_is) named) c.refuse_words.ensures.status c.in-Ok.ensures.cause.kept stops.0 (rw bytes c.in-Err.ensures.too_many) c.refuse_words.ensures.given

pub returns-in_default-clause-accepted : goal.returns-in_default-clause-accepted
returns-in_default-clause-accepted g c = run_alone c.refuse.result (inr (inl c.refuse.ensures.status))

pub returns-in-Ok-with_length-clause-accepted : goal.returns-in-Ok-with_length-clause-accepted
returns-in-Ok-with_length-clause-accepted g c = run_alone c.conclude.result (inr (inr (through_told (code_of c.write_ticket.result) c.conclude.result c.write_ticket.ensures.status c.conclude.ensures.same_or_five)))

pub returns-clause-accepted : goal.returns-clause-accepted
returns-clause-accepted g c = run_alone c.refuse_words.result (inl c.refuse_words.ensures.status)
