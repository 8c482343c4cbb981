use Rattle.std.proofs.Common.{rules, ◌≡◌, codes, ◌++◌, subst}
use Rattle.kk_outside.specs.Change.{change}
use Rattle.kk_outside.specs.Sink.{WasGiven}
use Rattle.kk_outside.proofs.Known.{WasGiven-written}
use Rattle.kk_code.specs.Ticket.{ticket_text}
use Rattle.kk_run_plan.proofs.planning.write_ticket.Goals as goal

pub returns-in-Ok-clause-given : goal.returns-in-Ok-clause-given
returns-in-Ok-clause-given g c =
    let sink = change (g.K.Sink.told c.args.file.now) (g.K.Sink.told c.write_all.new.sink) in
    let line : c.as_bytes.result.now ≡ ticket_text c.args.ticket.now ++ codes "\n" = search rules in
    subst (λ text. WasGiven text sink) line (WasGiven-written c.as_bytes.result.now sink c.write_all.result c.write_all.ensures.writes c.write_all.ensures.cause)
