use Rattle.std.proofs.Common.{◌≡◌, length, map, subst, sym, arith, ◌∙◌}
use Rattle.std.proofs.lemmas.List.{length-map}
use Rattle.kk_outside.specs.Change.{change}
use Rattle.kk_report.specs.Command.{texts}
use Rattle.kk_order.specs.Order.{IsRefusedFor, cause_of}
use Rattle.kk_run_relay.specs.Relay.{AsksFor, answer_of}
use Rattle.kk_run_relay.proofs.Promises.{relays_refused, relays_ran, first_is, as_many}
use Rattle.kk_run_relay.proofs.relay.run_relay.Goals as goal

pub returns-in-Err-clause-relays : goal.returns-in-Err-clause-relays
returns-in-Err-clause-relays g c =
    let words = texts c.args.words.now in
    let told = map g.G.Gate.told c.args.gates.now.items in
    let count : c.len.result ≡ length told = c.len.ensures ∙ c.args.gates.now.ok.0 ∙ sym (length-map c.args.gates.now.items g.G.Gate.told) in
    relays_refused words (cause_of c.in-Err.fault) c.refuse_words.result told (change (g.P.Sink.told c.args.report.now) (g.P.Sink.told c.refuse_words.new.report)) (g.O.Outlet.told c.args.outlet.now)
    (subst (λ n. IsRefusedFor (answer_of words n) (cause_of c.in-Err.fault)) count c.in-Err.ensures.refused) c.refuse_words.ensures.status c.refuse_words.ensures.given

pub returns-clause-relays : goal.returns-clause-relays
returns-clause-relays g c =
    let words = texts c.args.words.now in
    let told = map g.G.Gate.told c.args.gates.now.items in
    let count : c.len.result ≡ length told = c.len.ensures ∙ c.args.gates.now.ok.0 ∙ sym (length-map c.args.gates.now.items g.G.Gate.told) in
    relays_ran words c.in-Ok.relaying c.run.result _ _ _ _
    (subst (λ n. AsksFor words n c.in-Ok.relaying) count c.in-Ok.ensures.asked)
    (first_is g.G.Gate.told c.args.gates.now.items c.index_mut.result.now c.run.new.gate (λ none. omega (arith, c.in-Ok.ensures.heard, c.len.ensures, c.args.gates.now.ok.0, none)) c.index_mut.ensures.value)
    (as_many g.G.Gate.told c.args.gates.now.items c.run.new.gate)
    c.run.ensures.relays
