use Rattle.std.proofs.Common.{◌∙◌, ℕ, List, Option, Some, None, get_or, refl, sym, ap}
use Rattle.kk_workers.specs.declared.plan.Plan.{Plan}
use Rattle.kk_workers.specs.Received.{changes}
use Rattle.kk_workers.proofs.OneHistory.{answer-taken}
use Rattle.kk_test_table.proofs.workers.first_message.Goals as goal

pub returns-in-Some-clause-message : goal.returns-in-Some-clause-message
returns-in-Some-clause-message g c =
    let plan : Plan = record { limits = c.args.limits; goal = None } in
    let gates = changes g.G.Gate.told c.args.gates.now.items c.receive.new.gates.items in
    let read = c.index-answers-0.result in
    ap Some (c.from_slice.ensures ∙ c.symbols.ensures.symbols) ∙ sym c.in-Some.is ∙ c.index-answers-0.is
    ∙ ap (λ (l : List (Option (List ℕ))). get_or l 0 read) c.answers.ensures
    ∙ answer-taken c.args.ticket.now plan gates c.in_ok-received.received refl c.in_ok-received.ensures.one_history 0 read c.requires.some

pub returns-clause-message : goal.returns-clause-message
returns-clause-message g c =
    let plan : Plan = record { limits = c.args.limits; goal = None } in
    let gates = changes g.G.Gate.told c.args.gates.now.items c.receive.new.gates.items in
    let read = c.index-answers-0.result in
    sym c.in-None.is ∙ c.index-answers-0.is
    ∙ ap (λ (l : List (Option (List ℕ))). get_or l 0 read) c.answers.ensures
    ∙ answer-taken c.args.ticket.now plan gates c.in_ok-received.received refl c.in_ok-received.ensures.one_history 0 read c.requires.some
