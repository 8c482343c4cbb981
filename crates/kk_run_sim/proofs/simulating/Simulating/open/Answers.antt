use Rattle.std.proofs.Common.{◌≡◌, ◌∙◌, ℕ, ◌≤◌, List, Option, Some, IfSome, codes, sym, ap, subst, arith}
use Rattle.rand_core.specs.Steps.{stream_of, steps_u32}
use Rattle.rand_chacha.specs.ChaCha.{ChaCha, next_word}
use Rattle.kk_outside.specs.Generator.{word_at}
use Rattle.kk_outside.specs.GateState.{GateState}
use Rattle.kk_code.specs.Ticket.{TicketFields}
use Rattle.kk_order.specs.Order.{AreKept}
use Rattle.kk_order.specs.Seed.{words_of}
use Rattle.kk_order.proofs.Orders.{number_is}
use Rattle.kk_trial.specs.declared.operator_channel.OperatorChannel.{OperatorChannel}
use Rattle.kk_trial.specs.Trial.{made_file, trial_gates}
use Rattle.kk_run_sim.specs.Sim.{gates_of, loss_of, sim_form}
use Rattle.kk_workers.specs.declared.running.TheConstants.{MAX_GATES}
use Rattle.kk_run_sim.proofs.simulating.Simulating.open.Goals as goal

-- a number that is there lies in its range
kept : (least most : ℕ) (number : Option ℕ) (n : ℕ) → IfSome number (λ k. (least ≤ k) × (k ≤ most)) → number ≡ Some n → (least ≤ n) × (n ≤ most)
kept least most number n is some = subst (λ (o : Option ℕ). IfSome o (λ k. (least ≤ k) × (k ≤ most))) some is

pub returns-clause-ordered : goal.returns-clause-ordered
returns-clause-ordered c = c.in-Ok.ensures.ordered

pub invariant_of-result : goal.invariant_of-result
invariant_of-result c =
    let order = c.in-Ok.order in
    let erase = number_is order (codes "erase") c.number.result c.unwrap.result c.number.ensures c.unwrap.ensures in
    let inject = number_is order (codes "inject") c.number-2.result c.unwrap-2.result c.number-2.ensures c.unwrap-2.ensures in
    let gates = number_is order (codes "gates") c.number-3.result c.unwrap-gates.result c.number-3.ensures c.unwrap-gates.ensures in
    let bounds : AreKept order sim_form.bounds = c.in-Ok.ensures.bounds in
    let loss : ◌≡◌ {A = OperatorChannel} (record { erase = c.unwrap.result; inject = c.unwrap-2.result }) (loss_of order) = λ i. record { erase = erase i; inject = inject i } in
    let seed : Some c.unwrap-3.result ≡ order.seed = sym c.unwrap-3.ensures ∙ c.seed.ensures in
    let word : word_at (stream_of (steps_u32 (next_word 10)) c.from_seed-rng.result) ≡ words_of order.seed =
    ap (λ (rng : ChaCha). word_at (stream_of (steps_u32 (next_word 10)) rng)) c.from_seed-rng.ensures ∙ ap words_of seed in
    record {
      erase = omega (arith, erase, (kept 0 order.ticket.code.l c.number.result c.unwrap.result (rw c.number.ensures bounds.0) c.unwrap.ensures).1);
      inject = omega (arith, inject, (kept 0 order.ticket.code.field.degree c.number-2.result c.unwrap-2.result (rw c.number-2.ensures bounds.1.0) c.unwrap-2.ensures).1);
      some = omega (arith, gates, (kept 1 MAX_GATES c.number-3.result c.unwrap-gates.result (rw c.number-3.ensures bounds.1.1.0) c.unwrap-gates.ensures).0);
      file_is = c.in-Ok-make_trial.ensures.file ∙ (λ i. made_file (c.ticket.ensures i).length (word i));
      gates_are = c.in-Ok-make_trial.ensures.gates ∙ (λ i. trial_gates (c.ticket.ensures i) (loss i) (gates i) (word i));
      ticket = c.in-Ok-new.ensures.ticket ∙ c.ticket-2.ensures;
      one_each = c.in-Ok-new.ensures.gates ∙ gates;
      room = c.in-Ok-room_of.ensures.len ∙ ap (λ (t : TicketFields). t.length) c.ticket-3.ensures;
      no_logs = (c.in_ok-left.ensures.items, omega (arith, c.in_ok-left.ensures.capacity));
    }
