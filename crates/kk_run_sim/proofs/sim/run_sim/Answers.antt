use Rattle.kk_report.specs.Command.{texts}
use Rattle.kk_order.specs.Order.{cause_of}
use Rattle.kk_run_sim.proofs.Sims.{sim_refused, sim_run}
use Rattle.kk_run_sim.proofs.sim.run_sim.Goals as goal

pub returns-in-Ok-clause-simulates : goal.returns-in-Ok-clause-simulates
returns-in-Ok-clause-simulates g c =
    sim_run (texts c.args.words.now) c.in-Ok.simulating _ _ c.run.result c.in-Ok.ensures.ordered c.run.ensures.simulation

pub returns-in-Err-clause-simulates : goal.returns-in-Err-clause-simulates
returns-in-Err-clause-simulates g c =
    sim_refused (texts c.args.words.now) (cause_of c.in-Err.fault) _ _ c.refuse_words.result c.in-Err.ensures.refused c.refuse_words.ensures.status c.refuse_words.ensures.given
