use Rattle.std.proofs.Common.{codes, Some, sym, ◌∙◌}
use Rattle.kk_order.proofs.Orders.{number_is}
use Rattle.kk_run_send.proofs.Sends.{goes_by}
use Rattle.kk_run_send.proofs.sending.Sending.open.Goals as goal

pub returns-clause-asked : goal.returns-clause-asked
returns-clause-asked c =
    let order = c.in-Ok.order in
    record {
      order = order;
      ordered = c.in-Ok.ensures.ordered;
      same = goes_by order c.in-Ok-new.sender (Some c.unwrap-seed.result) c.unwrap-extra.result c.unwrap-frames_per_datagram.result (c.in-Ok-new.ensures ∙ c.ticket.ensures) (sym c.unwrap-seed.ensures ∙ c.seed.ensures)
          (number_is order (codes "extra") _ c.unwrap-extra.result c.number.ensures c.unwrap-extra.ensures)
          (number_is order (codes "pack") _ c.unwrap-frames_per_datagram.result c.number-2.ensures c.unwrap-frames_per_datagram.ensures);
    }
