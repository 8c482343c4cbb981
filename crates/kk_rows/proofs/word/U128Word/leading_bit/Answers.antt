use Rattle.std.proofs.Common.{arith}
use Rattle.kk_rows.proofs.Leads.{lead_alone}
use Rattle.kk_rows.proofs.word.U128Word.leading_bit.Goals as goal

pub returns : goal.returns
returns c p lead =
    lead_alone c.args.self p c.ilog2.result 128 (omega (arith, c.ilog2.ensures.bound)) lead c.ilog2.ensures.power_le c.ilog2.ensures.next_power_gt
