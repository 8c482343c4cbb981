use Rattle.std.proofs.Common.{◌≡◌, take, fold}
use Rattle.kk_rows.specs.Traces.{cleared_trace}
use Rattle.kk_rows.proofs.traced.Traced.cleared_by_all.Given as goal

abbrev pub invariant-loop-lead : goal.invariant-loop-lead
invariant-loop-lead l = l.cleared ≡ fold cleared_trace l.fn.self (take l.lead-index l.leads)
