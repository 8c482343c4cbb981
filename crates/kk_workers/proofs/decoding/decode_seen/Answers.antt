use Rattle.std.proofs.Common.{◌∙◌}
use Rattle.kk_decode.proofs.Answering.{answer-same_span}
use Rattle.kk_table.specs.Rule.{sight}
use Rattle.kk_workers.proofs.decoding.decode_seen.Goals as goal

pub returns : goal.returns
returns c =
    c.decode_uncounted.ensures.answer
    ∙ answer-same_span c.args.code.now c.space.result.now.rows (sight c.args.pass.now.known c.args.generation).rows c.space.ensures.span
