use Rattle.kk_channel.proofs.Words.{drawn}
use Rattle.kk_channel.proofs.channel.skip_words.Goals as goal

pub loop-preserved : goal.loop-preserved
loop-preserved g c =
    (drawn (g.R.Rng.stream c.args.rng.now) _ _ _ c.loop.counter c.next_u64.ensures c.loop.invariant).1
