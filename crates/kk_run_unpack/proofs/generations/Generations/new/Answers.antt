use Rattle.std.proofs.Common.{List, [], get_or, subst, sym, arith}
use Rattle.kk_rows.specs.Space.{Space}
use Rattle.kk_code.specs.Codeword.{width}
use Rattle.kk_frame.specs.Generation.{rows_of}
use Rattle.kk_run_unpack.specs.Spaces.{Spans, no_space}
use Rattle.kk_run_unpack.proofs.generations.Generations.new.Goals as goal

pub returns : goal.returns
unfolding rows_of
returns c = record {
  count = omega (arith, c.loop.invariant.count, c.loop.auto.counter-end, c.generations-count.ensures.count);
  each = λ g below. subst (λ (l : List Space). Spans (width c.args.ticket.now.code) (get_or l g no_space) []) (sym c.into_boxed_slice.ensures.items)
      (c.loop.invariant.each g no_space (omega (arith, c.loop.invariant.count, c.generations-count.ensures.count)));
}
