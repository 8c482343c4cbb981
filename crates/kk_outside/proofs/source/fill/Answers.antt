use Rattle.std.proofs.Common.{refl, ◌-◌, length, ◌∙◌, arith}
use Rattle.kk_outside.proofs.Known.{Took-nothing, Took-more}
use Rattle.kk_outside.proofs.source.fill.Goals as goal

pub loop-have-init : goal.loop-have-init
loop-have-init g c = record { within = omega arith; took = Took-nothing (g.S.Source.told c.args.source.now); same = refl }

pub loop-have-preserved : goal.loop-have-preserved
loop-have-preserved g c =
    let told = g.S.Source.told in
    let h = c.in_ok-n.ensures in
    let loop = c.loop-have in
    record {
      within = grind arith;
      took = Took-more (told c.args.source.now) (told loop.source) (told c.read.new.self) loop.have (length loop.buf - loop.have) c.in_ok-n.n loop.buf c.read.new.buf loop.invariant.within loop.invariant.took h.reads c.if-n-eq0.false;
      same = h.cause.kept ∙ loop.invariant.same;
    }
