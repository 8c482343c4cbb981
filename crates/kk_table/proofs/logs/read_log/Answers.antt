use Rattle.std.proofs.Common.{◌∙◌, ℕ, sym, ap, subst}
use mathlib.Core.Option.{some}
use Rattle.std.specs.Mem.Slots.{slots_items}
use Rattle.kk_machine.specs.declared.log.Log.{Log}
use Rattle.kk_machine.specs.Steps.{IsLog, Sees, sight_after}
use Rattle.kk_machine.proofs.Worlds.{sees_nothing}
use Rattle.kk_machine.specs.Sights.{Seen}
use Rattle.kk_table.specs.Logs.{Shows}
use Rattle.kk_table.proofs.LogReads.{reads_at}
use Rattle.kk_table.proofs.logs.read_log.Goals.{then-word-eq0-via-then-word-eq0, then-word-eq0-via-else-word-eq0+then-word-eq-CLOSED}
use Rattle.kk_table.proofs.logs.read_log.Goals as goal

pub loop-generation-init : goal.loop-generation-init
loop-generation-init c = record {
  width = c.requires.fresh.1;
  unclosed = ap (λ (l : Log). l.closed) c.requires.fresh.0;
  seen = λ x shows. subst (Sees x) (sym c.requires.fresh.0) (sees_nothing x);
}

pub tell-requires : goal.tell-requires
tell-requires c =
    let inv = c.loop-generation.invariant in
    let known = c.requires.shows in
    let r = reads_at c.args.shape _ c.args.generation _ _ known.0 c.loop-generation.sight.log _ known.1 (inv.seen known.0 known.1) c.first_word-start.ensures c.len.ensures.length (c.word.ensures ∙ ap some (sym c.from-word.ensures)) in
    subst (λ (w : ℕ). IsLog w (sight_after c.loop-generation.sight.log c.from-word.result)) (sym inv.width) r.told

pub returns-then-word-eq0-clause-log : goal.returns-then-word-eq0-clause-log
returns-then-word-eq0-clause-log c l shows =
    let inv = c.loop-generation.invariant in
    let r = reads_at c.args.shape _ c.args.generation _ _ l c.loop-generation.sight.log _ shows (inv.seen l shows) c.first_word-start.ensures c.len.ensures.length (c.word.ensures ∙ ap some (sym c.from-word.ensures)) in
    ap (λ (s : Seen). s.log) c.tell.ensures ∙ elim c.then-word-eq0.branch [ then-word-eq0-via-then-word-eq0 w ↦ r.at_zero w.if-word-eq0.true | then-word-eq0-via-else-word-eq0+then-word-eq-CLOSED w ↦ r.at_mark w.if-word-eq-CLOSED.true ]

pub loop-generation-preserved : goal.loop-generation-preserved
loop-generation-preserved c =
    let inv = c.loop-generation.invariant in
    let known = c.requires.shows in
    let read = λ (l : Log) (shows : Shows c.args.shape (slots_items c.args.closed.now.words) c.args.generation l).
    reads_at c.args.shape _ c.args.generation _ _ l c.loop-generation.sight.log _ shows (inv.seen l shows) c.first_word-start.ensures c.len.ensures.length (c.word.ensures ∙ ap some (sym c.from-word.ensures)) in
    record {
      width = ap (λ (s : Seen). s.width) c.tell.ensures ∙ inv.width;
      unclosed = ap (λ (s : Seen). s.log.closed) c.tell.ensures ∙ ((read known.0 known.1).further c.if-word-eq0.false c.if-word-eq-CLOSED.false).0;
      seen = λ l shows. subst (Sees l) (sym (ap (λ (s : Seen). s.log) c.tell.ensures)) (read l shows).seen;
    }
