use Rattle.std.proofs.Common.{ℕ, List, Option, ◌∷◌, ◌++◌, [], sym, ◌∙◌, arith}
use Rattle.std.proofs.lemmas.List.FromFn.{map-range_with_len_more}
use Rattle.kk_workers.specs.Runs.{lists_in, closing_answer}
use Rattle.kk_workers.proofs.closing.decode_all.Goals as goal

pub loop-generation-preserved : goal.loop-generation-preserved
loop-generation-preserved c =
    let loop = c.loop-generation in
    let f : ℕ → Option (List ℕ) = closing_answer c.args.code.now (lists_in c.args.kept.now) c.args.pass.now.known in
    record {
      answers = c.push_reserved.ensures.items ∙ (λ i. loop.invariant.answers i ++ c.answer_of.ensures i ∷ []) ∙ sym (map-range_with_len_more f 0 loop.generation loop.generation (omega arith));
      len = omega (arith, c.push_reserved.ensures.len, loop.invariant.len);
      room = omega (arith, c.push_reserved.ensures.capacity, loop.invariant.room);
    }
