use Rattle.std.proofs.Common.{◌≡◌, ◌<◌, ◌∷◌, [], ◌∙◌, ap, get_or, drop, length, arith, rules}
use Rattle.std.proofs.lemmas.Grind.{common_steps}
use Rattle.std.proofs.lemmas.List.{map-append}
use Rattle.kk_workers.specs.Runs.{lists_in}
use Rattle.kk_workers.proofs.Hires.{remove-drop, map-next}
use Rattle.kk_workers.proofs.running.dismiss.Goals as goal

pub loop-i-preserved : goal.loop-i-preserved
loop-i-preserved g c =
    let inv = c.loop-i.invariant in
    let i = c.loop-i.i in
    let all = c.args.workers.now.items in
    let w = c.remove-worker.result in
    let inside : i < length all = search rules in
    let first : w ≡ get_or (drop i all) 0 w = c.remove-worker.ensures.value ∙ ap (λ xs. get_or xs 0 w) inv.workers in
    record {
      workers = c.remove-worker.ensures.items ∙ ap (λ xs. drop 1 xs) inv.workers ∙ remove-drop all i;
      gates = c.push_reserved-in-loop-i.ensures.items ∙ map-next (λ x. x.gate) all i w c.loop-i.gates.items c.into_all-pass.result.1 inside first inv.gates c.into_all-pass.ensures.gate;
      gates_len = search rules;
      gates_room = search rules;
      counts = grind (arith, common_steps);
      counts_len = search rules;
      counts_room = search rules;
      kept = ap lists_in c.push_reserved-in-loop-i-2.ensures.items ∙ map-append (λ room. room.items) c.loop-i.kept.items (c.into_all-pass.result.2 ∷ [])
          ∙ map-next (λ x. x.answers) all i w (lists_in c.loop-i.kept.items) c.into_all-pass.result.2.items inside first inv.kept c.into_all-pass.ensures.answers;
      kept_len = search rules;
      kept_room = search rules;
      totals = grind (arith, common_steps);
      within = search rules;
      few = grind (arith, common_steps);
      founder = grind (arith, common_steps);
    }
