use Rattle.std.proofs.Common.{◌≡◌, ◌∙◌, ◌+◌, ◌<◌, ◌++◌, ◌∷◌, [], length, drop, get_or, replicate, None, sym, ap, refl, rules, arith, List}
use Rattle.kk_table.specs.Founder.{founder_gave}
use Rattle.kk_table.specs.Pass.{PassView}
use Rattle.kk_table.specs.Rule.{newcomer}
use Rattle.kk_workers.specs.Worker.{new_worker}
use Rattle.kk_workers.specs.Runs.{pass_of, founder_of}
use Rattle.kk_workers.proofs.Hires.{remove-drop, hired-first, hired_none, first-all}
use Rattle.kk_workers.proofs.running.hire.Goals as goal

pub loop-i-init : goal.loop-i-init
loop-i-init g c = record {
  gates = refl;
  gates_room = refl;
  rooms = refl;
  rooms_room = refl;
  workers = c.requires.workers ∙ hired_none c.args.table.now c.args.generations 0;
  len = omega (arith, ap length c.requires.workers, c.args.workers.now.ok.0);
  workers_room = refl;
  founder = c.requires.founder ∙ ap (founder_of c.args.table.now (length c.args.gates.now.items + 1) 0 []) (omega arith);
}

pub loop-i-preserved : goal.loop-i-preserved
loop-i-preserved g c =
    let loop = c.loop-i in
    let inv = loop.invariant in
    let table = c.args.table.now in
    let n = c.args.generations in
    let all = c.args.gates.now.items in
    let one = c.remove-gate.result in
    let inside : loop.i < length all = search rules in
    let first : one ≡ get_or (drop loop.i all) 0 one = c.remove-gate.ensures.value ∙ ap (λ (xs : List g.row.G.Denot). get_or xs 0 one) inv.gates in
    let room : c.remove-answers.result ≡ get_or (drop loop.i c.args.rooms.now.items) 0 c.remove-answers.result =
    c.remove-answers.ensures.value ∙ ap (λ xs. get_or xs 0 c.remove-answers.result) inv.rooms in
    let empty : c.remove-answers.result.items ≡ replicate n None =
    first-all (λ room. room.items) (replicate n None) c.args.rooms.now.items loop.i c.remove-answers.result c.requires.empty (omega (arith, inside, c.requires.rooms)) room in
    let given : c.in-Ok.pass ≡ pass_of table loop.i =
    λ j. record {
      table = c.in-Ok.ensures.pass.0 j;
      known = (c.in-Ok.ensures.pass.1 ∙ (λ k. newcomer table.shape.generations (inv.founder k).given (inv.founder k).records)) j;
    } in
    let new : c.of.result ≡ new_worker n (pass_of table loop.i) one = c.of.ensures n empty ∙ ap (λ (p : PassView). new_worker n p one) given in
    record {
      gates = c.remove-gate.ensures.items ∙ ap (λ (xs : List g.row.G.Denot). drop 1 xs) inv.gates ∙ remove-drop all loop.i;
      gates_room = c.remove-gate.ensures.capacity ∙ inv.gates_room;
      rooms_room = c.remove-answers.ensures.capacity ∙ inv.rooms_room;
      rooms = c.remove-answers.ensures.items ∙ ap (λ xs. drop 1 xs) inv.rooms ∙ remove-drop c.args.rooms.now.items loop.i;
      workers = c.push_reserved.ensures.items ∙ (λ j. inv.workers j ++ new j ∷ []) ∙ sym (hired-first table n all loop.i one inside first);
      len = omega (arith, c.push_reserved.ensures.len, inv.len);
      workers_room = c.push_reserved.ensures.capacity ∙ inv.workers_room;
      founder = c.in-Ok.ensures.founder ∙ ap founder_gave inv.founder ∙ ap (founder_of table (length all + 1) (loop.i + 1) []) (omega (arith, inside));
    }
