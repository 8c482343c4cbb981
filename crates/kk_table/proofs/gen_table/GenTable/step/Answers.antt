use Rattle.std.proofs.Common.{◌≡◌, ◌<◌, ◌≤◌, ◌∙◌, ℕ, length, sym, ap, subst}
use Rattle.kk_machine.specs.Spaces.{generation_of, IsInWidth}
use Rattle.kk_table.specs.declared.view.Shape.{Shape}
use Rattle.kk_table.specs.Rule.{sight, Tried}
use Rattle.kk_table.specs.Table.{TableView}
use Rattle.kk_table.specs.Pass.{PassView, known_in}
use Rattle.kk_table.proofs.Passes.{passes_on}
use Rattle.kk_table.proofs.Calls.{Stepped, does_step}
use Rattle.kk_table.proofs.gen_table.GenTable.step.Goals as goal

pub invariant_of-pass : goal.invariant_of-pass
invariant_of-pass c =
    let shape : c.pass.inside.shape ≡ c.args.self.now.shape = ap (λ (p : PassView). p.table.shape) c.pass.view_is ∙ ap (λ (t : TableView). t.shape) c.requires.table in
    let own : c.pass.inside.shape ≡ c.self.inside.shape = shape ∙ sym (ap (λ (t : TableView). t.shape) c.self.view_is) in
    let near = subst (λ (s : Shape). c.generation-generation.result < s.generations) (sym shape) (subst (λ (g : ℕ). g < c.args.self.now.shape.generations) (sym c.generation-generation.ensures) c.requires.in_range) in
    let tried = subst (λ (s : Shape). Tried s.width c.changes-changing.result c.args.call c.pass.inside.seat.me.0 c.probe-found.result c.probe-found.new.seat.me.0) (sym own) c.probe-found.ensures.tried in
    passes_on c.pass.inside.shape _ _ _ _ _ _ _ c.changes-changing.result c.args.call c.probe-found.result _ c.pass.invariant c.generation-generation.ensures near tried
    c.probe-found.ensures.table.1 c.index_mut-sight.ensures.value c.leaves.ensures c.tell.ensures

done : (c : goal.After-pass-1) → Stepped c.args.call c.args.pass.now.known (known_in c.probe-found.new.seat.me.0) c.decide-reply.result
    × (length (sight (known_in c.probe-found.new.seat.me.0) (generation_of c.args.call)).rows ≤ c.args.self.now.shape.width)
done c =
    let shape : c.pass.inside.shape ≡ c.args.self.now.shape = ap (λ (p : PassView). p.table.shape) c.pass.view_is ∙ ap (λ (t : TableView). t.shape) c.requires.table in
    let own : c.pass.inside.shape ≡ c.self.inside.shape = shape ∙ sym (ap (λ (t : TableView). t.shape) c.self.view_is) in
    let near = subst (λ (s : Shape). c.generation-generation.result < s.generations) (sym shape) (subst (λ (g : ℕ). g < c.args.self.now.shape.generations) (sym c.generation-generation.ensures) c.requires.in_range) in
    let tried = subst (λ (s : Shape). Tried s.width c.changes-changing.result c.args.call c.pass.inside.seat.me.0 c.probe-found.result c.probe-found.new.seat.me.0) (sym own) c.probe-found.ensures.tried in
    let fits : c.pass.inside.shape.width ≤ 63 = subst (λ (s : Shape). s.width ≤ 63) (sym own) c.self.invariant.0.fits in
    let done = does_step c.pass.inside.shape _ _ c.probe-found.new.seat.me _ _ _ c.changes-changing.result c.args.call c.probe-found.result _ _ c.pass.invariant
    (ap (λ (p : PassView). p.known) c.pass.view_is) fits (subst (λ (s : Shape). IsInWidth s.width c.args.call) (sym shape) c.requires.inside)
    c.generation-generation.ensures near tried c.index_mut-sight.ensures.value c.changes-changing.ensures c.decide-reply.ensures in
    (done.0, subst (λ (s : Shape). length (sight (known_in c.probe-found.new.seat.me.0) (generation_of c.args.call)).rows ≤ s.width) shape done.1)

pub returns-clause-goes_on : goal.returns-clause-goes_on
returns-clause-goes_on c = (done c).0.goes_on

pub returns-clause-accesses : goal.returns-clause-accesses
returns-clause-accesses c = (done c).0.accesses

pub returns-clause-room : goal.returns-clause-room
returns-clause-room c = (done c).1

pub returns-clause-step : goal.returns-clause-step
returns-clause-step c = (done c).0.steps

pub probe-found-requires-clause-narrow : goal.probe-found-requires-clause-narrow
probe-found-requires-clause-narrow c = c.self.invariant.0.fits
