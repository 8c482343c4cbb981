use Rattle.std.proofs.Common.{◌≡◌, ◌∙◌, ℕ, sym, ap, subst, arith}
use Rattle.std.specs.Box.{boxed_slice_items}
use Rattle.std.specs.Mem.Slots.{slots_items}
use Rattle.kk_machine.specs.History.{log_of}
use Rattle.kk_machine.specs.Sights.{logs_of}
use Rattle.kk_table.specs.Table.{TableView}
use Rattle.kk_table.specs.Founder.{FounderView}
use Rattle.kk_table.specs.Logs.{IsRead, IsLogs}
use Rattle.kk_table.proofs.Finishes.{finished, shows_of, all_read, read_none}
use Rattle.kk_table.proofs.gen_table.GenTable.finish.Goals as goal

pub loop-generation-init : goal.loop-generation-init
loop-generation-init c = read_none _ _ _ c.self.invariant.1

pub read_log-requires-clause-shows : goal.read_log-requires-clause-shows
read_log-requires-clause-shows c =
    let one : c.founder.inside.shape ≡ c.self.inside.shape = ap (λ (f : FounderView). f.table.shape) c.founder.view_is ∙ ap (λ (t : TableView). t.shape) (c.requires.founder ∙ sym c.self.view_is) in
    let end = finished _ c.self.inside.shape c.founder.inside.shape _ _ _ _ _ _ c.args.founder c.self.invariant.0.keyed one c.founder.invariant.knows
    (ap (λ (f : FounderView). f.given) c.founder.view_is) (ap (λ (f : FounderView). f.records) c.founder.view_is) c.out-out.ensures c.if-out-gt0.false c.close-closed.ensures.last in
    (log_of c.loop-generation.generation end.history, shows_of _ _ _ c.self.invariant.0.fits end c.loop-generation.generation c.loop-generation-test.true)

pub invariant_of-result : goal.invariant_of-result
invariant_of-result c =
    let one : c.founder.inside.shape ≡ c.self.inside.shape = ap (λ (f : FounderView). f.table.shape) c.founder.view_is ∙ ap (λ (t : TableView). t.shape) (c.requires.founder ∙ sym c.self.view_is) in
    let end = finished _ c.self.inside.shape c.founder.inside.shape _ _ _ _ _ _ c.args.founder c.self.invariant.0.keyed one c.founder.invariant.knows
    (ap (λ (f : FounderView). f.given) c.founder.view_is) (ap (λ (f : FounderView). f.records) c.founder.view_is) c.out-out.ensures c.if-out-gt0.false c.close-closed.ensures.last in
    let done : c.loop-generation.generation ≡ c.self.inside.shape.generations = omega (arith, c.loop-generation-test.false, c.loop-generation.auto) in
    subst (λ (f : FounderView). IsLogs c.self.inside.shape f.records (logs_of (boxed_slice_items c.loop-generation.logs))) (c.founder.view_is ∙ sym c.of-kept.ensures)
    (all_read _ _ _ _ c.self.invariant.0.fits end (subst (λ (n : ℕ). IsRead c.self.inside.shape (slots_items c.close-closed.result.words) n (boxed_slice_items c.loop-generation.logs)) done c.loop-generation.invariant))
