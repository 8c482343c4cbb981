use Rattle.std.proofs.Common.{◌≡◌, length, ap, sym, ◌∙◌, arith}
use Rattle.std.proofs.lemmas.List.{length-map}
use Rattle.kk_rows.specs.declared.rows.Row.{Row}
use Rattle.kk_relay.specs.RelayState.{rank}
use Rattle.kk_relay.proofs.basis.Basis.rank.Goals as goal

pub overflow_cast-result : goal.overflow_cast-result
overflow_cast-result c = omega (arith, c.as_slice.ensures.few)

pub returns-clause-rank : goal.returns-clause-rank
returns-clause-rank c =
    let count : length c.as_slice.result.now ≡ rank c.args.self.now = sym (length-map c.as_slice.result.now (λ (row : Row). row.0)) ∙ ap length c.as_slice.ensures.rows ∙ ap rank c.self.view_is in
    omega (arith, count)

pub returns-clause-few : goal.returns-clause-few
returns-clause-few c = omega (arith, c.as_slice.ensures.few)
