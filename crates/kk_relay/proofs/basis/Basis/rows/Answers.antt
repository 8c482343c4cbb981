use Rattle.std.proofs.Common.{◌≡◌, ℕ, ◌^◌, ◌<◌, List, ap, sym, subst, ◌∙◌}
use Rattle.std.specs.Prelude.{All}
use Rattle.kk_rows.specs.Rows.{numbers}
use Rattle.kk_relay.specs.RelayState.{BasisState}
use Rattle.kk_relay.proofs.basis.Basis.rows.Goals as goal

pub returns : goal.returns
returns c =
    let rows : numbers c.as_slice.result.now ≡ c.args.self.now.rows = c.as_slice.ensures.rows ∙ ap (λ (b : BasisState). b.rows) c.self.view_is in
    let below : All (λ (row : ℕ). row < 2 ^ c.args.self.now.width) c.args.self.now.rows = subst (λ (b : BasisState). All (λ (row : ℕ). row < 2 ^ b.width) b.rows) c.self.view_is c.self.invariant.0.below in
    record { rows = rows; below = subst (λ (l : List ℕ). All (λ (row : ℕ). row < 2 ^ c.args.self.now.width) l) (sym rows) below }
