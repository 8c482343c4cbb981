use Rattle.std.proofs.Common.{ℕ, ◌<◌, ◌++◌, ◌∷◌, [], ◌^◌, List, ap, sym, subst, ◌∙◌, arith}
use Rattle.kk_rows.specs.Span.{in_span}
use Rattle.kk_rows.proofs.Spans.{in_span-inserted}
use Rattle.kk_relay.specs.RelayState.{BasisState, IsBasis, with_row}
use Rattle.kk_relay.proofs.Bases.{with_row-outside, IsBasis-push, rank-room}
use Rattle.kk_relay.proofs.basis.Basis.insert.Goals as goal

pub push-requires : goal.push-requires
push-requires c =
    let small : c.args.row.0 < 2 ^ c.self.inside.space.width = subst (λ (b : BasisState). c.args.row.0 < 2 ^ b.width) (sym c.self.view_is) c.requires in
    let outside = sym (c.self.invariant.1 c.args.row.0) ∙ c.insert.ensures.outside.0 (sym c.is_some.ensures ∙ c.if-is_some.true) in
    (omega arith, rank-room c.self.inside.space.width c.self.inside.rows c.args.row.0 c.self.invariant.0 small outside)

pub invariant_of-self : goal.invariant_of-self
invariant_of-self c =
    let old = c.self.inside.rows in
    let w = c.self.inside.space.width in
    let small : c.args.row.0 < 2 ^ w = subst (λ (b : BasisState). c.args.row.0 < 2 ^ b.width) (sym c.self.view_is) c.requires in
    let outside = sym (c.self.invariant.1 c.args.row.0) ∙ c.insert.ensures.outside.0 (sym c.is_some.ensures ∙ c.if-is_some.true) in (
      subst (λ (l : List ℕ). IsBasis (record { width = c.insert.new.self.width; rows = l })) (sym c.push.ensures)
          (subst (λ v. IsBasis (record { width = v; rows = old ++ c.args.row.0 ∷ [] })) (sym c.insert.ensures.width) (IsBasis-push w old c.args.row.0 c.self.invariant.0 small outside)),
      λ x. in_span-inserted old c.self.inside.space.rows c.insert.new.self.rows c.args.row.0 c.self.invariant.1 c.insert.ensures.span x ∙ ap (λ l. in_span l x) (sym c.push.ensures),
    )

pub returns-then-is_some : goal.returns-then-is_some
returns-then-is_some c =
    let old = c.self.inside.rows in
    let w = c.self.inside.space.width in
    let outside = sym (c.self.invariant.1 c.args.row.0) ∙ c.insert.ensures.outside.0 (sym c.is_some.ensures ∙ c.if-is_some.true) in
    let state : ℕ → List ℕ → BasisState = λ v l. record { width = v; rows = l } in
    ap (λ v. state v c.push.new.self) c.insert.ensures.width
    ∙ ap (state w) c.push.ensures
    ∙ sym (with_row-outside (state w old) c.args.row.0 outside)
    ∙ ap (λ (b : BasisState). with_row b c.args.row.0) c.self.view_is
