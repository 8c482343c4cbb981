use Rattle.std.proofs.Common.{◌∙◌, ℕ, ap, map, Some, None}
use Rattle.std.specs.Borrow.{Bor}
use Rattle.clap.specs.Walk.{Text}
use Rattle.kk_forms.specs.Request.{Request, under}
use Rattle.kk_forms.proofs.Matches.{under_seen}
use Rattle.kk_forms.proofs.request.Request.number.Goals as goal

pub returns-in_err-number : goal.returns-in_err-number
returns-in_err-number c =
    let see : Bor Text × ℕ → Text × ℕ = λ number. (number.0.now, number.1) in
    c.from_residual.ensures ∙ under_seen see None c.deref.result.now c.args.name.now c.in_err-number.ensures
    ∙ ap (λ entries. under (map see entries) c.args.name.now) c.deref.ensures.value
    ∙ ap (λ (r : Request). under r.numbers c.args.name.now) c.self.view_is

pub returns : goal.returns
returns c =
    let see : Bor Text × ℕ → Text × ℕ = λ number. (number.0.now, number.1) in
    under_seen see (Some c.in_ok-number.field-0.now) c.deref.result.now c.args.name.now c.in_ok-number.ensures
    ∙ ap (λ entries. under (map see entries) c.args.name.now) c.deref.ensures.value
    ∙ ap (λ (r : Request). under r.numbers c.args.name.now) c.self.view_is
