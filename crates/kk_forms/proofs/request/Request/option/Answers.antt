use Rattle.std.proofs.Common.{◌∙◌, ap, map, option_map, String, Some, None}
use Rattle.std.specs.Prelude.{string_bytes}
use Rattle.std.specs.Borrow.{Bor}
use Rattle.std.specs.declared.alloc.Global.{Global}
use Rattle.clap.specs.Walk.{Text}
use Rattle.kk_forms.specs.Request.{Request, under}
use Rattle.kk_forms.proofs.Matches.{under_seen}
use Rattle.kk_forms.proofs.request.Request.option.Goals as goal

pub returns-in_err-text : goal.returns-in_err-text
returns-in_err-text c =
    let see : Bor Text × String Global → Text × Text = λ option. (option.0.now, string_bytes option.1) in
    ap (option_map (λ (s : Bor Text). s.now)) c.from_residual.ensures ∙ under_seen see None c.deref.result.now c.args.name.now c.in_err-text.ensures
    ∙ ap (λ entries. under (map see entries) c.args.name.now) c.deref.ensures.value
    ∙ ap (λ (r : Request). under r.options c.args.name.now) c.self.view_is

pub returns : goal.returns
returns c =
    let see : Bor Text × String Global → Text × Text = λ option. (option.0.now, string_bytes option.1) in
    ap Some c.as_str.ensures.value ∙ under_seen see (Some c.in_ok-text.field-0.now) c.deref.result.now c.args.name.now c.in_ok-text.ensures
    ∙ ap (λ entries. under (map see entries) c.args.name.now) c.deref.ensures.value
    ∙ ap (λ (r : Request). under r.options c.args.name.now) c.self.view_is
