use Rattle.std.proofs.Common.{◌≡◌, ℕ, List, sym, ◌∙◌}
use Rattle.std.specs.Prelude.{Option, Some, None, IfSome, IfNone}
use Rattle.kk_rows.specs.Rows.{numbers}
use Rattle.kk_rows.specs.Span.{in_span}
use Rattle.kk_code.specs.Codeword.{Parameters}
use Rattle.kk_code.specs.Decoding.{Decodes}
use Rattle.kk_decode.proofs.Reach.{Decodes-same_span}
use Rattle.kk_decode.proofs.Answering.{answer-same_span}
use Rattle.kk_decode.proofs.decoder.decode.Goals as goal

some_too : (p : Parameters) (rows rows' : List ℕ) → ((x : ℕ) → in_span rows x ≡ in_span rows' x) → (r : Option (List ℕ))
    → IfSome r (Decodes p rows) → IfSome r (Decodes p rows')
some_too p rows rows' same (Some u) some = Decodes-same_span p rows rows' u same some
some_too p rows rows' same None some = some

none_too : (p : Parameters) (rows rows' : List ℕ) → ((x : ℕ) → in_span rows x ≡ in_span rows' x) → (r : Option (List ℕ))
    → IfNone r ((u : List ℕ) → Decodes p rows u → ⊥) → IfNone r ((u : List ℕ) → Decodes p rows' u → ⊥)
none_too p rows rows' same (Some u) none = none
none_too p rows rows' same None none = λ u d. none u (Decodes-same_span p rows' rows u (λ x. sym (same x)) d)

pub returns-clause-some : goal.returns-clause-some
returns-clause-some g c =
    some_too c.args.code.now c.spanned.result.rows (numbers c.args.rows.now) c.spanned.ensures.span c.decode_space.result c.decode_space.ensures.some

pub returns-clause-none : goal.returns-clause-none
returns-clause-none g c =
    none_too c.args.code.now c.spanned.result.rows (numbers c.args.rows.now) c.spanned.ensures.span c.decode_space.result c.decode_space.ensures.none

pub returns-clause-answer : goal.returns-clause-answer
returns-clause-answer g c =
    c.decode_space.ensures.answer ∙ answer-same_span c.args.code.now c.spanned.result.rows (numbers c.args.rows.now) c.spanned.ensures.span
