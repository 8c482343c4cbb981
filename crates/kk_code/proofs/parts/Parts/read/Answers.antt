use Rattle.std.proofs.Common.{not, Some, sym, ap, ◌∙◌}
use Rattle.std.specs.Prelude.{is_none}
use Rattle.std.proofs.lemmas.Result.{err_from_is_err_and}
use Rattle.kk_code.proofs.Shapes.{shape_fault_is, first_false-true, first_false-false, first_false-nil, at_ok, at_err, is_none-option_map, spelled_is}
use Rattle.kk_code.proofs.parts.Parts.read.Goals as goal

pub returns-then-not-has_mark-clause-value : goal.returns-then-not-has_mark-clause-value
returns-then-not-has_mark-clause-value c =
    shape_fault_is c.args.word.now ∙ first_false-false 0 _ _ (sym c.has_mark.ensures ∙ c.if-not-has_mark.true)

pub returns-in_err-session-clause-value : goal.returns-in_err-session-clause-value
returns-in_err-session-clause-value c =
    let p = err_from_is_err_and c.from_residual.result c.from_residual.ensures.1 in
    let mark = sym c.has_mark.ensures ∙ c.if-not-has_mark.false in
    let fault = at_err _ _ _ _ c.hex_part.ensures.value c.in_err-session.was in
    rw p.1 (shape_fault_is c.args.word.now ∙ first_false-true 0 _ _ mark ∙ first_false-false 1 _ _ fault.0 ∙ ap Some (fault.1 ∙ sym p.2))

pub returns-in_err-m-clause-value : goal.returns-in_err-m-clause-value
returns-in_err-m-clause-value c =
    let p = err_from_is_err_and c.from_residual-in_err-m.result c.from_residual-in_err-m.ensures.1 in
    let mark = sym c.has_mark.ensures ∙ c.if-not-has_mark.false in
    let session = at_ok _ _ _ _ c.hex_part.ensures.value c.in_ok-session.was in
    let fault = at_err _ _ _ _ c.decimal_part.ensures.value c.in_err-m.was in
    rw p.1 (shape_fault_is c.args.word.now ∙ first_false-true 0 _ _ mark ∙ first_false-true 1 _ _ session.0 ∙ first_false-false 2 _ _ fault.0 ∙ ap Some (fault.1 ∙ sym p.2))

pub returns-in_err-low-clause-value : goal.returns-in_err-low-clause-value
returns-in_err-low-clause-value c =
    let p = err_from_is_err_and c.from_residual-in_err-low.result c.from_residual-in_err-low.ensures.1 in
    let mark = sym c.has_mark.ensures ∙ c.if-not-has_mark.false in
    let session = at_ok _ _ _ _ c.hex_part.ensures.value c.in_ok-session.was in
    let m = at_ok _ _ _ _ c.decimal_part.ensures.value c.in_ok-m.was in
    let fault = at_err _ _ _ _ c.hex_part-2.ensures.value c.in_err-low.was in
    rw p.1 (shape_fault_is c.args.word.now ∙ first_false-true 0 _ _ mark ∙ first_false-true 1 _ _ session.0 ∙ first_false-true 2 _ _ m.0 ∙ first_false-false 3 _ _ fault.0 ∙ ap Some (fault.1 ∙ sym p.2))

pub returns-in_err-l-clause-value : goal.returns-in_err-l-clause-value
returns-in_err-l-clause-value c =
    let p = err_from_is_err_and c.from_residual-in_err-l.result c.from_residual-in_err-l.ensures.1 in
    let mark = sym c.has_mark.ensures ∙ c.if-not-has_mark.false in
    let session = at_ok _ _ _ _ c.hex_part.ensures.value c.in_ok-session.was in
    let m = at_ok _ _ _ _ c.decimal_part.ensures.value c.in_ok-m.was in
    let low = at_ok _ _ _ _ c.hex_part-2.ensures.value c.in_ok-low.was in
    let fault = at_err _ _ _ _ c.decimal_part-2.ensures.value c.in_err-l.was in
    rw p.1 (shape_fault_is c.args.word.now ∙ first_false-true 0 _ _ mark ∙ first_false-true 1 _ _ session.0 ∙ first_false-true 2 _ _ m.0 ∙ first_false-true 3 _ _ low.0 ∙ first_false-false 4 _ _ fault.0 ∙ ap Some (fault.1 ∙ sym p.2))

pub returns-in_err-k-clause-value : goal.returns-in_err-k-clause-value
returns-in_err-k-clause-value c =
    let p = err_from_is_err_and c.from_residual-in_err-k.result c.from_residual-in_err-k.ensures.1 in
    let mark = sym c.has_mark.ensures ∙ c.if-not-has_mark.false in
    let session = at_ok _ _ _ _ c.hex_part.ensures.value c.in_ok-session.was in
    let m = at_ok _ _ _ _ c.decimal_part.ensures.value c.in_ok-m.was in
    let low = at_ok _ _ _ _ c.hex_part-2.ensures.value c.in_ok-low.was in
    let l = at_ok _ _ _ _ c.decimal_part-2.ensures.value c.in_ok-l.was in
    let fault = at_err _ _ _ _ c.decimal_part-3.ensures.value c.in_err-k.was in
    rw p.1 (shape_fault_is c.args.word.now ∙ first_false-true 0 _ _ mark ∙ first_false-true 1 _ _ session.0 ∙ first_false-true 2 _ _ m.0 ∙ first_false-true 3 _ _ low.0 ∙ first_false-true 4 _ _ l.0 ∙ first_false-false 5 _ _ fault.0 ∙ ap Some (fault.1 ∙ sym p.2))

pub returns-in_err-length-clause-value : goal.returns-in_err-length-clause-value
returns-in_err-length-clause-value c =
    let p = err_from_is_err_and c.from_residual-in_err-length.result c.from_residual-in_err-length.ensures.1 in
    let mark = sym c.has_mark.ensures ∙ c.if-not-has_mark.false in
    let session = at_ok _ _ _ _ c.hex_part.ensures.value c.in_ok-session.was in
    let m = at_ok _ _ _ _ c.decimal_part.ensures.value c.in_ok-m.was in
    let low = at_ok _ _ _ _ c.hex_part-2.ensures.value c.in_ok-low.was in
    let l = at_ok _ _ _ _ c.decimal_part-2.ensures.value c.in_ok-l.was in
    let k = at_ok _ _ _ _ c.decimal_part-3.ensures.value c.in_ok-k.was in
    let fault = at_err _ _ _ _ c.decimal_part-4.ensures.value c.in_err-length.was in
    rw p.1 (shape_fault_is c.args.word.now ∙ first_false-true 0 _ _ mark ∙ first_false-true 1 _ _ session.0 ∙ first_false-true 2 _ _ m.0 ∙ first_false-true 3 _ _ low.0 ∙ first_false-true 4 _ _ l.0 ∙ first_false-true 5 _ _ k.0 ∙ first_false-false 6 _ _ fault.0 ∙ ap Some (fault.1 ∙ sym p.2))

pub returns-then-is_some-clause-value : goal.returns-then-is_some-clause-value
returns-then-is_some-clause-value c =
    let mark = sym c.has_mark.ensures ∙ c.if-not-has_mark.false in
    let session = at_ok _ _ _ _ c.hex_part.ensures.value c.in_ok-session.was in
    let m = at_ok _ _ _ _ c.decimal_part.ensures.value c.in_ok-m.was in
    let low = at_ok _ _ _ _ c.hex_part-2.ensures.value c.in_ok-low.was in
    let l = at_ok _ _ _ _ c.decimal_part-2.ensures.value c.in_ok-l.was in
    let k = at_ok _ _ _ _ c.decimal_part-3.ensures.value c.in_ok-k.was in
    let length = at_ok _ _ _ _ c.decimal_part-4.ensures.value c.in_ok-length.was in
    let last = ap is_none (sym c.part.ensures) ∙ is_none-option_map _ _ ∙ ap not (sym c.is_some.ensures ∙ c.if-is_some.true) in
    shape_fault_is c.args.word.now ∙ first_false-true 0 _ _ mark ∙ first_false-true 1 _ _ session.0 ∙ first_false-true 2 _ _ m.0 ∙ first_false-true 3 _ _ low.0 ∙ first_false-true 4 _ _ l.0 ∙ first_false-true 5 _ _ k.0 ∙ first_false-true 6 _ _ length.0 ∙ first_false-false 7 _ _ last

pub returns-clause-value : goal.returns-clause-value
returns-clause-value c =
    let mark = sym c.has_mark.ensures ∙ c.if-not-has_mark.false in
    let session = at_ok _ _ _ _ c.hex_part.ensures.value c.in_ok-session.was in
    let m = at_ok _ _ _ _ c.decimal_part.ensures.value c.in_ok-m.was in
    let low = at_ok _ _ _ _ c.hex_part-2.ensures.value c.in_ok-low.was in
    let l = at_ok _ _ _ _ c.decimal_part-2.ensures.value c.in_ok-l.was in
    let k = at_ok _ _ _ _ c.decimal_part-3.ensures.value c.in_ok-k.was in
    let length = at_ok _ _ _ _ c.decimal_part-4.ensures.value c.in_ok-length.was in
    let last = ap is_none (sym c.part.ensures) ∙ is_none-option_map _ _ ∙ ap not (sym c.is_some.ensures ∙ c.if-is_some.false) in (
      shape_fault_is c.args.word.now ∙ first_false-true 0 _ _ mark ∙ first_false-true 1 _ _ session.0 ∙ first_false-true 2 _ _ m.0 ∙ first_false-true 3 _ _ low.0 ∙ first_false-true 4 _ _ l.0 ∙ first_false-true 5 _ _ k.0 ∙ first_false-true 6 _ _ length.0 ∙ first_false-true 7 _ _ last ∙ first_false-nil 8,
      spelled_is c.args.word.now _ _ _ _ _ _ session.1 m.1 low.1 l.1 k.1 length.1,
    )
