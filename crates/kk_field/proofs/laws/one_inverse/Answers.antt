use Rattle.std.proofs.Common.{sym, ◌∙◌}
use Rattle.kk_field.proofs.Fields.{inverse_of, field_product_cancel}
use Rattle.kk_field.proofs.laws.one_inverse.Goals as goal

pub returns : goal.returns
returns c = λ f h a a_below positive.
    let low = h.modulus.low_below in
    let b = inverse_of f low h.irreducible a a_below positive in (
      b.0,
      record { residue = b.1; product_is_one = b.2 },
      λ other is. field_product_cancel f low h.irreducible a other b.0 a_below positive is.residue b.1 (is.product_is_one ∙ sym b.2),
    )
