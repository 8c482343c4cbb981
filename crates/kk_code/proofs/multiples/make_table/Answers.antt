use Rattle.kk_code.specs.Encoder.{multiples}
use Rattle.kk_code.proofs.PackedMultiples.{IsAdditive-multiples}
use Rattle.kk_code.proofs.multiples.make_table.Goals as goal

pub returns : goal.returns
returns g c =
    let f = c.args.field.now in
    c.make_table_of.ensures.value (multiples f c.args.base c.args.n)
    (IsAdditive-multiples f c.requires.modulus.low_below c.args.base c.args.n) c.units.ensures
