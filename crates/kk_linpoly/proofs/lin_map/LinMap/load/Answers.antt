use Rattle.std.proofs.Common.{◌^◌, ◌≤◌, ap, ◌∙◌, arith}
use Rattle.std.proofs.Math.Nat.{mod-eq_of_lt}
use Rattle.std.proofs.Math.Pow.{pow_mono}
use Rattle.kk_tables.proofs.LookUps.{looked_up-image}
use Rattle.kk_linpoly.specs.LinPoly.{value}
use Rattle.kk_linpoly.proofs.LinMaps.{value_below, IsAdditive-value_below}
use Rattle.kk_linpoly.proofs.lin_map.LinMap.load.Goals as goal

pub returns-clause-value : goal.returns-clause-value
returns-clause-value g c x below =
    let f = c.args.field.now in
    let cs = c.args.f.now in
    let units = c.values_at_units.ensures in
    let additive = IsAdditive-value_below f units.modulus.low_below cs in
    let words : 2 ^ f.degree ≤ 2 ^ 64 = pow_mono units.fits in
    looked_up-image (value_below f cs) c.make_table_of.new.table additive
    (c.make_table_of.ensures.value (value_below f cs) additive units.value) x (omega (arith, below, words))
    ∙ ap (value f cs) (mod-eq_of_lt below)
