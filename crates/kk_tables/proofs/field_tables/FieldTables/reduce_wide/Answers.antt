use Rattle.std.proofs.Common.{◌≡◌, ◌+◌, ◌*◌, ◌/◌, ◌%◌, ◌^◌, ◌<◌, bit_xor, arith, sym, subst}
use Rattle.std.proofs.lemmas.Nat.{one_shl}
use Rattle.kk_field.specs.Field.{Modulus, residue}
use Rattle.kk_tables.specs.Tables.{reduction}
use Rattle.kk_tables.proofs.ByteImages.{IsAdditive-reduction, high_below, two_parts}
use Rattle.kk_tables.proofs.field_tables.FieldTables.reduce_wide.Goals as goal

pub overflow_cast-p : goal.overflow_cast-p
overflow_cast-p c = record {
  fits = high_below c.self.inside.m 64 c.args.p (subst (λ f. c.args.p < 2 ^ (f.degree + 64)) (sym c.self.view_is) c.requires);
}

pub image_of-requires-clause-x_below : goal.image_of-requires-clause-x_below
image_of-requires-clause-x_below c =
    high_below c.self.inside.m 64 c.args.p (subst (λ f. c.args.p < 2 ^ (f.degree + 64)) (sym c.self.view_is) c.requires)

pub returns-clause-value : goal.returns-clause-value
returns-clause-value c =
    let i = c.self.inside in
    let f : Modulus = record { degree = i.m; low = i.low } in
    let h = c.self.invariant.1.modulus.low_below in
    let r : c.image_of.result ≡ reduction f (c.args.p / 2 ^ i.m) = c.image_of.ensures.image (reduction f) (IsAdditive-reduction f h) c.self.invariant.2 in
    let within : i.m < 128 = omega (arith, c.self.invariant.0) in
    subst (λ f. bit_xor (c.args.p % (1 * 2 ^ i.m % 340282366920938463463374607431768211456)) c.image_of.result ≡ residue f c.args.p) c.self.view_is
    (rw (one_shl i.m 128 within) (two_parts f h c.args.p c.image_of.result r).0)

pub returns-clause-below : goal.returns-clause-below
returns-clause-below c =
    let i = c.self.inside in
    let f : Modulus = record { degree = i.m; low = i.low } in
    let h = c.self.invariant.1.modulus.low_below in
    let r : c.image_of.result ≡ reduction f (c.args.p / 2 ^ i.m) = c.image_of.ensures.image (reduction f) (IsAdditive-reduction f h) c.self.invariant.2 in
    let within : i.m < 128 = omega (arith, c.self.invariant.0) in
    subst (λ f. bit_xor (c.args.p % (1 * 2 ^ i.m % 340282366920938463463374607431768211456)) c.image_of.result < 2 ^ f.degree) c.self.view_is
    (rw (one_shl i.m 128 within) (two_parts f h c.args.p c.image_of.result r).1)
