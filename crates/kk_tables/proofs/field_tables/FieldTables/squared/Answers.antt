use Rattle.std.proofs.Common.{◌≡◌, ◌^◌, ◌<◌, subst}
use Rattle.kk_field.specs.Field.{Modulus, field_product}
use Rattle.kk_field.proofs.Residues.{field_product-below}
use Rattle.kk_tables.specs.Tables.{squared}
use Rattle.kk_tables.proofs.ByteImages.{IsAdditive-squared}
use Rattle.kk_tables.proofs.field_tables.FieldTables.squared.Goals as goal

pub returns-then-self-le8-clause-value : goal.returns-then-self-le8-clause-value
returns-then-self-le8-clause-value c =
    let i = c.self.inside in
    let f : Modulus = record { degree = i.m; low = i.low } in
    let h = c.self.invariant.1.modulus.low_below in
    let value : c.image_of.result ≡ field_product f c.args.a c.args.a = c.image_of.ensures.image (squared f) (IsAdditive-squared f h) c.self.invariant.3 in
    subst (λ f. c.image_of.result ≡ field_product f c.args.a c.args.a) c.self.view_is value

pub returns-then-self-le8-clause-below : goal.returns-then-self-le8-clause-below
returns-then-self-le8-clause-below c =
    let i = c.self.inside in
    let f : Modulus = record { degree = i.m; low = i.low } in
    let h = c.self.invariant.1.modulus.low_below in
    let value : c.image_of.result ≡ field_product f c.args.a c.args.a = c.image_of.ensures.image (squared f) (IsAdditive-squared f h) c.self.invariant.3 in
    subst (λ f. c.image_of.result < 2 ^ f.degree) c.self.view_is (rw value (field_product-below f h c.args.a c.args.a))

pub returns-then-self-le32-clause-value : goal.returns-then-self-le32-clause-value
returns-then-self-le32-clause-value c =
    let i = c.self.inside in
    let f : Modulus = record { degree = i.m; low = i.low } in
    let h = c.self.invariant.1.modulus.low_below in
    let value : c.image_of-then-self-le32.result ≡ field_product f c.args.a c.args.a = c.image_of-then-self-le32.ensures.image (squared f) (IsAdditive-squared f h) c.self.invariant.3 in
    subst (λ f. c.image_of-then-self-le32.result ≡ field_product f c.args.a c.args.a) c.self.view_is value

pub returns-then-self-le32-clause-below : goal.returns-then-self-le32-clause-below
returns-then-self-le32-clause-below c =
    let i = c.self.inside in
    let f : Modulus = record { degree = i.m; low = i.low } in
    let h = c.self.invariant.1.modulus.low_below in
    let value : c.image_of-then-self-le32.result ≡ field_product f c.args.a c.args.a = c.image_of-then-self-le32.ensures.image (squared f) (IsAdditive-squared f h) c.self.invariant.3 in
    subst (λ f. c.image_of-then-self-le32.result < 2 ^ f.degree) c.self.view_is (rw value (field_product-below f h c.args.a c.args.a))

pub returns-else-self-le32-clause-value : goal.returns-else-self-le32-clause-value
returns-else-self-le32-clause-value c =
    let i = c.self.inside in
    let f : Modulus = record { degree = i.m; low = i.low } in
    let h = c.self.invariant.1.modulus.low_below in
    let value : c.image_of-else-self-le32.result ≡ field_product f c.args.a c.args.a = c.image_of-else-self-le32.ensures.image (squared f) (IsAdditive-squared f h) c.self.invariant.3 in
    subst (λ f. c.image_of-else-self-le32.result ≡ field_product f c.args.a c.args.a) c.self.view_is value

pub returns-else-self-le32-clause-below : goal.returns-else-self-le32-clause-below
returns-else-self-le32-clause-below c =
    let i = c.self.inside in
    let f : Modulus = record { degree = i.m; low = i.low } in
    let h = c.self.invariant.1.modulus.low_below in
    let value : c.image_of-else-self-le32.result ≡ field_product f c.args.a c.args.a = c.image_of-else-self-le32.ensures.image (squared f) (IsAdditive-squared f h) c.self.invariant.3 in
    subst (λ f. c.image_of-else-self-le32.result < 2 ^ f.degree) c.self.view_is (rw value (field_product-below f h c.args.a c.args.a))
