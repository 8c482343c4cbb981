use Rattle.std.proofs.Common.{◌≡◌, ◌-◌, ◌*◌, ◌/◌, ◌^◌, ◌<◌, ◌≤◌, [], length, get_or, bit_xor, slice_index, refl, sym, ap, ap₂, ◌∙◌, subst, inl, inr, arith}
use Rattle.std.proofs.Math.Nat.{mul_comm}
use Rattle.std.proofs.Math.Pow.{pow_mono}
use Rattle.std.proofs.lemmas.Bool.{cases_lt}
use Rattle.std.proofs.lemmas.List.{get_or_default, get_or-set_same, get_or-set_other, length-set}
use Rattle.kk_field.specs.Field.{power}
use Rattle.kk_tables.specs.Tables.{IsTableOf}
use Rattle.kk_field.proofs.Residues.{field_product-below}
use Rattle.kk_linpoly.proofs.XorSums.{xor_sum-none}
use Rattle.kk_code.specs.Codeword.{IsInRange}
use Rattle.kk_code.specs.Encoder.{IsEncoder, base, per_word, multiples, next_term}
use Rattle.kk_code.proofs.PackedMultiples.{IsAdditive-multiples, top-multiples}
use Rattle.kk_linpoly.proofs.XorSums.{xor_sum-more}
use Rattle.kk_code.proofs.TermSums.{some_per_word}
use Rattle.kk_code.proofs.encoder.Encoder.advance_by.Goals as goal

pub loop-j-init : goal.loop-j-init
loop-j-init c = record {
  long = c.requires.below.long;
  word_is = sym (xor_sum-none _ 0 (λ i less. absurd (omega (arith, less))));
  done = λ i less. absurd (omega (arith, less));
  later = λ i more. refl;
}

pub image_of-products-requires-clause-x_below : goal.image_of-products-requires-clause-x_below
image_of-products-requires-clause-x_below c =
    let p = c.args.self.now in
    let j = c.loop-j.j in
    let within : j < p.k = omega (arith, c.loop-j-test.true, c.k-j-end.ensures.symbols, ap (λ q. q.k) c.self.view_is) in
    let now : slice_index c.loop-j.terms j ≡ slice_index c.args.terms.now j = c.loop-j.invariant.later j (omega arith) in
    let powers : 2 ^ p.field.degree ≤ 2 ^ (8 * c.args.bytes) = pow_mono c.requires.enough in
    omega (arith, now, c.requires.below.below j within, powers)

pub loop-j-preserved : goal.loop-j-preserved
loop-j-preserved c =
    let p = c.args.self.now in
    let f = p.field in
    let j = c.loop-j.j in
    let terms = c.loop-j.terms in
    let inv = c.loop-j.invariant in
    let i = c.self.inside in
    let encoder : IsEncoder p i.per_word i.tables.items = subst (λ q. IsEncoder q i.per_word i.tables.items) c.self.view_is c.self.invariant in
    let range : IsInRange p = subst IsInRange c.self.view_is c.m-m.ensures.in_range in
    let m_is : c.m-m.result ≡ f.degree = c.m-m.ensures.degree ∙ ap (λ q. q.field.degree) c.self.view_is in
    let within : j < p.k = omega (arith, c.loop-j-test.true, c.k-j-end.ensures.symbols, ap (λ q. q.k) c.self.view_is) in
    let x = slice_index c.args.terms.now j in
    let now : slice_index terms j ≡ x = inv.later j (omega arith) in
    let b = base p j in
    let w = per_word p in
    let products = c.image_of-products.result in
    let table = c.index-table.result.now in
    let table_is : table ≡ get_or i.tables.items j [] =
    c.index-table.ensures ∙ get_or_default i.tables.items j table [] (omega (arith, within, encoder.made.count)) in
    let maps : IsTableOf (multiples f b w) table = subst (IsTableOf (multiples f b w)) (sym table_is)
    (subst (λ n. IsTableOf (multiples f b n) (get_or i.tables.items j [])) encoder.count (encoder.made.maps j within)) in
    let products_are : products ≡ multiples f b w x =
    c.image_of-products.ensures.image (multiples f b w) (IsAdditive-multiples f range.low b w) maps ∙ ap (multiples f b w) now in
    let some : 1 ≤ w = some_per_word f.degree (omega (arith, range.m_low)) range.m_high in
    let last : (i.per_word - 1) * c.m-m.result ≡ f.degree * (w - 1) =
    ap₂ (λ a b. (a - 1) * b) encoder.count m_is ∙ mul_comm (w - 1) f.degree in
    let y = products / 2 ^ ((i.per_word - 1) * c.m-m.result) in
    let y_is : y ≡ next_term p x j = ap₂ (λ a k. a / 2 ^ k) products_are last ∙ top-multiples f range.low b w x some in
    let room : j < length terms = omega (arith, inv.long, within, range.k_high, range.l_high, range.m_high) in
    record {
      long = length-set terms j y ∙ inv.long;
      word_is = ap₂ bit_xor inv.word_is products_are ∙ xor_sum-more _ j;
      done = λ k less. elim (cases_lt k j) [
        | inl before ↦ get_or-set_other terms j k y 0 (λ e. omega (arith, e, before)) ∙ inv.done k before
        | inr here ↦ let e : k ≡ j = omega (arith, less, here) in rw e (get_or-set_same terms j y 0 room ∙ y_is)
      ];
      later = λ k more. get_or-set_other terms j k y 0 (λ e. omega (arith, e, more)) ∙ inv.later k (omega (arith, more));
    }

pub returns-clause-below : goal.returns-clause-below
returns-clause-below c =
    let p = c.args.self.now in
    let f = p.field in
    let inv = c.loop-j.invariant in
    let range : IsInRange p = subst IsInRange c.self.view_is c.m-m.ensures.in_range in
    let all : p.k ≤ c.loop-j.j = omega (arith, c.loop-j-test.false, c.k-j-end.ensures.symbols, ap (λ q. q.k) c.self.view_is) in
    record {
      long = inv.long;
      below = λ j less.
          subst (λ x. x < 2 ^ f.degree) (sym (inv.done j (omega (arith, less, all))))
          (field_product-below f range.low (slice_index c.args.terms.now j) (power f (base p j) (per_word p)));
    }
