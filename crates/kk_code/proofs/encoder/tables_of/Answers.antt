use Rattle.std.proofs.Common.{◌≡◌, ℕ, List, ◌+◌, ◌/◌, ◌<◌, [], length, get_or, sym, ap, ◌∙◌, subst, inl, inr, arith}
use Rattle.std.proofs.lemmas.Bool.{cases_lt}
use Rattle.std.proofs.lemmas.List.{get_or-set_same, get_or-set_other, get_or_append_left, length-set, length_push}
use Rattle.kk_field.specs.Field.{field_product, frobenius}
use Rattle.kk_tables.specs.Tables.{IsTableOf}
use Rattle.kk_code.specs.Encoder.{multiples}
use Rattle.kk_code.proofs.PackedMultiples.{two_fits, frobenius_start, frobenius_more}
use Rattle.kk_code.proofs.encoder.tables_of.Goals as goal

pub loop-j-init : goal.loop-j-init
loop-j-init g c =
    let range = c.k-k.ensures.in_range in
    record {
      count = ap length c.in_ok-tables.ensures.items;
      room = c.in_ok-tables.ensures.capacity;
      base_is = sym (frobenius_start c.new-field.result 2);
      below = rw (c.new-field.ensures, c.field.ensures.field) (two_fits c.args.code.now.field.degree range.m_low);
      done = λ i less. absurd (omega (arith, less));
    }

pub loop-j-preserved : goal.loop-j-preserved
loop-j-preserved g c =
    let f = c.new-field.result in
    let j = c.loop-j.j in
    let before = c.loop-j.tables.items in
    let tables = c.push_reserved.new.self.items in
    let table = c.make_table.new.table in
    let inv = c.loop-j.invariant in
    let pushed = c.push_reserved.ensures.items in
    let long : length tables ≡ j + 1 = ap length pushed ∙ length_push before _ ∙ ap (λ n. n + 1) inv.count in
    let room : j < length tables = omega (arith, long) in
    let m_is : c.m.result ≡ f.degree = c.m.ensures.degree ∙ sym (ap (λ q. q.degree) (c.new-field.ensures ∙ c.field.ensures.field)) in
    let made : IsTableOf (multiples f (frobenius f j 2) (64 / f.degree)) table =
    subst (λ n. IsTableOf (multiples f (frobenius f j 2) (64 / n)) table) m_is
    (subst (λ b. IsTableOf (multiples f b (64 / c.m.result)) table) inv.base_is c.make_table.ensures) in
    let kept : (i : ℕ) → i < j → get_or tables i [] ≡ get_or before i [] = λ i less.
    ap (λ (all : List (List ℕ)). get_or all i []) pushed ∙ get_or_append_left before _ [] i (omega (arith, less, inv.count)) in
    record {
      count = length-set tables j table ∙ long;
      room = omega (arith, inv.room, c.push_reserved.ensures.capacity);
      base_is = c.square-base.ensures.value ∙ ap (λ b. field_product f b b) inv.base_is ∙ sym (frobenius_more f j 2);
      below = c.square-base.ensures.below;
      done = λ i less. elim (cases_lt i j) [
        | inl front ↦ subst (IsTableOf (multiples f (frobenius f i 2) (64 / f.degree)))
            (sym (get_or-set_other tables j i table [] (λ e. omega (arith, e, front)) ∙ kept i front)) (inv.done i front)
        | inr here ↦ let e : i ≡ j = omega (arith, less, here) in
            rw (e, get_or-set_same tables j table [] room) made
      ];
    }

pub returns : goal.returns
returns g c =
    let p = c.args.code.now in
    let f = c.new-field.result in
    let field : f ≡ p.field = c.new-field.ensures ∙ c.field.ensures.field in
    let inv = c.loop-j.invariant in
    let at_end : c.loop-j.j ≡ p.k = omega (arith, c.loop-j.auto.j-end, c.loop-j-test.false, c.k-k.ensures.symbols) in
    record {
      count = inv.count ∙ at_end;
      maps = λ j less. subst (λ q. IsTableOf (multiples q (frobenius q j 2) (64 / q.degree)) (get_or c.loop-j.tables.items j [])) field
          (inv.done j (omega (arith, less, at_end)));
    }
