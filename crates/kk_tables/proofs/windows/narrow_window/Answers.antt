use Rattle.std.proofs.Common.{◌≡◌, ◌*◌, ◌/◌, ◌%◌, ◌<◌, bit_xor, slice_index, arith, refl, sym, ap, ◌∙◌, inl, inr}
use Rattle.std.proofs.lemmas.Bool.{cases_lt}
use Rattle.std.proofs.lemmas.List.{get_or-set_same, get_or-set_other, length-set}
use Rattle.std.proofs.Math.Nat.{zero-mul, one-mul, mod-lt}
use Rattle.kk_field.specs.Polynomial.{product}
use Rattle.kk_field.proofs.Products.{product-zero}
use Rattle.kk_tables.proofs.WindowProducts.{narrow_entry}
use Rattle.kk_tables.proofs.windows.narrow_window.Goals as goal
use Rattle.kk_tables.proofs.windows.narrow_window.Goals.{then-j-eq1, else-j-eq1}

pub loop-j-init : goal.loop-j-init
loop-j-init c = record {
  long = refl;
  entries = λ k h. let first : k ≡ 0 = omega (arith, h) in rw first (sym (product-zero c.args.a));
}

pub loop-j-preserved : goal.loop-j-preserved
loop-j-preserved c =
    let a = c.args.a in
    let j = c.loop-j.j in
    let table = c.loop-j.table in
    let half : j / 2 < j = omega (arith, c.loop-j.auto.j) in
    let few : j < 16 = omega (arith, c.loop-j-test.true) in
    let odd : c.if-j-eq1.odd ≡ j % 2 * a =
    elim c.if-j-eq1.branch [
      | then-j-eq1 w ↦ w.odd-is ∙ sym (ap (λ d. d * a) w.if-j-eq1.true ∙ one-mul a)
      | else-j-eq1 w ↦ let none : j % 2 ≡ 0 = omega (arith, w.if-j-eq1.false, mod-lt j {m = 2} (omega arith)) in w.odd-is ∙ sym (ap (λ d. d * a) none ∙ zero-mul a)
    ] in
    let x = bit_xor (slice_index table (j / 2) * 2 % 18446744073709551616) c.if-j-eq1.odd in
    let entry : x ≡ product a j = narrow_entry a j (slice_index table (j / 2)) c.if-j-eq1.odd c.requires few (c.loop-j.invariant.entries (j / 2) half) odd in
    record {
      long = length-set table j x ∙ c.loop-j.invariant.long;
      entries = λ k h. elim (cases_lt k j) [
        | inl before ↦ get_or-set_other table j k x 0 (λ e. omega (arith, e, before)) ∙ c.loop-j.invariant.entries k before
        | inr here ↦ let e : k ≡ j = omega (arith, h, here) in
            rw e (get_or-set_same table j x 0 (omega (arith, few, c.loop-j.invariant.long)) ∙ entry)
      ];
    }
