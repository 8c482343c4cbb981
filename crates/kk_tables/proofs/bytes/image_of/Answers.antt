use Rattle.std.proofs.Common.{◌≡◌, ◌*◌, ◌/◌, ◌^◌, ◌+◌, ◌%◌, bit_xor, slice_index, arith, sym, ap, ap₂, ◌∙◌}
use Rattle.std.proofs.Math.Nat.{div-one, div-eq_of_lt, mul-one, zero-mul}
use Rattle.std.specs.Int.Bits.{xor_zero_l, xor_zero_r}
use Rattle.kk_rows.proofs.AdditiveMaps.{additive-zero}
use Rattle.kk_tables.specs.Tables.{looked_up}
use Rattle.kk_tables.proofs.ByteImages.{byte_down, look_up_next}
use Rattle.kk_tables.proofs.LookUps.{looked_up-none, looked_up-more}
use Rattle.kk_tables.proofs.bytes.image_of.Goals as goal

pub loop-i-init : goal.loop-i-init
loop-i-init c = record {
  entries = sym (looked_up-none c.args.table.now c.args.x);
  remaining_is = sym (div-one c.args.x);
  sum_is = λ image additive t. rw (mul-one c.args.x) (sym (xor_zero_l (image c.args.x)));
}

pub loop-i-preserved : goal.loop-i-preserved
loop-i-preserved c =
    let l = c.loop-i in
    record {
      entries = ap₂ bit_xor l.invariant.entries (ap (λ r. slice_index c.args.table.now (256 * l.i + r % 256)) l.invariant.remaining_is)
          ∙ sym (looked_up-more c.args.table.now l.i c.args.x);
      remaining_is = ap (λ n. n / 256) l.invariant.remaining_is ∙ byte_down c.args.x l.i;
      sum_is = λ image additive t.
          look_up_next image c.args.table.now additive t c.args.x l.sum l.remaining l.i (omega (arith, c.loop-i-test.true, c.requires.few))
          (l.invariant.sum_is image additive t);
    }

pub returns-clause-entries : goal.returns-clause-entries
returns-clause-entries c =
    let all : c.loop-i.i ≡ c.args.bytes = omega (arith, c.loop-i.auto.i-end, c.loop-i-test.false) in
    c.loop-i.invariant.entries ∙ ap (λ n. looked_up c.args.table.now n c.args.x) all

pub returns-clause-image : goal.returns-clause-image
returns-clause-image c image additive t =
    let l = c.loop-i in
    let all : l.i ≡ c.args.bytes = omega (arith, l.auto.i-end, c.loop-i-test.false) in
    let none : l.remaining ≡ 0 = l.invariant.remaining_is ∙ ap (λ i. c.args.x / 2 ^ (8 * i)) all ∙ div-eq_of_lt c.requires.x_below in
    sym (l.invariant.sum_is image additive t
    ∙ ap (λ r. bit_xor l.sum (image (r * 2 ^ (8 * l.i)))) none
    ∙ ap (λ x. bit_xor l.sum (image x)) (zero-mul (2 ^ (8 * l.i)))
    ∙ ap (bit_xor l.sum) (additive-zero image additive)
    ∙ xor_zero_r l.sum)
