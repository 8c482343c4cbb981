use Rattle.std.proofs.Common.{◌≡◌, ◌^◌, ◌<◌, refl, sym, ap, ◌∙◌, inl, inr, arith}
use Rattle.std.proofs.Math.Pow.{pow_pos}
use Rattle.std.proofs.lemmas.Bool.{cases_lt}
use Rattle.std.proofs.lemmas.List.{get_or-set_same, get_or-set_other, length-set}
use Rattle.std.proofs.lemmas.List.Elements.{All-set, All-replicate}
use Rattle.kk_field.specs.Field.{field_product}
use Rattle.kk_code.proofs.PackedMultiples.{frobenius_start, frobenius_more}
use Rattle.kk_decode.proofs.powers.powers_of.Goals as goal

pub loop-j-init : goal.loop-j-init
loop-j-init g c = record {
  long = refl;
  power_is = sym (frobenius_start c.args.field.now c.args.x);
  power_below = c.requires.x_below;
  done = λ i less. absurd (omega (arith, less));
  over = All-replicate (λ a. a < 2 ^ c.args.field.now.degree) 64 0 (pow_pos c.args.field.now.degree);
  counted = omega arith;
}

pub loop-j-preserved : goal.loop-j-preserved
loop-j-preserved g c =
    let powers = c.loop-j.powers in
    let j = c.loop-j.j in
    let power = c.loop-j.power in
    let inv = c.loop-j.invariant in
    let f = c.args.field.now in
    record {
      long = length-set powers j power ∙ inv.long;
      power_is = c.square-power.ensures.value ∙ ap (λ b. field_product f b b) inv.power_is ∙ sym (frobenius_more f j c.args.x);
      power_below = c.square-power.ensures.below;
      done = λ i less. elim (cases_lt i j) [
        | inl before ↦ get_or-set_other powers j i power 0 (λ e. omega (arith, e, before)) ∙ inv.done i before
        | inr here ↦
            let e : i ≡ j = omega (arith, less, here) in
            rw e (get_or-set_same powers j power 0 (omega (arith, inv.long, c.loop-j-test.true, c.requires.columns)) ∙ inv.power_is)
      ];
      over = All-set (λ a. a < 2 ^ f.degree) powers j power inv.power_below inv.over;
      counted = omega (arith, inv.counted, c.square-power.ensures.cost);
    }
