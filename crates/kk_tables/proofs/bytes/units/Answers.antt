use Rattle.std.proofs.Common.{◌≡◌, ℕ, ◌*◌, ◌^◌, ◌<◌, length, sym, ap, ◌∙◌, inl, inr, arith}
use Rattle.std.proofs.lemmas.Nat.{pow-add}
use Rattle.std.proofs.lemmas.Bool.{cases_lt}
use Rattle.std.proofs.lemmas.List.{get_or-set_same, get_or-set_other, length-set, length-replicate}
use Rattle.kk_field.specs.Field.{residue}
use Rattle.kk_tables.proofs.bytes.units.Goals as goal

pub loop-j-init : goal.loop-j-init
loop-j-init c = record {
  long = length-replicate {A = ℕ} 64 0;
  below = c.requires.one_below;
  next = λ image doubles first. sym first;
  done = λ image doubles first i less. absurd (omega (arith, less));
}

pub loop-j-preserved : goal.loop-j-preserved
loop-j-preserved c =
    let f = c.args.ring.now in
    let j = c.loop-j.j in
    let units = c.loop-j.units in
    let unit = c.loop-j.unit in
    let inv = c.loop-j.invariant in
    let room : j < length units = omega (arith, inv.long, c.loop-j-test.true) in
    record {
      long = length-set units j unit ∙ inv.long;
      below = c.raised-unit.ensures.below;
      next = λ image doubles first.
          c.raised-unit.ensures.value
          ∙ ap (λ x. residue f (x * 2 ^ c.args.times)) (inv.next image doubles first)
          ∙ sym (doubles (2 ^ j))
          ∙ ap image (sym (pow-add 2 j 1));
      done = λ image doubles first i less. elim (cases_lt i j) [
        | inl before ↦ get_or-set_other units j i unit 0 (λ e. omega (arith, e, before)) ∙ inv.done image doubles first i before
        | inr here ↦ let e : i ≡ j = omega (arith, less, here) in
            rw e (get_or-set_same units j unit 0 room ∙ inv.next image doubles first)
      ];
    }

pub returns : goal.returns
returns c = λ image doubles first.
    let all : c.loop-j.j ≡ 64 = omega (arith, c.loop-j.auto.j-end, c.loop-j-test.false) in
    record { at = λ i less. c.loop-j.invariant.done image doubles first i (omega (arith, less, all)) }
