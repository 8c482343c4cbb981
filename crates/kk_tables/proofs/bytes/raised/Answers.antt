use Rattle.std.proofs.Common.{◌≡◌, ◌+◌, ◌*◌, ◌^◌, ap, sym, ◌∙◌}
use Rattle.std.proofs.Math.Nat.{mul-one, mul_assoc, pow-suc}
use Rattle.std.proofs.Math.Numerals.{add-one}
use Rattle.kk_field.specs.Field.{residue}
use Rattle.kk_field.proofs.Residues.{residue-small}
use Rattle.kk_tables.proofs.ByteImages.{residue_shift}
use Rattle.kk_tables.proofs.bytes.raised.Goals as goal

pub loop-init : goal.loop-init
loop-init c =
    let f = c.args.ring.now in
    let h = c.requires.modulus.low_below in
    record { power_is = rw (mul-one c.args.a) (sym (residue-small f h c.args.a c.requires.a_below)); power_below = c.requires.a_below }

pub loop-preserved : goal.loop-preserved
loop-preserved c =
    let f = c.args.ring.now in
    let h = c.requires.modulus.low_below in
    let i = c.loop.counter in
    let up : c.args.a * 2 ^ i * 2 ≡ c.args.a * 2 ^ (i + 1) = rw (add-one i, pow-suc 2 i) (mul_assoc c.args.a (2 ^ i) 2) in
    record {
      power_is = c.doubled-power.ensures.value ∙ ap (λ x. residue f (x * 2)) c.loop.invariant.power_is
          ∙ residue_shift f h (c.args.a * 2 ^ i) 1 ∙ ap (residue f) up;
      power_below = c.doubled-power.ensures.below;
    }
