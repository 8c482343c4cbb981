use Rattle.std.proofs.Common.{◌≡◌, ℕ, ◌-◌, ◌/◌, ◌%◌, ◌^◌, ◌<◌, ◌≤◌, List, ◌++◌, length, sym, ap, ◌∙◌, arith}
use Rattle.std.proofs.Math.Pow.{pow_mono}
use Rattle.std.proofs.lemmas.Nat.{mod_below, pow_pos}
use Rattle.kk_assemble.specs.Bits.{bits_of}
use Rattle.kk_assemble.proofs.BitRows.{length-bits_of}
use Rattle.kk_assemble.proofs.Queues.{power_whole, taken_below, taken_bits}
use Rattle.kk_assemble.proofs.bit_queue.BitQueue.take.Goals as goal

-- there are as many bits as are taken
enough : (old : List ℕ) (bits len n : ℕ) → bits_of len bits ≡ old → n ≤ length old → n ≤ len
enough old bits len n view few = omega (arith, length-bits_of len bits, ap length view)

pub overflow_sub-self : goal.overflow_sub-self
overflow_sub-self c = enough c.args.self.now c.self.inside.bits c.self.inside.len c.args.n c.self.view_is c.requires.enough

pub overflow_cast-taken-2 : goal.overflow_cast-taken-2
overflow_cast-taken-2 c =
    let bits = c.self.inside.bits in
    let len = c.self.inside.len in
    let n = c.args.n in
    let most : 2 ^ n ≤ 2 ^ 64 = pow_mono c.requires.fits in
    omega (arith, taken_below bits len n c.self.invariant.0 (enough c.args.self.now bits len n c.self.view_is c.requires.enough))

pub invariant_of-self : goal.invariant_of-self
invariant_of-self c =
    let bits = c.self.inside.bits in
    let len = c.self.inside.len in
    let n = c.args.n in
    let left : len - n < 128 = omega (arith, c.self.invariant.1) in
    (rw (power_whole (len - n) left) (mod_below bits (2 ^ (len - n)) (pow_pos (len - n))), left)

pub returns-clause-below : goal.returns-clause-below
returns-clause-below c =
    taken_below c.self.inside.bits c.self.inside.len c.args.n c.self.invariant.0 (enough c.args.self.now c.self.inside.bits c.self.inside.len c.args.n c.self.view_is c.requires.enough)

pub returns-clause-bits : goal.returns-clause-bits
returns-clause-bits c =
    let bits = c.self.inside.bits in
    let len = c.self.inside.len in
    let n = c.args.n in
    let left : len - n < 128 = omega (arith, c.self.invariant.1) in
    sym c.self.view_is
    ∙ taken_bits bits len n (enough c.args.self.now bits len n c.self.view_is c.requires.enough)
    ∙ ap (λ (x : ℕ). bits_of n (bits / 2 ^ (len - n)) ++ bits_of (len - n) (bits % x)) (sym (power_whole (len - n) left))
