use Rattle.std.proofs.Common.{◌≡◌, ℕ, ◌+◌, ◌*◌, ◌%◌, ◌^◌, ◌<◌, ◌≤◌, List, ◌++◌, length, sym, ap, ◌∙◌, arith}
use Rattle.std.proofs.Math.Pow.{pow_mono}
use Rattle.kk_assemble.specs.Bits.{bits_of}
use Rattle.kk_assemble.proofs.BitRows.{length-bits_of, bits_of-append}
use Rattle.kk_assemble.proofs.Queues.{pushed_below, pushed_whole}
use Rattle.kk_assemble.proofs.bit_queue.BitQueue.push.Goals as goal

-- how many bits there were
room : (old : List ℕ) (bits len n : ℕ) → bits_of len bits ≡ old → length old + n < 128 → len + n < 128
room old bits len n view few = omega (arith, length-bits_of len bits, ap length view)

-- the number that is kept
kept : (bits len number added n : ℕ) → bits < 2 ^ len → number < 2 ^ n → len + n < 128 → added ≡ number → bits * 2 ^ n % 2 ^ 128 + added ≡ bits * 2 ^ n + number
kept bits len number added n before below few same = omega (arith, pushed_whole bits len number n before below few)

pub overflow_add-self : goal.overflow_add-self
overflow_add-self c =
    let bits = c.self.inside.bits in
    let len = c.self.inside.len in
    let n = c.args.n in
    let few = room c.args.self.now bits len n c.self.view_is c.requires.room in
    let most : 2 ^ (len + n) ≤ 2 ^ 128 = pow_mono {i = len + n} {j = 128} (omega (arith, few)) in
    omega (arith, kept bits len c.args.number c.from.result n c.self.invariant.0 c.requires.below few c.from.ensures, pushed_below bits len c.args.number n c.self.invariant.0 c.requires.below)

pub invariant_of-self : goal.invariant_of-self
invariant_of-self c =
    let bits = c.self.inside.bits in
    let len = c.self.inside.len in
    let n = c.args.n in
    let few = room c.args.self.now bits len n c.self.view_is c.requires.room in
    (omega (arith, kept bits len c.args.number c.from.result n c.self.invariant.0 c.requires.below few c.from.ensures, pushed_below bits len c.args.number n c.self.invariant.0 c.requires.below), few)

pub returns : goal.returns
returns c =
    let bits = c.self.inside.bits in
    let len = c.self.inside.len in
    let n = c.args.n in
    let few = room c.args.self.now bits len n c.self.view_is c.requires.room in
    ap (bits_of (len + n)) (kept bits len c.args.number c.from.result n c.self.invariant.0 c.requires.below few c.from.ensures)
    ∙ sym (bits_of-append len n bits c.args.number c.requires.below)
    ∙ ap (λ (row : List ℕ). row ++ bits_of n c.args.number) c.self.view_is
