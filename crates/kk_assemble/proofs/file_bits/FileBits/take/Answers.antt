use Rattle.std.proofs.Common.{◌≡◌, ℕ, ◌+◌, ◌-◌, ◌*◌, ◌≤◌, List, length, sym, ap, ◌∙◌, arith}
use Rattle.kk_assemble.specs.Bits.{FilePlace}
use Rattle.kk_assemble.specs.FileBits.{file_bit, number_from}
use Rattle.kk_assemble.proofs.Places.{file_bit_below, file_read_ahead, pushed_row, taken_row}
use Rattle.kk_assemble.proofs.file_bits.FileBits.take.Goals as goal

pub loop-self-preserved : goal.loop-self-preserved
loop-self-preserved c =
    let file = c.args.self.now.file in
    let at = c.args.self.now.at in
    let inside = c.loop-self.self-inside in
    let word : c.word_at.result ≡ number_from (file_bit file) (at + length inside.queue) 64 =
    c.word_at.ensures
    ∙ ap (λ (f : List ℕ). number_from (file_bit f) (8 * inside.next) 64) c.loop-self.invariant.file
    ∙ ap (λ (t : ℕ). number_from (file_bit file) t 64) (sym c.loop-self.invariant.place) in
    let row = pushed_row (file_bit file) at 64 c.word_at.result inside.queue c.push.new.self (file_bit_below file) c.loop-self.invariant.queued word c.push.ensures in
    record { file = c.loop-self.invariant.file; place = omega (arith, row.0, c.loop-self.invariant.place); queued = row.1 }

pub invariant_of-self : goal.invariant_of-self
invariant_of-self c =
    let file = c.args.self.now.file in
    let at = c.args.self.now.at in
    let n = c.args.n in
    let inside = c.loop-self.self-inside in
    let enough : n ≤ length inside.queue = omega (arith, c.loop-self-test.false, c.len.ensures.count) in
    let row = taken_row (file_bit file) at n c.take.result inside.queue c.take.new.self (file_bit_below file) c.loop-self.invariant.queued c.take.ensures.below enough c.take.ensures.bits in
    rw c.loop-self.invariant.file (file_read_ahead file (at + n) inside.next c.take.new.self row.2 (omega (arith, row.1, c.loop-self.invariant.place)))

pub returns-clause-number : goal.returns-clause-number
returns-clause-number c =
    let file = c.args.self.now.file in
    let n = c.args.n in
    let inside = c.loop-self.self-inside in
    let enough : n ≤ length inside.queue = omega (arith, c.loop-self-test.false, c.len.ensures.count) in
    let row = taken_row (file_bit file) c.args.self.now.at n c.take.result inside.queue c.take.new.self (file_bit_below file) c.loop-self.invariant.queued c.take.ensures.below enough c.take.ensures.bits in
    row.0

pub returns-clause-place : goal.returns-clause-place
returns-clause-place c =
    let file = c.args.self.now.file in
    let at = c.args.self.now.at in
    let n = c.args.n in
    let inside = c.loop-self.self-inside in
    let enough : n ≤ length inside.queue = omega (arith, c.loop-self-test.false, c.len.ensures.count) in
    let row = taken_row (file_bit file) at n c.take.result inside.queue c.take.new.self (file_bit_below file) c.loop-self.invariant.queued c.take.ensures.below enough c.take.ensures.bits in
    let place : 8 * inside.next - length c.take.new.self ≡ at + n = omega (arith, row.1, c.loop-self.invariant.place) in
    let make : List ℕ → ℕ → FilePlace = λ f t. record { file = f; at = t } in
    ap (λ (f : List ℕ). make f (8 * inside.next - length c.take.new.self)) c.loop-self.invariant.file ∙ ap (make file) place
