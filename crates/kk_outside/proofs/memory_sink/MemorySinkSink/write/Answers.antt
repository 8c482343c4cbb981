use Rattle.std.proofs.Common.{rules, ◌≡◌, ◌≤◌, ◌++◌, arith, Ok, length, take, length-append, length-take, ap, sym, ◌∙◌}
use Rattle.std.specs.Prelude.{vec_capacity}
use Rattle.kk_outside.specs.Sink.{bytes_written, write_of}
use Rattle.kk_outside.specs.declared.failed.Failed.{Failed}
use Rattle.kk_outside.proofs.Known.{bytes_written-append, bytes_written-write, bytes_written-failed}
use Rattle.kk_outside.proofs.memory_sink.MemorySinkSink.write.Goals as goal

pub invariant_of-self : goal.invariant_of-self
invariant_of-self c =
    let h = c.self.invariant in
    (h.0 ∙ sym (bytes_written-failed c.self.inside.log) ∙ sym (ap bytes_written c.add.ensures), h.1, h.2, h.3)

pub invariant_of-self-then-not-is_empty : goal.invariant_of-self-then-not-is_empty
invariant_of-self-then-not-is_empty c =
    let h = c.self.invariant in
    (h.0 ∙ sym (bytes_written-failed c.self.inside.log) ∙ sym (ap bytes_written c.add-then-not-is_empty.ensures), h.1, h.2, h.3)

pub invariant_of-self-2 : goal.invariant_of-self-2
invariant_of-self-2 c =
    let s = c.self.inside in
    let n = c.min-n.result in
    let bytes : c.extend_from_slice.new.self.items ≡ s.bytes.items ++ take n c.args.piece.now = search rules in
    let same : c.extend_from_slice.new.self.items ≡ bytes_written c.add-2.new.self =
    bytes ∙ ap (λ l. l ++ take n c.args.piece.now) c.self.invariant.0
    ∙ ap (λ l. bytes_written s.log ++ l) (sym (bytes_written-write Failed n c.args.piece.now))
    ∙ sym (bytes_written-append s.log (write_of {E = Failed} (Ok n) c.args.piece.now))
    ∙ sym (ap bytes_written c.add-2.ensures) in
    let count = ap length bytes in
    let within : length c.extend_from_slice.new.self.items ≤ s.room =
    grind (arith, count, length-append s.bytes.items (take n c.args.piece.now), length-take n c.args.piece.now, c.min-n.ensures, c.len.ensures, c.self.invariant.1) in
    let room : s.room ≤ vec_capacity c.extend_from_slice.new.self = search rules in
    (same, within, room, c.self.invariant.3)
