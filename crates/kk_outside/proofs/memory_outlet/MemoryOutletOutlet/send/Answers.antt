use Rattle.std.proofs.Common.{rules, ◌≡◌, [], ◌∷◌, ◌++◌, arith, length, length-append, ap, sym, ◌∙◌}
use Rattle.std.specs.Prelude.{sum_by}
use Rattle.kk_outside.specs.Outlet.{datagrams_sent, Sent}
use Rattle.kk_outside.specs.Packed.{pieces}
use Rattle.kk_outside.proofs.Pieces.{sent_after, ends_after, AreEnds-count, sum_by-pieces}
use Rattle.kk_outside.proofs.Taken.{datagrams_sent-append, datagrams_sent-failed}
use Rattle.kk_outside.proofs.memory_outlet.MemoryOutletOutlet.send.Goals as goal

pub invariant_of-self : goal.invariant_of-self
invariant_of-self c =
    let h = c.self.invariant in
    (h.0, h.1 ∙ sym (datagrams_sent-failed c.self.inside.log) ∙ sym (ap datagrams_sent c.add.ensures), h.2, h.3, h.4)

pub invariant_of-self-then-datagram-self : goal.invariant_of-self-then-datagram-self
invariant_of-self-then-datagram-self c =
    let h = c.self.invariant in
    (h.0, h.1 ∙ sym (datagrams_sent-failed c.self.inside.log) ∙ sym (ap datagrams_sent c.add-then-datagram-self.ensures), h.2, h.3, h.4)

pub returns-then-datagram-self-clause-fails : goal.returns-then-datagram-self-clause-fails
returns-then-datagram-self-clause-fails c =
    let s = c.self.inside in
    let same = ap (λ ds. sum_by length ds) (c.self.invariant.1 ∙ ap (λ v. datagrams_sent v.sends) c.self.view_is) in
    grind (arith, same, c.self.view_is, sum_by-pieces 0 s.ends.items s.bytes.items c.self.invariant.0)

pub unwrap-requires-2 : goal.unwrap-requires-2
unwrap-requires-2 c =
    let s = c.self.inside in
    grind (arith, AreEnds-count 0 s.ends.items (length s.bytes.items) c.self.invariant.0)

pub invariant_of-self-2 : goal.invariant_of-self-2
invariant_of-self-2 c =
    let s = c.self.inside in
    let bytes : c.extend_from_slice.new.self.items ≡ s.bytes.items ++ c.args.datagram.now = search rules in
    let ends : c.push.new.self.items ≡ s.ends.items ++ c.len-2.result ∷ [] = search rules in
    let end : c.len-2.result ≡ length c.extend_from_slice.new.self.items = grind (arith, c.len-2.ensures) in
    let are = ends_after s.ends.items c.push.new.self.items s.bytes.items c.extend_from_slice.new.self.items c.args.datagram.now c.len-2.result c.self.invariant.0 ends bytes end c.requires in
    let sent = sent_after s.ends.items c.push.new.self.items s.bytes.items c.extend_from_slice.new.self.items c.args.datagram.now c.len-2.result c.self.invariant.0 ends bytes end (datagrams_sent s.log) c.self.invariant.1 in
    let same : pieces 0 c.push.new.self.items c.extend_from_slice.new.self.items ≡ datagrams_sent c.add-2.new.self =
    sent ∙ sym (datagrams_sent-append s.log (Sent c.args.datagram.now ∷ [])) ∙ sym (ap datagrams_sent c.add-2.ensures) in
    grind (arith, are, same, ap length bytes, length-append s.bytes.items c.args.datagram.now)

pub returns-clause-fails : goal.returns-clause-fails
returns-clause-fails c =
    let s = c.self.inside in
    let same = ap (λ ds. sum_by length ds) (c.self.invariant.1 ∙ ap (λ v. datagrams_sent v.sends) c.self.view_is) in
    grind (arith, same, c.self.view_is, sum_by-pieces 0 s.ends.items s.bytes.items c.self.invariant.0)
