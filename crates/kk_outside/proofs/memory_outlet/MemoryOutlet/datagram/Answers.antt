use Rattle.std.proofs.Common.{arith, ap, ◌∙◌}
use Rattle.kk_outside.specs.Outlet.{datagrams_sent}
use Rattle.kk_outside.specs.Packed.{start_of}
use Rattle.kk_outside.proofs.Pieces.{index_of_end, datagram_bounds, datagram_at}
use Rattle.kk_outside.proofs.memory_outlet.MemoryOutlet.datagram.Goals as goal

pub start_of-requires : goal.start_of-requires
start_of-requires c =
    let s = c.self.inside in
    grind (arith, index_of_end (datagrams_sent c.args.self.now.sends) s.ends.items s.bytes.items c.args.i (c.self.invariant.1 ∙ ap (λ v. datagrams_sent v.sends) c.self.view_is) c.requires, c.deref-2.ensures.value)

pub index-requires : goal.index-requires
index-requires c =
    let s = c.self.inside in
    grind (arith, index_of_end (datagrams_sent c.args.self.now.sends) s.ends.items s.bytes.items c.args.i (c.self.invariant.1 ∙ ap (λ v. datagrams_sent v.sends) c.self.view_is) c.requires)

pub slice_bounds-result-count : goal.slice_bounds-result-count
slice_bounds-result-count c =
    let s = c.self.inside in
    let start = c.start_of.ensures ∙ ap (λ ends. start_of 0 ends c.args.i) c.deref-2.ensures.value in
    (datagram_bounds (datagrams_sent c.args.self.now.sends) s.ends.items s.bytes.items c.deref.result.now c.args.i c.start_of.result c.index.result.now (c.self.invariant.1 ∙ ap (λ v. datagrams_sent v.sends) c.self.view_is) c.requires c.self.invariant.0 c.deref.ensures.value start c.index.ensures).0

pub slice_bounds-result-start : goal.slice_bounds-result-start
slice_bounds-result-start c =
    let s = c.self.inside in
    let start = c.start_of.ensures ∙ ap (λ ends. start_of 0 ends c.args.i) c.deref-2.ensures.value in
    omega (arith, datagram_bounds (datagrams_sent c.args.self.now.sends) s.ends.items s.bytes.items c.deref.result.now c.args.i c.start_of.result c.index.result.now (c.self.invariant.1 ∙ ap (λ v. datagrams_sent v.sends) c.self.view_is) c.requires c.self.invariant.0 c.deref.ensures.value start c.index.ensures)

pub slice_bounds-result-end : goal.slice_bounds-result-end
slice_bounds-result-end c =
    let s = c.self.inside in
    let start = c.start_of.ensures ∙ ap (λ ends. start_of 0 ends c.args.i) c.deref-2.ensures.value in
    omega (arith, datagram_bounds (datagrams_sent c.args.self.now.sends) s.ends.items s.bytes.items c.deref.result.now c.args.i c.start_of.result c.index.result.now (c.self.invariant.1 ∙ ap (λ v. datagrams_sent v.sends) c.self.view_is) c.requires c.self.invariant.0 c.deref.ensures.value start c.index.ensures)

pub returns : goal.returns
returns c =
    let s = c.self.inside in
    let start = c.start_of.ensures ∙ ap (λ ends. start_of 0 ends c.args.i) c.deref-2.ensures.value in
    datagram_at (datagrams_sent c.args.self.now.sends) s.ends.items s.bytes.items c.deref.result.now c.args.i c.start_of.result c.index.result.now (c.self.invariant.1 ∙ ap (λ v. datagrams_sent v.sends) c.self.view_is) c.requires c.self.invariant.0 c.deref.ensures.value start c.index.ensures
