use Rattle.std.proofs.Common.{arith, length, ap}
use Rattle.kk_outside.specs.Outlet.{datagrams_sent}
use Rattle.kk_outside.proofs.Pieces.{length-pieces}
use Rattle.kk_outside.proofs.memory_outlet.MemoryOutlet.sent.Goals as goal

pub returns : goal.returns
returns c =
    let s = c.self.inside in
    grind (arith, c.len.ensures, length-pieces 0 s.ends.items s.bytes.items, ap length c.self.invariant.1, ap (λ v. length (datagrams_sent v.sends)) c.self.view_is)
