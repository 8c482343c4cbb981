use Rattle.std.proofs.Common.{◌≡◌, ◌≤◌, All, replicate, None, vec_len, vec_capacity}
use Rattle.kk_code.specs.Ticket.{generations}
use Rattle.kk_workers.proofs.receiver.rooms_of.Given as goal

abbrev pub invariant-loop-i : goal.invariant-loop-i
invariant-loop-i l = record {
  len : vec_len l.rooms ≡ l.i;
  room : l.gates ≤ vec_capacity l.rooms;
  empty : All (λ room. room.items ≡ replicate (generations l.ticket) None) l.rooms.items;
}
