use Rattle.std.proofs.Common.{◌≡◌, [], vec_len, vec_capacity}
use Rattle.std.specs.Prelude.{map}
use Rattle.std.specs.List.{range_with_len}
use Rattle.kk_relay.specs.RelayState.{basis_after}
use Rattle.kk_relay.proofs.relay.Relay.new.Given as goal

abbrev pub invariant-loop : goal.invariant-loop
invariant-loop l = record {
  count : vec_len l.generations ≡ l.counter;
  room : vec_capacity l.generations ≡ l.count;
  bases : l.generations.items ≡ map (basis_after l.ticket []) (range_with_len 0 l.counter);
}
