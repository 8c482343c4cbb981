use Rattle.std.proofs.Common.{◌≡◌, [], All, vec_len, vec_capacity}
use Rattle.kk_code.specs.Codeword.{width}
use Rattle.kk_run_unpack.specs.Spaces.{Spans}
use Rattle.kk_run_unpack.proofs.generations.Generations.new.Given as goal

abbrev pub invariant-loop : goal.invariant-loop
invariant-loop l = record {
  count : vec_len l.spaces ≡ l.counter;
  room : vec_capacity l.spaces ≡ l.count;
  one_each : vec_len l.answers ≡ l.counter;
  room_each : vec_capacity l.answers ≡ l.count;
  each : All (λ space. Spans (width l.ticket.code) space []) l.spaces.items;
}
