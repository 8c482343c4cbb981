use Rattle.std.proofs.Common.{◌^◌, ◌<◌, take}
use Rattle.std.specs.Prelude.{All}
use Rattle.kk_test_algebra.proofs.decode.message.Given as goal

abbrev pub invariant-loop-symbol : goal.invariant-loop-symbol
invariant-loop-symbol l = record { below : All (λ s. s < 2 ^ l.code.field.degree) (take l.symbol-index l.symbols) }
