use Rattle.std.proofs.Common.{◌≡◌, ◌++◌, take, map}
use Rattle.kk_outside.specs.Sink.{Byte}
use Rattle.kk_outside.proofs.write_log.WriteLog.add_bytes.Given as goal

abbrev pub invariant-loop-byte : goal.invariant-loop-byte
invariant-loop-byte l = l.self ≡ l.fn.self ++ map Byte (take l.byte-index l.bytes)
