-- The reads that a log keeps.
use Rattle.std.specs.Prelude.{ℕ, List, [], ◌∷◌, ◌++◌}
use Rattle.kk_outside.specs.Source.{Read, Gave, AtEnd, Failed}
use Rattle.kk_outside.specs.declared.read_log.LastByte.{LastByte}
use Rattle.kk_outside.specs.declared.read_log.LastByte.TheVariants.{NoByte, Byte}
use Rattle.kk_outside.specs.declared.read_log.LastRead.{LastRead}
use Rattle.kk_outside.specs.declared.read_log.LastRead.TheVariants.{NoRead, GaveBytes, FoundEnd, HasFailed}

abbrev pub bytes_of : LastByte → List ℕ
bytes_of NoByte = []
bytes_of (Byte byte before) = before.value ++ byte ∷ []

abbrev pub reads_of : LastRead → List Read
reads_of NoRead = []
reads_of (GaveBytes bytes before) = before.value ++ Gave bytes.value ∷ []
reads_of (FoundEnd before) = before.value ++ AtEnd ∷ []
reads_of (HasFailed before) = before.value ++ Failed ∷ []
