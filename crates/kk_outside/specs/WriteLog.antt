-- The writes that a log keeps.
use Rattle.std.specs.Prelude.{List, [], ◌∷◌, ◌++◌}
use Rattle.kk_outside.specs.Sink.{Written, Byte, Nothing, Failed}
use Rattle.kk_outside.specs.declared.write_log.LastWritten.{LastWritten}
use Rattle.kk_outside.specs.declared.write_log.LastWritten.TheVariants.{NoWrite, TookByte, TookNothing, HasFailed}

abbrev pub written_logged : LastWritten → List Written
written_logged NoWrite = []
written_logged (TookByte byte before) = before.value ++ Byte byte ∷ []
written_logged (TookNothing before) = before.value ++ Nothing ∷ []
written_logged (HasFailed before) = before.value ++ Failed ∷ []
