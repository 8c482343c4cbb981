-- The file goes out where every generation has an answer.
use Rattle.std.specs.Prelude.{◌≡◌, ◌↔◌, ◌⊎◌, ℕ, List, Option, None, IsSomeAnd}
use Rattle.kk_outside.specs.Causes.{CanCount}
use Rattle.kk_outside.specs.Change.{Change}
use Rattle.kk_outside.specs.Sink.{SinkTold, SinkFailed, WasGiven}
use Rattle.kk_report.specs.Command.{RanThrough}

-- The file was given to its sink, and the status is 5 where that failed and else 0; or there is no file, and it is 3.
pub record IsDelivered (text : Option (List ℕ)) (status : ℕ) (file : Change SinkTold) : Type 0 where
  pub not_decoded : (status ≡ 3) ↔ (text ≡ None)
  pub written : RanThrough status → IsSomeAnd text (λ bytes. WasGiven bytes file)
  pub output_fault : CanCount file.old.faults → RanThrough status → ((status ≡ 5) ↔ SinkFailed file)
  pub no_other : (status ≡ 3) ⊎ RanThrough status
