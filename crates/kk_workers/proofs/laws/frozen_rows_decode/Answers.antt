use Rattle.kk_workers.proofs.Sent.{frozen_rows_decode}
use Rattle.kk_workers.proofs.laws.frozen_rows_decode.Goals as goal

pub returns : goal.returns
returns c = frozen_rows_decode
