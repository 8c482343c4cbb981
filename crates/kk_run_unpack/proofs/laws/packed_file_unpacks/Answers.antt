use Rattle.kk_run_unpack.proofs.Packed.{packed_file_unpacks as law}
use Rattle.kk_run_unpack.proofs.laws.packed_file_unpacks.Goals as goal

pub returns : goal.returns
returns c = law
