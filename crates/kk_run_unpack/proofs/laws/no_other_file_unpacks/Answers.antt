use Rattle.kk_outcome.specs.Answers.{frozen}
use Rattle.kk_outcome.proofs.OneBeyond.{one_beyond_is_no_other_file}
use Rattle.kk_run_unpack.specs.Laws.{NoOtherFileUnpacks}
use Rattle.kk_run_unpack.specs.Unpack.{unpacked, vectors_of}
use Rattle.kk_run_unpack.proofs.laws.no_other_file_unpacks.Goals as goal

law : NoOtherFileUnpacks
unfolding unpacked
law t sent made bytes most ticket len symbols near is =
    one_beyond_is_no_other_file t sent made (frozen (vectors_of t most bytes)) ticket len symbols near is

pub returns : goal.returns
returns c = law
