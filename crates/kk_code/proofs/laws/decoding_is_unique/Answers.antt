use Rattle.kk_code.proofs.CodeLaws.{decoding_is_unique}
use Rattle.kk_code.proofs.laws.decoding_is_unique.Goals as goal

pub returns : goal.returns
returns c = decoding_is_unique
