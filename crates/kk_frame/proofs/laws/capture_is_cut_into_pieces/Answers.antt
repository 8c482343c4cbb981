use Rattle.kk_frame.proofs.Captures.{capture-none, capture-first}
use Rattle.kk_frame.proofs.laws.capture_is_cut_into_pieces.Goals as goal

pub returns : goal.returns
returns c = λ size bytes some. (capture-none size some, capture-first size bytes some)
