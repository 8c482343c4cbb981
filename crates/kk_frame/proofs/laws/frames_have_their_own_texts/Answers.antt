use Rattle.kk_frame.proofs.Texts.{same_frames}
use Rattle.kk_frame.proofs.laws.frames_have_their_own_texts.Goals as goal

pub returns : goal.returns
returns c = same_frames
