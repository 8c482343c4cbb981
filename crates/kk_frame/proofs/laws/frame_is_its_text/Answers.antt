use Rattle.kk_frame.proofs.Texts.{frame_from_text, text_from_frame}
use Rattle.kk_frame.proofs.laws.frame_is_its_text.Goals as goal

pub returns : goal.returns
returns c = λ t bytes frame ticket are. (text_from_frame t bytes frame are, frame_from_text t bytes frame ticket)
