use Rattle.std.proofs.Common.{[]}
use Rattle.std.proofs.lemmas.Option.{slice_get-get_or}
use Rattle.kk_frame.proofs.datagram.Frames.at.Goals as goal

pub returns : goal.returns
returns c = rw c.self.view_is (slice_get-get_or c.args.self.now c.args.i [] c.requires)
