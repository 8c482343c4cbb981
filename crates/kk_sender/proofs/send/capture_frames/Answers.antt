use Rattle.std.proofs.Common.{arith}
use Rattle.kk_sender.proofs.Generations.{length-capture_frames}
use Rattle.kk_sender.proofs.send.capture_frames.Goals as goal

pub returns : goal.returns
returns c = λ file. omega (arith, c.data_frames.ensures.count, length-capture_frames c.args.ticket.now file)
