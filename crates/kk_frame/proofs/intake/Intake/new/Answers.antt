use Rattle.std.proofs.Common.{refl}
use Rattle.kk_frame.specs.Datagram.{data_frames}
use Rattle.kk_frame.proofs.Intakes.{after_none}
use Rattle.kk_frame.proofs.intake.Intake.new.Goals as goal

pub returns-clause-after : goal.returns-clause-after
unfolding data_frames
returns-clause-after c = λ t. after_none t _ refl refl c.requires.idle c.requires.most
