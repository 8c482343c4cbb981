use Rattle.kk_workers.proofs.Sent.{answers_are_the_messages}
use Rattle.kk_workers.proofs.laws.answers_are_the_messages.Goals as goal

pub returns : goal.returns
returns c = answers_are_the_messages
