use Rattle.launcher.proofs.Sender.{sender_is_served}
use Rattle.launcher.proofs.laws.law_sender_is_served.Goals as goal

pub returns : goal.returns
returns c = sender_is_served
