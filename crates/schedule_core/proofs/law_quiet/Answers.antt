use Rattle.schedule_core.proofs.Quiet.{quiet_drained}
use Rattle.schedule_core.proofs.law_quiet.Goals as goal

pub returns : goal.returns
returns g c = quiet_drained g.A.Actor.way
