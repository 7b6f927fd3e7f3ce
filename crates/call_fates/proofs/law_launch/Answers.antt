use Rattle.call_fates.proofs.Launch.{launch_succeeds}
use Rattle.call_fates.proofs.law_launch.Goals as goal

pub returns : goal.returns
returns g c = launch_succeeds g.A.Actor.way
