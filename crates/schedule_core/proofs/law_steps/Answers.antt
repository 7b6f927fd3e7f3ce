use Rattle.schedule_core.proofs.Runs.{steps_keep}
use Rattle.schedule_core.proofs.law_steps.Goals as goal

pub returns : goal.returns
returns g c = steps_keep g.A.Actor.way g.A.Actor.sound g.met.A.Actor.lawful
