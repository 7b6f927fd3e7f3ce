use Rattle.schedule_core.proofs.Runs.{calls_settled}
use Rattle.schedule_core.proofs.law_calls.Goals as goal

pub returns : goal.returns
returns g c = calls_settled g.A.Actor.way g.A.Actor.sound g.met.A.Actor.lawful
