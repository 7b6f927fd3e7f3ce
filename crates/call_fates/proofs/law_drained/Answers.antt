use Rattle.call_fates.proofs.Rests.{each_rests}
use Rattle.call_fates.proofs.law_drained.Goals as goal

pub returns : goal.returns
returns g c = each_rests g.A.Actor.way g.A.Actor.sound g.met.A.Actor.lawful
