use Rattle.call_fates.proofs.Journals.{each_taken_once}
use Rattle.call_fates.proofs.law_once.Goals as goal

pub returns : goal.returns
returns g c = each_taken_once g.A.Actor.way g.A.Actor.sound g.met.A.Actor.lawful
