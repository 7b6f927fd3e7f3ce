use Rattle.call_fates.proofs.Journals.{each_counted}
use Rattle.call_fates.proofs.law_calls.Goals as goal

pub returns : goal.returns
returns g c = each_counted g.A.Actor.way g.A.Actor.sound g.met.A.Actor.lawful
