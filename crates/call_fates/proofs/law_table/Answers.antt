use Rattle.call_fates.proofs.Tells.{table_tells}
use Rattle.call_fates.proofs.law_table.Goals as goal

pub returns : goal.returns
returns g c = table_tells g.A.Actor.way g.A.Actor.sound g.met.A.Actor.lawful
