use Rattle.stamp_order.proofs.Runs.{entries_are_run}
use Rattle.stamp_order.proofs.law_entries.Goals as goal

pub returns : goal.returns
returns g c = entries_are_run g.A.Actor.way
