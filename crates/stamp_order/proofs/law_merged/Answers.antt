use Rattle.stamp_order.proofs.Runs.{merged_are_run}
use Rattle.stamp_order.proofs.law_merged.Goals as goal

pub returns : goal.returns
returns g c = merged_are_run g.A.Actor.way
