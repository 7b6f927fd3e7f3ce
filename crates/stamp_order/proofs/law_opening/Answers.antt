use Rattle.stamp_order.proofs.Runs.{opening_is_whole}
use Rattle.stamp_order.proofs.law_opening.Goals as goal

pub returns : goal.returns
returns g c = opening_is_whole g.A.Actor.Meaning
