use Rattle.call_fates.proofs.Order.{order_kept}
use Rattle.call_fates.proofs.law_order.Goals as goal

pub returns : goal.returns
returns g c = order_kept g.A.Actor.way g.A.Actor.sound g.met.A.Actor.lawful
