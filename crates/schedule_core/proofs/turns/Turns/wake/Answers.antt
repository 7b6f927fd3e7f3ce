use Rattle.std.proofs.Common.{◌≡◌, List, Some, ap, ◌∙◌}
use Rattle.message.specs.Registries.{at}
use Rattle.schedule_core.specs.declared.spot.Spot.TheVariants.{Home}
use Rattle.schedule_core.proofs.Placed.{home_there, woken_placed}
use Rattle.schedule_core.specs.declared.spot.Spot.{Spot}
use Rattle.schedule_core.specs.Turns.{is_home}
use Rattle.schedule_core.proofs.turns.Turns.wake.Goals as goal

pub invariant_of-self : goal.invariant_of-self
invariant_of-self c =
    let there : at c.self.inside.spots.items c.args.to.0 ≡ Some Home = home_there c.self.inside.spots.items c.args.to c.is_home.result (c.is_home.ensures ∙ ap (λ (xs : List Spot). is_home (at xs c.args.to.0)) c.as_slice.ensures.value) c.if-is_home.true in
    rw c.push_back_reserved.ensures.items (woken_placed _ c.args.to c.self.invariant there)
