use Rattle.std.proofs.Common.{map, subst, sym}
use Rattle.message.specs.Worlds.{service_over}
use Rattle.world_machine.specs.Machines.{Machine}
use Rattle.world_machine.specs.Spotted.{spots}
use Rattle.world_machine.specs.Launching.{FirstDue}
use Rattle.world_machine.proofs.Clocking.{fires_popped}
use Rattle.world_machine.proofs.engine.Engine.fires.Goals as goal

pub returns-in-Ok-clause-done : goal.returns-in-Ok-clause-done
returns-in-Ok-clause-done g c =
    let way = g.A.Actor.way in
    let f = g.A.Actor.meaning in
    let w = c.self.inside in
    let first = subst (λ (v : Machine g.row.A.Denot). FirstDue v.world.due c.args.to c.args.session) (sym c.self.view_is) c.requires in
    rw (← c.self.view_is) (fires_popped way (map (service_over f) w.services.items) (spots w.places) (spots c.fire.new.self) w.due.items c.pop_front.new.self.items c.args.to c.args.session first c.pop_front.ensures.rest c.in-Ok.ensures.done)
