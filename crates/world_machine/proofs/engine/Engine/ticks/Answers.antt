use Rattle.std.proofs.Common.{◌≡◌, ◌<◌, ◌+◌, length, map, arith, subst, sym, ap, ◌∙◌, [], ◌++◌}
use Rattle.message.specs.Worlds.{service_over}
use Rattle.world_machine.specs.Machines.{Machine}
use Rattle.world_machine.specs.Spotted.{spots}
use Rattle.std.proofs.lemmas.Bool.Decides.{nat_tests}
use Rattle.message.specs.Clocks.{last_tick, due_at}
use Rattle.world_machine.proofs.Clocking.{ticks_did}
use Rattle.world_machine.proofs.engine.Engine.ticks.Goals as goal

pub returns-in-Ok-clause-done : goal.returns-in-Ok-clause-done
returns-in-Ok-clause-done g c =
    let way = g.A.Actor.way in
    let f = g.A.Actor.meaning in
    let w = c.self.inside in
    let none = subst (λ (v : Machine g.row.A.Denot). v.world.due ≡ []) (sym c.self.view_is) c.requires in
    let some : 0 < length w.places.clock.timers = grind (arith, nat_tests, c.is_empty.ensures, c.if-is_empty.false) in
    let early : w.places.clock.now < last_tick = omega (arith, c.if-clock-ge-LAST_TICK.false, c.clock.ensures.clock) in
    rw (← c.self.view_is) (ticks_did way (map (service_over f) w.services.items) (spots w.places) c.tick.new.self w.due.items c.tick.new.out.items none some early c.tick.ensures.after
    (c.tick.ensures.due ∙ ap (λ z. z ++ due_at (w.places.clock.now + 1) w.places.clock.timers) c.in-Ok.ensures.items))
