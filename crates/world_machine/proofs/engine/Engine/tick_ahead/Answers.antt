use Rattle.std.proofs.Common.{◌≡◌, ◌<◌, [], length, subst, sym, arith}
use Rattle.std.proofs.lemmas.Bool.Decides.{nat_tests}
use Rattle.message.specs.Clocks.{last_tick}
use Rattle.world_machine.specs.Machines.{Machine}
use Rattle.world_machine.proofs.Foreseeing.{tick_tells}
use Rattle.world_machine.proofs.engine.Engine.tick_ahead.Goals as goal

pub returns-clause-some : goal.returns-clause-some
returns-clause-some g c =
    let w = c.self.inside in
    let none = subst (λ (v : Machine g.row.A.Denot). v.world.due ≡ []) (sym c.self.view_is) c.requires in
    let some : 0 < length w.places.clock.timers = grind (arith, nat_tests, c.is_empty.ensures, c.if-is_empty.false) in
    let early : w.places.clock.now < last_tick = omega (arith, c.if-clock-ge-LAST_TICK.false, c.clock.ensures.clock) in
    rw (← c.self.view_is) (tick_tells g.A.Actor.way _ none some early)
