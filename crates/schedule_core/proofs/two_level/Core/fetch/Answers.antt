use Rattle.std.proofs.Common.{ap}
use Rattle.message.specs.Worlds.{over}
use Rattle.schedule_core.specs.Cores.{TurnBook}
use Rattle.schedule_core.proofs.Stepping.{fit_fetched, fetch_steps}
use Rattle.schedule_core.proofs.two_level.Core.fetch.Goals as goal

pub invariant_of-self : goal.invariant_of-self
invariant_of-self g c = fit_fetched g.A.Actor.way (over g.A.Actor.meaning c.self.inside.world.world) c.self.inside.turns.turns c.fetch.new.self.turns c.args.worker c.fetch.result c.self.inside.world.spent
    c.self.invariant c.fetch.ensures.done (λ e. ap (λ (b : TurnBook). b.turns) (c.fetch.ensures.none e).1)

pub returns-clause-done : goal.returns-clause-done
returns-clause-done g c = rw (← c.self.view_is) (fetch_steps g.A.Actor.way g.A.Actor.meaning c.self.inside.world c.self.inside.turns c.fetch.new.self c.args.worker c.fetch.result c.fetch.ensures.done c.fetch.ensures.none)
