use Rattle.std.proofs.Common.{subst, sym, ◌∙◌}
use Rattle.world_machine.specs.Launching.{FirstDue, clock_agent}
use Rattle.world_machine.specs.Machines.{Machine}
use Rattle.world_machine.proofs.Foreseeing.{tells_some, fire_tells}
use Rattle.world_machine.proofs.engine.Engine.fire_ahead.Goals as goal

pub returns-clause-some : goal.returns-clause-some
returns-clause-some g c =
    let way = g.A.Actor.way in
    let f = g.A.Actor.meaning in
    let w = c.self.inside in
    let first = subst (λ (v : Machine g.row.A.Denot). FirstDue v.world.due c.args.to c.args.session) (sym c.self.view_is) c.requires in
    rw (← c.self.view_is) (tells_some way _ clock_agent _ c.in_ok-weight.weight (fire_tells way _ c.args.to c.args.session first) (sym c.given_ahead.ensures ∙ c.in_ok-weight.was))
