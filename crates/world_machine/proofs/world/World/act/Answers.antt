use Rattle.world_machine.proofs.Running.{act_kept}
use Rattle.world_machine.proofs.world.World.act.Goals as goal

pub invariant_of-self : goal.invariant_of-self
invariant_of-self g c =
    let w = c.self.inside in
    act_kept g.A.Actor.way g.A.Actor.sound g.met.A.Actor.lawful g.A.Actor.meaning w.engine c.act.new.self c.args.agent w.calls c.act.new.calls c.act.result c.act.ensures.done c.act.ensures.undone c.act.ensures.same c.act.ensures.spent c.self.invariant
