use Rattle.std.proofs.Common.{refl}
use Rattle.world_machine.specs.Opening.{Opens}
use Rattle.world_machine.proofs.Lists.{found_some}
use Rattle.world_machine.proofs.Running.{opens_kept}
use Rattle.world_machine.proofs.world.World.opening.Goals as goal

pub invariant_of-result : goal.invariant_of-result
invariant_of-result g c =
    let way = g.A.Actor.way in
    let f = g.A.Actor.meaning in
    let opens = found_some _ (λ m. Opens way f c.args.logger c.args.launcher c.args.start.now m) c.in_ok-engine.field-0 c.in-Some.engine c.in-Some.engine c.in-Some.is refl c.in_ok-engine.ensures in
    opens_kept way g.A.Actor.sound g.met.A.Actor.lawful f c.args.logger c.args.launcher c.args.start.now c.in-Some.engine c.new.result c.requires.logger c.requires.launcher opens c.new.ensures
