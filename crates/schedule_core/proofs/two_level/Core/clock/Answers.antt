use Rattle.std.proofs.Common.{refl}
use Rattle.world_machine.specs.Launching.{clock_agent}
use Rattle.schedule_core.proofs.Stepping.{clock_steps, if_ok}
use Rattle.schedule_core.proofs.two_level.Core.clock.Goals as goal

pub returns-clause-done : goal.returns-clause-done
returns-clause-done g c = if_ok c.moves.result _ _ (λ r m. clock_steps g.A.Actor.way g.A.Actor.meaning c.args.self.now c.moves.new.self clock_agent r refl m) c.moves.ensures.done
