use Rattle.std.proofs.lemmas.Bool.{OnFalse_from}
use Rattle.message.specs.Worlds.{over}
use Rattle.schedule_core.proofs.Runs.{opening_two}
use Rattle.schedule_core.proofs.two_level.Core.opening.Goals as goal

pub invariant_of-result : goal.invariant_of-result
invariant_of-result g c = OnFalse_from c.args.world.spent _ (λ whole. opening_two g.A.Actor.way g.A.Actor.sound (over g.A.Actor.meaning c.args.world.world) c.in_ok-turns.turns.turns c.requires.opens c.in_ok-turns.ensures.opens)
