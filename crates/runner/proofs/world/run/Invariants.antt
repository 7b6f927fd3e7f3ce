use Rattle.std.proofs.Common.{◌≡◌, Some}
use Rattle.runner.specs.World.{actions_left, after}
use Rattle.runner.proofs.world.run.Given as goal

-- the world and the text are what the journal leaves
abbrev pub invariant-loop-agent : goal.invariant-loop-agent
invariant-loop-agent l = after l.journal.agents l.fn.world ≡ Some (l.world, l.text)

abbrev pub decreases-loop-agent : goal.decreases-loop-agent
decreases-loop-agent l = actions_left l.world
