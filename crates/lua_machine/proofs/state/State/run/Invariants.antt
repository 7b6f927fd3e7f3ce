use Rattle.lua_steps.specs.Machine.{On}
use Rattle.lua_steps.specs.Calls.{given}
use Rattle.lua_steps.specs.Measure.{total, rank}
use Rattle.lua_machine.specs.Runs.{Runs}
use Rattle.lua_machine.proofs.state.State.run.Given as goal

abbrev pub invariant-operations : goal.invariant-operations
invariant-operations l = Runs l.code (given l.fn.self l.fn.values) (On l.self)

abbrev pub decreases-operations : goal.decreases-operations
decreases-operations l = rank (total l.code) l.self
