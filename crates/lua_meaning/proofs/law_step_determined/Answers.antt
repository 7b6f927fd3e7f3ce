use Rattle.lua_meaning.proofs.Stops.{determined}
use Rattle.lua_meaning.proofs.law_step_determined.Goals as goal

pub returns : goal.returns
returns c = determined
