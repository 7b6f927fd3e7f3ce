use Rattle.lua_meaning.proofs.SoundSteps.{units_rise}
use Rattle.lua_meaning.proofs.law_units_rise.Goals as goal

pub returns : goal.returns
returns c = units_rise
