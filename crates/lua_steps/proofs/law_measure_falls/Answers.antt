use Rattle.lua_steps.proofs.Falls.{falls}
use Rattle.lua_steps.proofs.law_measure_falls.Goals as goal

pub returns : goal.returns
returns c = falls
