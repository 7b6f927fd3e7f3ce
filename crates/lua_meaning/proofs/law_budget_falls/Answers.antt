use Rattle.lua_meaning.proofs.SoundSteps.{budget_falls}
use Rattle.lua_meaning.proofs.law_budget_falls.Goals as goal

pub returns : goal.returns
returns c = budget_falls
