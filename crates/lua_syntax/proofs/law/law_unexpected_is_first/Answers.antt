use Rattle.lua_syntax.proofs.OneReading.{unexpected_of}
use Rattle.lua_syntax.proofs.law.law_unexpected_is_first.Goals as goal

pub returns : goal.returns
returns c = unexpected_of
