use Rattle.lua_follow.proofs.Law.{code_follows}
use Rattle.lua_follow.proofs.law_code_follows.Goals as goal

pub returns : goal.returns
returns c = code_follows
