use Rattle.lua_grammar.proofs.Read.{bounds_law}
use Rattle.lua_grammar.proofs.laws.bounds_where_viable.Goals as goal

pub returns : goal.returns
returns c = bounds_law
