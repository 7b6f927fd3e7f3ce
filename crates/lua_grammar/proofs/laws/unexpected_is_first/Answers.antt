use Rattle.lua_grammar.proofs.Read.{unexpected_law, end_law}
use Rattle.lua_grammar.proofs.laws.unexpected_is_first.Goals as goal

pub returns-clause-token : goal.returns-clause-token
returns-clause-token c = unexpected_law

pub returns-clause-end : goal.returns-clause-end
returns-clause-end c = end_law
