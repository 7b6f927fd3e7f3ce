use Rattle.lua_token.proofs.Steps.{no_fault_of, one_spelling_of}
use Rattle.lua_token.proofs.lexer.law_one_spelling.Goals as goal

pub returns-clause-one : goal.returns-clause-one
returns-clause-one c = one_spelling_of

pub returns-clause-none : goal.returns-clause-none
returns-clause-none c = no_fault_of
