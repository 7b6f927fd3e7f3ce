use Rattle.lua_grammar.proofs.Read.{decided_law, not_both_law, one_fault_law}
use Rattle.lua_grammar.proofs.laws.chunk_or_fault.Goals as goal

pub returns-clause-either : goal.returns-clause-either
returns-clause-either c = decided_law

pub returns-clause-not_both : goal.returns-clause-not_both
returns-clause-not_both c = not_both_law

pub returns-clause-one : goal.returns-clause-one
returns-clause-one c = one_fault_law
