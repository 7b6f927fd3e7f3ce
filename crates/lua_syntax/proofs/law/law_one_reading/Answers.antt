use Rattle.lua_syntax.proofs.OneReading.{not_both_of, one_fault_of, one_law}
use Rattle.lua_syntax.proofs.law.law_one_reading.Goals as goal

pub returns-clause-one : goal.returns-clause-one
returns-clause-one c = one_law

pub returns-clause-not_both : goal.returns-clause-not_both
returns-clause-not_both c = not_both_of

pub returns-clause-one_fault : goal.returns-clause-one_fault
returns-clause-one_fault c = one_fault_of
