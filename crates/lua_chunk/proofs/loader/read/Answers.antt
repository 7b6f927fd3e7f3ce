use Rattle.lua_chunk.proofs.loader.read.Goals as goal

pub returns-in-Err-Fault-clause-succeeds : goal.returns-in-Err-Fault-clause-succeeds
returns-in-Err-Fault-clause-succeeds c chunk reads = rw c.in-Err-Fault.field-0-is at (c.in-Err-Fault.ensures.only chunk reads)
