use Rattle.lua_syntax.specs.Script.{lexical}
use Rattle.lua_syntax.proofs.OneReading.{not_both_of, one_fault_of}
use Rattle.lua_syntax.proofs.ParseLemmas.{fault_of, found_of, only_of, refused_of}
use Rattle.lua_syntax.proofs.reader.parse.Goals as goal

pub returns-in-Ok-clause-found : goal.returns-in-Ok-clause-found
returns-in-Ok-clause-found c = found_of c.args.source.now c.in-Ok.tokens c.parse_tokens.result c.in-Ok.ensures (rw c.as_slice.ensures at c.parse_tokens.ensures.found)

pub returns-in-Ok-clause-only : goal.returns-in-Ok-clause-only
returns-in-Ok-clause-only c = only_of c.args.source.now c.in-Ok.tokens c.parse_tokens.result c.in-Ok.ensures (rw c.as_slice.ensures at c.parse_tokens.ensures.found) (rw (c.end_line.ensures, c.as_slice.ensures) at c.parse_tokens.ensures.fault)

pub returns-in-Ok-clause-fault : goal.returns-in-Ok-clause-fault
returns-in-Ok-clause-fault c = fault_of c.args.source.now c.in-Ok.tokens c.parse_tokens.result c.in-Ok.ensures (rw (c.end_line.ensures, c.as_slice.ensures) at c.parse_tokens.ensures.fault)

pub returns-in-Ok-clause-refused : goal.returns-in-Ok-clause-refused
returns-in-Ok-clause-refused c = refused_of c.args.source.now c.in-Ok.tokens c.parse_tokens.result c.in-Ok.ensures (rw c.as_slice.ensures at c.parse_tokens.ensures.found) (rw (c.end_line.ensures, c.as_slice.ensures) at c.parse_tokens.ensures.fault)

pub returns-in-Err-Fault-clause-only : goal.returns-in-Err-Fault-clause-only
returns-in-Err-Fault-clause-only c chunk d = not_both_of c.args.source.now chunk c.in-Err-Fault.fault d (lexical (rw c.in-Err-Fault.field-0-is at c.in-Err-Fault.ensures))

pub returns-in-Err-Fault-clause-fault : goal.returns-in-Err-Fault-clause-fault
returns-in-Err-Fault-clause-fault c = rw c.in-Err-Fault.field-0-is (lexical (rw c.in-Err-Fault.field-0-is at c.in-Err-Fault.ensures))

pub returns-in-Err-Fault-clause-refused : goal.returns-in-Err-Fault-clause-refused
returns-in-Err-Fault-clause-refused c f d = rw c.in-Err-Fault.field-0-is (one_fault_of c.args.source.now c.in-Err-Fault.fault f (lexical (rw c.in-Err-Fault.field-0-is at c.in-Err-Fault.ensures)) d)
