use Rattle.std.proofs.Common.{◌≡◌, length}
use Rattle.lua_grammar.specs.Machine.{finish}
use Rattle.lua_parser.proofs.parser.finish.Given as goal

abbrev pub invariant-loop-symbol : goal.invariant-loop-symbol
invariant-loop-symbol l = finish l.reader.expected l.reader.trees ≡ finish l.fn.reader.expected l.fn.reader.trees

abbrev pub decreases-loop-symbol : goal.decreases-loop-symbol
decreases-loop-symbol l = length l.reader.expected
