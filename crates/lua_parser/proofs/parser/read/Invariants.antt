use Rattle.std.proofs.Common.{◌≡◌, drop}
use Rattle.lua_grammar.specs.Faults.{opening}
use Rattle.lua_grammar.specs.Lexeme.{lexemes_of}
use Rattle.lua_grammar.specs.Reading.{reading}
use Rattle.lua_parser.specs.Turns.{state_of}
use Rattle.lua_parser.proofs.parser.read.Given as goal

abbrev pub invariant-loop-token : goal.invariant-loop-token
invariant-loop-token l = reading l.end_line (state_of l.reader) (lexemes_of (drop l.token-index l.tokens)) ≡ reading l.end_line opening (lexemes_of l.tokens)
