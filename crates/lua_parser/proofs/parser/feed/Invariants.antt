use Rattle.std.proofs.Common.{◌≡◌}
use Rattle.lua_grammar.specs.Lexeme.{lexeme_of}
use Rattle.lua_grammar.specs.Machine.{feed}
use Rattle.lua_parser.proofs.Fed.{all_turns}
use Rattle.lua_parser.proofs.parser.feed.Given as goal

abbrev pub invariant-loop-symbol : goal.invariant-loop-symbol
invariant-loop-symbol l = feed l.reader.expected l.reader.trees (lexeme_of l.token) ≡ feed l.fn.reader.expected l.fn.reader.trees (lexeme_of l.token)

abbrev pub decreases-loop-symbol : goal.decreases-loop-symbol
decreases-loop-symbol l = all_turns l.reader.expected
