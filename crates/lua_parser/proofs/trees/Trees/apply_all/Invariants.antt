use Rattle.std.proofs.Common.{◌≡◌, drop, option_map, option_copied}
use Rattle.lua_grammar.specs.Lexeme.{lexeme_of}
use Rattle.lua_grammar.specs.Parts.{effects_of}
use Rattle.lua_parser.proofs.trees.Trees.apply_all.Given as goal

abbrev pub invariant-loop-effect : goal.invariant-loop-effect
invariant-loop-effect l =
    effects_of (option_map lexeme_of (option_copied l.token)) (drop l.effect-index l.effects) l.self ≡ effects_of (option_map lexeme_of (option_copied l.token)) l.effects l.fn.self
