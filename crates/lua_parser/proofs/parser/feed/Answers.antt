use Rattle.std.proofs.Common.{◌∙◌}
use Rattle.lua_grammar.specs.Lexeme.{lexeme_of}
use Rattle.lua_parser.proofs.Fed.{fed_on}
use Rattle.lua_parser.proofs.parser.feed.Goals as goal

pub loop-symbol-smaller : goal.loop-symbol-smaller
loop-symbol-smaller c =
    (fed_on _ c.in-Some.symbol _ c.loop-symbol.reader.trees (lexeme_of c.args.token.now) _ _ c.in-Some.ensures c.in_ok-turn.ensures c.in_default-2.not-Taken c.in_default-2.not-Refused).1

pub loop-symbol-preserved : goal.loop-symbol-preserved
loop-symbol-preserved c =
    (fed_on _ c.in-Some.symbol _ c.loop-symbol.reader.trees (lexeme_of c.args.token.now) _ _ c.in-Some.ensures c.in_ok-turn.ensures c.in_default-2.not-Taken c.in_default-2.not-Refused).0
    ∙ c.loop-symbol.invariant
