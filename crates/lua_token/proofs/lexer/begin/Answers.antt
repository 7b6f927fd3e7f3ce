use Rattle.lua_token.proofs.Within.{begun}
use Rattle.lua_token.proofs.lexer.begin.Goals as goal

pub returns-clause-within : goal.returns-clause-within
returns-clause-within c = begun c.look.result c.args.bytes.now c.look.ensures
