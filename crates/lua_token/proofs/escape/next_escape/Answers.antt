use Rattle.lua_token.proofs.Within.{escape_taken}
use Rattle.lua_token.proofs.escape.next_escape.Goals as goal

pub returns-clause-within : goal.returns-clause-within
returns-clause-within c = escape_taken c.read_escape.result c.args.bytes.now c.read_escape.ensures.value
