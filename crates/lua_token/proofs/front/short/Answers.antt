use Rattle.lua_token.specs.Strings.{short_from}
use Rattle.lua_token.proofs.front.short.Goals as goal

pub returns : goal.returns
returns c = c.string.ensures (short_from c.args.quote 0 c.args.after.now) c.short_string.ensures.found
