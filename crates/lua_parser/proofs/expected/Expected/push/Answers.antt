use Rattle.std.proofs.Common.{arith, reverse}
use Rattle.std.proofs.lemmas.List.{length-reverse}
use Rattle.lua_parser.proofs.Levels.{level_le}
use Rattle.lua_parser.proofs.expected.Expected.push.Goals as goal

pub overflow_add-self : goal.overflow_add-self
overflow_add-self c =
    omega (
      arith,
      level_le (reverse c.self.inside.symbols.items),
      length-reverse c.self.inside.symbols.items,
      c.self.invariant,
      c.weight.ensures.small,
      c.push.new.self.small,
      c.push.new.self.ok.1,
      c.self.inside.symbols.ok.0,
      c.in_ok-push.ensures.len,
    )
