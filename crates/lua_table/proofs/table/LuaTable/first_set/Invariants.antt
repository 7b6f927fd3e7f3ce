use Rattle.std.proofs.Common.{◌≡◌, drop}
use Rattle.lua_table.specs.Pairs.{first_set}
use Rattle.lua_table.proofs.table.LuaTable.first_set.Given as goal

abbrev pub invariant-loop-index : goal.invariant-loop-index
invariant-loop-index l = first_set (drop l.fn.from l.self) ≡ first_set (drop l.index l.self)
