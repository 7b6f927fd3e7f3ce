use Rattle.std.proofs.Common.{ℕ, ◌<◌}
use Rattle.lua_table.specs.Pairs.{IsFilled}
use Rattle.lua_table.proofs.table.LuaTable.border.Given as goal

abbrev pub invariant-loop-n : goal.invariant-loop-n
invariant-loop-n l = (i : ℕ) → i < l.n → IsFilled l.self i
