use Rattle.std.proofs.Common.{refl}
use Rattle.lua_value.proofs.SameLemmas.{derived-is-same}
use Rattle.lua_table.proofs.table.LuaTable.get.Goals as goal

pub returns-in-Some : goal.returns-in-Some
returns-in-Some c =
    let found = rw derived-is-same at c.in-Some.ensures.value in
    rw (← c.self.view_is, ← found) refl
