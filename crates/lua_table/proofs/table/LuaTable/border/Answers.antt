use Rattle.std.proofs.Common.{◌≡◌, length}
use Rattle.lua_table.proofs.BorderLemmas.{whole_at}
use Rattle.lua_table.proofs.table.LuaTable.border.Goals as goal

pub returns : goal.returns
returns c =
    let is : c.len-len.result ≡ length c.args.self.now = rw (← c.self.view_is) c.len-len.ensures.len in
    whole_at c.args.self.now c.loop-n.n c.len-len.result is c.len-len.ensures.small c.loop-n-test.false c.loop-n.auto.n-end c.loop-n.invariant
