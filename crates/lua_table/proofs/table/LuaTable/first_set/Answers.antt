use Rattle.std.proofs.Common.{◌∙◌, ◌<◌, sym, length, arith}
use Rattle.lua_table.proofs.PairsLemmas.{first_set-here, first_set-later}
use Rattle.lua_table.proofs.table.LuaTable.first_set.Goals as goal

pub returns-in-Some : goal.returns-in-Some
returns-in-Some c =
    let within : c.loop-index.index < length c.args.self.now = rw (← c.self.view_is) (omega (arith, c.len-index-end.ensures.len)) in
    sym (c.loop-index.invariant ∙ first_set-here c.args.self.now c.loop-index.index c.in-Some.found within (sym c.in-Some.ensures))

pub loop-index-preserved : goal.loop-index-preserved
loop-index-preserved c =
    let within : c.loop-index.index < length c.args.self.now = rw (← c.self.view_is) (omega (arith, c.len-index-end.ensures.len)) in
    c.loop-index.invariant ∙ first_set-later c.args.self.now c.loop-index.index within (sym c.in_default.ensures)
