use Rattle.std.proofs.Common.{◌≡◌, ◌+◌, ◌-◌, ◌<◌, refl, arith}
use Rattle.lua_machine.proofs.NestLemmas.{nests_return, resumed}
use Rattle.lua_machine.proofs.nest.nest_return.Goals as goal

pub returns-clause-nests : goal.returns-clause-nests
returns-clause-nests c =
    let ready = c.requires.ready in
    let lt : c.args.here.depth - 1 < c.args.here.depth = omega (arith, c.if-here-eq0.false) in
    let above : c.args.here.depth ≡ c.args.here.depth - 1 + 1 = omega (arith, c.if-here-eq0.false) in
    nests_return _ _ _ _ _ _ _ _ _ _ _ _ above ready.begins (ready.below.each _ lt).called refl c.if-not-hand_down.ensures

pub returns-clause-ready : goal.returns-clause-ready
returns-clause-ready c =
    let ready = c.requires.ready in
    let lt : c.args.here.depth - 1 < c.args.here.depth = omega (arith, c.if-here-eq0.false) in
    resumed _ _ _ c.args.row.now _ _ _ _ _ lt ready.within c.hand_down.auto.row ready.below c.function_there-routine.ensures c.ops.ensures
