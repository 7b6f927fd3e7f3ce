use Rattle.std.proofs.Common.{◌≡◌, List, ap, subst}
use Rattle.lua_heap.specs.Contents.{Contents}
use Rattle.lua_steps.specs.Machine.{Closure}
use Rattle.lua_machine.specs.Nests.{nested, over}
use Rattle.lua_machine.specs.Stack.{stacked}
use Rattle.lua_machine.specs.Stretch.{Stretched}
use Rattle.lua_machine.proofs.NestLemmas.{advanced_goes, advanced_more}
use Rattle.lua_machine.proofs.inner.run_inner.Goals as goal

pub returns-clause-advanced : goal.returns-clause-advanced
returns-clause-advanced c =
    let code = c.args.code.now in
    let s = stacked c.call_inner.new.frames c.args.depth in
    let end = c.nest-end in
    let halt = c.leave_nest.result in
    let same : end.new.heap.closures ≡ c.args.heap.now.closures = ap (λ (h : Contents). h.closures) end.ensures.heap in
    let called = advanced_goes _ _ _ _ _ c.args.heap.now.cells _ _ _ _ c.requires.op c.in-Some.ensures.goes in
    let ran = advanced_more _ _ _ _ _ _ _ _ _ _ _ _ _ _ called (end.ensures.ran.is s) in
    let left =
    subst
    (λ (cs : List Closure). Stretched code cs (nested cs end.new.calls end.result.depth s) end.new.row end.new.heap.cells end.result.reached.pace (over cs end.new.calls halt.inner (stacked c.call_inner.new.frames halt.depth)) c.leave_nest.new.row end.new.heap.cells halt.pace)
    same c.leave_nest.ensures.ran in
    advanced_more _ _ _ _ _ _ _ _ _ _ _ _ _ _ ran left
