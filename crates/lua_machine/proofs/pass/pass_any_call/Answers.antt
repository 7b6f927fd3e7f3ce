use Rattle.std.proofs.Common.{◌+◌, List, sym, subst}
use Rattle.lua_value.specs.declared.value.Value.{Value}
use Rattle.lua_heap.specs.Contents.{Contents}
use Rattle.lua_code.specs.declared.op.Op.TheVariants as op
use Rattle.lua_steps.specs.Machine.{Frame}
use Rattle.lua_machine.specs.Nests.{Advanced}
use Rattle.lua_machine.specs.Stack.{stacked}
use Rattle.lua_machine.specs.Stretch.{Goes}
use Rattle.lua_machine.proofs.NestLemmas.{advanced_goes}
use Rattle.lua_machine.proofs.pass.pass_any_call.Goals as goal

pub returns-clause-advanced : goal.returns-clause-advanced
returns-clause-advanced c =
    let code = c.args.code.now in
    let d = c.args.depth in
    let call = op.Call c.args.base c.args.args c.args.results in
    let old = c.args.heap.now in
    let pace = c.args.pace in
    let inner = c.run_inner-inner.new in
    let none = c.in_default.ensures.none in
    let t = stacked c.pass_call.new.frames (d + 1) in
    let p = c.in-Some-pass_call.pace in
    let in_heap = subst (λ (h : Contents). Goes code h.closures call (stacked inner.frames d) inner.row pace t inner.row p) none.2 c.in-Some-pass_call.ensures.goes in
    let in_frames = subst (λ (fs : List Frame). Goes code old.closures call (stacked fs d) inner.row pace t inner.row p) none.0 in_heap in
    let in_row = subst (λ (r : List Value). Goes code old.closures call (stacked c.args.frames.now d) r pace t inner.row p) none.1 in_frames in
    subst (λ (h : Contents). Advanced code old.closures (stacked c.args.frames.now d) c.args.row.now old.cells pace t inner.row h.cells p) (sym none.2) (advanced_goes _ _ _ _ _ old.cells _ _ _ _ c.requires.op in_row)
