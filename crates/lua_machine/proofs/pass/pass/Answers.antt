use Rattle.std.proofs.Common.{ℕ, Some, sym, ap, ◌∙◌, subst}
use Rattle.lua_code.specs.declared.op.Op.{Op}
use Rattle.lua_machine.specs.declared.pace.Pass.{Pass}
use Rattle.lua_machine.specs.Nests.{over, Advanced}
use Rattle.lua_machine.specs.Quick.{IsPass}
use Rattle.lua_machine.specs.Stack.{stacked}
use Rattle.lua_machine.proofs.NestLemmas.{advanced_goes, some_both}
use Rattle.lua_machine.proofs.pass.pass.Goals as goal

pub returns-in-Return-clause-advanced : goal.returns-in-Return-clause-advanced
returns-in-Return-clause-advanced c =
    let code = c.args.code.now in
    let frames = c.args.frames.now in
    let heap = c.args.heap.now in
    let returns = subst (λ (p : Pass). IsPass p c.args.reached.op) c.in-Return.is c.requires.pass in
    let is = c.requires.op ∙ ap (λ (o : Op). Some o) returns in
    some_both c.pass_return.result _ _ _
    (λ h goes none. subst (λ (n : ℕ). Advanced code heap.closures (stacked frames c.args.depth) c.args.row.now heap.cells c.args.reached.pace (over heap.closures c.args.calls.now n (stacked frames h.depth)) c.pass_return.new.row heap.cells h.pace) (sym none)
    (advanced_goes _ _ _ _ _ heap.cells _ _ _ _ is goes))
    c.pass_return.ensures.goes c.pass_return.ensures.inner
