use Rattle.std.proofs.Common.{ℕ, ◌∷◌, ap, ◌∙◌, arith}
use Rattle.lua_machine.specs.declared.call_info.CallInfo.{CallInfo}
use Rattle.lua_machine.specs.Nests.{frame_of, over}
use Rattle.lua_machine.proofs.SettleLemmas.{call_any, over_next}
use Rattle.lua_machine.proofs.stack.CallStack.settle.Goals as goal

pub calls-preserved : goal.calls-preserved
calls-preserved c =
    let cs = c.args.heap.now.closures in
    let calls = c.args.calls.now in
    let i = c.calls.call-index in
    let s = c.calls.self in
    c.in_ok-settle_one.ensures
    ∙ ap (λ (x : CallInfo). record { top = frame_of cs x; below = s.top ∷ s.below }) (call_any calls i _ c.calls-test.true)
    ∙ over_next cs calls i c.args.self.now s c.calls.invariant

pub returns : goal.returns
returns c = c.calls.invariant ∙ ap (λ (n : ℕ). over c.args.heap.now.closures c.args.calls.now n c.args.self.now) (omega arith)
