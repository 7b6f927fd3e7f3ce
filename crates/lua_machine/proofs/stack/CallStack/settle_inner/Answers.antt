use Rattle.std.proofs.Common.{◌≡◌, subst}
use Rattle.std.specs.Prelude.{OnOk}
use Rattle.lua_machine.specs.Stack.{Stacked}
use Rattle.lua_machine.proofs.SettleLemmas.{over_first}
use Rattle.lua_machine.proofs.stack.CallStack.settle_inner.Goals as goal

pub returns : goal.returns
returns c = subst (λ (s : Stacked). OnOk c.settle.result (c.settle.new.self ≡ s)) (over_first c.args.heap.now.closures c.args.calls.now c.args.inner c.args.self.now c.requires) c.settle.ensures
