use Rattle.std.proofs.Common.{◌≡◌}
use Rattle.lua_machine.specs.Nests.{over}
use Rattle.lua_machine.proofs.stack.CallStack.settle.Given as goal

abbrev pub invariant-calls : goal.invariant-calls
invariant-calls l = l.self ≡ over l.heap.closures l.calls l.call-index l.fn.self
