-- What a reference into the frames leaves behind.
use Rattle.std.specs.Borrow.{Lends, MutBor, Fml}
use Rattle.lua_steps.specs.Machine as steps
use Rattle.lua_machine.specs.Stack.{Stacked}
use Rattle.lua_machine.specs.contracts.stack.CallStack as stack
use Rattle.lua_machine.specs.contracts.frame.Frame as frame

-- the frame on top ends as what is left behind the reference
abbrev pub LendsTop : MutBor Stacked → MutBor steps.Frame → Fml
LendsTop s r = Lends stack.the_row frame.the_row s r (λ w. record s.now { top = w })
