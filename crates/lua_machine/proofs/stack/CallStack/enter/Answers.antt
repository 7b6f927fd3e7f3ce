use Rattle.std.proofs.Common.{arith}
use Rattle.lua_machine.proofs.StackLemmas.{entered_set, entered_push}
use Rattle.lua_machine.proofs.stack.CallStack.enter.Goals as goal

pub returns-then-next-len : goal.returns-then-next-len
returns-then-next-len c =
    let d = c.self.inside.depth in
    let fs = c.self.inside.frames.items in
    let same = c.self.inside.frames.ok.0 in
    entered_set d fs c.args.frame c.args.self.now (omega arith) c.self.view_is

pub returns : goal.returns
returns c =
    let d = c.self.inside.depth in
    let fs = c.self.inside.frames.items in
    let same = c.self.inside.frames.ok.0 in
    rw c.in_ok-push.ensures.items (entered_push d fs c.args.frame c.args.self.now (omega arith) c.self.view_is)
