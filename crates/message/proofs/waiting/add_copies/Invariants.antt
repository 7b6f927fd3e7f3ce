use Rattle.std.proofs.Common.{◌≡◌, ◌++◌, take}
use Rattle.message.proofs.waiting.add_copies.Given as goal

abbrev pub invariant-loop-message : goal.invariant-loop-message
invariant-loop-message l = l.ring.items ≡ l.fn.ring.items ++ take l.message-index l.messages
