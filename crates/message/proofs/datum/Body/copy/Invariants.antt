use Rattle.std.proofs.Common.{◌≡◌, take}
use Rattle.message.proofs.datum.Body.copy.Given as goal

abbrev pub invariant-loop-datum : goal.invariant-loop-datum
invariant-loop-datum l = l.data ≡ take l.datum-index l.datum-items
