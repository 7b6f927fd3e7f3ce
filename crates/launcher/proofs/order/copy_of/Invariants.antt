use Rattle.std.proofs.Common.{◌≡◌, take}
use Rattle.launcher.proofs.order.copy_of.Given as goal

abbrev pub invariant-loop-datum : goal.invariant-loop-datum
invariant-loop-datum l = l.body ≡ take l.datum-index l.values
