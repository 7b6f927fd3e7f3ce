use Rattle.std.proofs.Common.{◌≡◌, length}
use Rattle.stamp_order.proofs.tests.record.Given as goal

abbrev pub invariant-loop-stamp : goal.invariant-loop-stamp
invariant-loop-stamp l = length l.record.entries ≡ l.stamp-index
