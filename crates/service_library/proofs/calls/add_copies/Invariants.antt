use Rattle.std.proofs.Common.{◌≡◌, ◌++◌, take}
use Rattle.service_library.proofs.calls.add_copies.Given as goal

abbrev pub invariant-loop-datum : goal.invariant-loop-datum
invariant-loop-datum l = l.body ≡ l.fn.body ++ take l.datum-index l.values
