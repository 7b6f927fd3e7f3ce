use Rattle.std.proofs.Common.{◌≡◌, ◌++◌, map, take}
use Rattle.launcher.specs.Rows.{entry}
use Rattle.launcher.proofs.services.with_late.Given as goal

abbrev pub invariant-loop-service : goal.invariant-loop-service
invariant-loop-service l = l.pairs ≡ l.fn.pairs ++ map entry (take l.service-index l.late)
