use Rattle.std.proofs.Common.{◌≡◌, ◌++◌, map}
use Rattle.launcher.specs.Rows.{entry}
use Rattle.launcher.specs.Listed.{services_in}
use Rattle.launcher.proofs.services.entries_by_handle.Given as goal

abbrev pub invariant-loop-handle : goal.invariant-loop-handle
invariant-loop-handle l = l.pairs ++ map entry (services_in l.handle-iterator) ≡ map entry (services_in l.by_handle.entries)
