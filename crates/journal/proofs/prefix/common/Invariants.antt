use Rattle.std.proofs.Common.{◌≡◌, ◌+◌, drop}
use Rattle.journal.specs.Common.{common}
use Rattle.journal.proofs.prefix.common.Given as goal

abbrev pub invariant-loop-n : goal.invariant-loop-n
invariant-loop-n l = common l.text l.other ≡ l.n + common (drop l.n l.text) (drop l.n l.other)
