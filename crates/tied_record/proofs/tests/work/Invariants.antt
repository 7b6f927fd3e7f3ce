use Rattle.std.proofs.Common.{◌≡◌}
use Rattle.tied_record.proofs.tests.work.Given as goal

abbrev pub invariant-loop-count : goal.invariant-loop-count
invariant-loop-count g l = l.fn.handle.0 ≡ l.agent.trail.own
