use Rattle.std.proofs.Common.{◌≡◌, length}
use Rattle.schedule_core.specs.Turns.{AreEmpty}
use Rattle.schedule_core.proofs.turns.empty_hands.Given as goal

abbrev pub invariant-loop-worker : goal.invariant-loop-worker
invariant-loop-worker l = AreEmpty l.hands.items × (length l.hands.items ≡ l._worker)
