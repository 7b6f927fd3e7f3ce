use Rattle.std.proofs.Common.{◌≡◌, ◌+◌, length}
use Rattle.timer_wheel.specs.Slots.{due_first}
use Rattle.timer_wheel.proofs.timers.count_due.Given as goal

abbrev pub invariant-loop-slot : goal.invariant-loop-slot
invariant-loop-slot l = (l.count + length (due_first l.now l.slot-iterator) ≡ length (due_first l.now l.waiting.entries)) × (l.count + length l.slot-iterator ≡ length l.waiting.entries)
