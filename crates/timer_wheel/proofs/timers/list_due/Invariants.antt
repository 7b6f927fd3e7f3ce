use Rattle.std.proofs.Common.{◌≡◌, ◌++◌}
use Rattle.timer_wheel.specs.Slots.{due_first}
use Rattle.timer_wheel.proofs.timers.list_due.Given as goal

abbrev pub invariant-loop-slot : goal.invariant-loop-slot
invariant-loop-slot l = l.due ++ due_first l.now l.slot-iterator ≡ due_first l.now l.waiting.entries
