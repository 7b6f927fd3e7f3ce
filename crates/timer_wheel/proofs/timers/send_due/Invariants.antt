use Rattle.std.proofs.Common.{◌≡◌, ◌≤◌, ◌+◌, ◌++◌, length}
use Rattle.std.specs.VecDeque.{deque_len, deque_capacity}
use Rattle.timer_wheel.specs.Slots.{due_first, after_due}
use Rattle.timer_wheel.proofs.timers.send_due.Given as goal

abbrev pub invariant-loop-timer : goal.invariant-loop-timer
invariant-loop-timer l =
    (l.out.items ++ due_first l.now l.waiting.entries ≡ l.fn.out.items ++ due_first l.now l.fn.waiting.entries)
    × (deque_len l.out + length (due_first l.now l.waiting.entries) ≤ deque_capacity l.out)
    × (after_due l.now l.waiting.entries ≡ after_due l.now l.fn.waiting.entries)

abbrev pub decreases-loop-timer : goal.decreases-loop-timer
decreases-loop-timer l = length l.waiting.entries
