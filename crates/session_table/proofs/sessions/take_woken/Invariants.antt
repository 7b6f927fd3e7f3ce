use Rattle.std.proofs.Common.{◌≡◌, length}
use Rattle.session_table.specs.Table.{first_woken, wakeups_left}
use Rattle.session_table.proofs.sessions.take_woken.Given as goal

abbrev pub invariant-wakeups : goal.invariant-wakeups
invariant-wakeups l = record {
  first : first_woken l.wakeups.items l.waits.entries ≡ first_woken l.fn.wakeups.items l.waits.entries;
  left : wakeups_left l.wakeups.items l.waits.entries ≡ wakeups_left l.fn.wakeups.items l.waits.entries;
}

abbrev pub decreases-wakeups : goal.decreases-wakeups
decreases-wakeups l = length l.wakeups.items
