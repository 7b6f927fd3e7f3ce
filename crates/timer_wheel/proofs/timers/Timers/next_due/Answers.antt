use Rattle.std.proofs.Common.{ap, sym, ◌∙◌, length}
use Rattle.timer_wheel.proofs.Falling.{falls}
use Rattle.timer_wheel.proofs.timers.Timers.next_due.Goals as goal

pub returns : goal.returns
returns c =
    let t = c.self.inside in
    rw (← c.self.view_is) (c.count_due.ensures ∙ sym (ap length (falls t.clock t.added t.waiting.entries c.self.invariant.1)))
