use Rattle.timer_wheel.proofs.Falling.{falls}
use Rattle.timer_wheel.proofs.timers.Timers.due.Goals as goal

pub returns : goal.returns
returns c =
    let t = c.self.inside in
    rw (← c.self.view_is, falls t.clock t.added t.waiting.entries c.self.invariant.1) c.list_due.ensures
