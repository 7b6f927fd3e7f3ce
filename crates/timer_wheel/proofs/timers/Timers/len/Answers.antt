use Rattle.std.proofs.Common.{sym, ◌∙◌}
use Rattle.timer_wheel.proofs.Order.{length_in_order}
use Rattle.timer_wheel.proofs.timers.Timers.len.Goals as goal

pub returns : goal.returns
returns c = rw (← c.self.view_is) (c.len.ensures.len ∙ sym (length_in_order c.self.inside.waiting.entries))
