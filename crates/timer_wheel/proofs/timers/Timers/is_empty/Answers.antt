use Rattle.std.proofs.Common.{sym, ap, ◌∙◌, ◌==◌}
use Rattle.timer_wheel.proofs.Order.{length_in_order, is_none}
use Rattle.timer_wheel.proofs.timers.Timers.is_empty.Goals as goal

pub returns : goal.returns
returns c = rw (← c.self.view_is) (is_none c.is_empty.result _ c.is_empty.ensures ∙ ap (λ n. n == 0) (sym (length_in_order c.self.inside.waiting.entries)))
