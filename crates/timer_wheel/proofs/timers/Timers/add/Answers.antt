use Rattle.std.proofs.Common.{ap, List, ◌+◌}
use Rattle.message.specs.declared.place.Timer.{Timer}
use Rattle.message.specs.Clocks.{Clock}
use Rattle.timer_wheel.proofs.Order.{added_last, added_wheel, waits}
use Rattle.timer_wheel.proofs.timers.Timers.add.Goals as goal

pub invariant_of-self-2 : goal.invariant_of-self-2
invariant_of-self-2 c =
    let t = c.self.inside in
    let new = waits t.clock t.added c.max.result (t.clock + c.from.result) c.args.handle c.args.session c.max.ensures in
    (c.self.invariant.0, rw c.in-Ok.ensures.entries (added_wheel _ _ t.clock t.waiting.entries new c.self.invariant.1))

pub returns-clause-ok : goal.returns-clause-ok
returns-clause-ok c =
    let t = c.self.inside in
    let F : List Timer → Clock = λ (ts : List Timer). record { now = t.clock; timers = ts } in
    let one : Timer = record { at = t.clock + c.from.result; handle = c.args.handle; session = c.args.session } in
    rw (← c.self.view_is, c.in-Ok.ensures.entries, ← c.from.ensures) (ap F (added_last t.clock (record { tick = c.max.result; number = t.added }) one t.waiting.entries c.self.invariant.1))
