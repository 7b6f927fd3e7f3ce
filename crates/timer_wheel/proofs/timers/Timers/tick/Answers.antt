use Rattle.std.proofs.Common.{◌++◌, ◌+◌, ◌<◌, ◌≤◌, ap, sym, subst, List, length, ◌∙◌, arith}
use Rattle.std.specs.VecDeque.{deque_len, deque_capacity}
use Rattle.sk_types.specs.declared.number.Handle.{Handle}
use Rattle.sk_types.specs.declared.number.Session.{Session}
use Rattle.message.specs.declared.place.Timer.{Timer}
use Rattle.message.specs.Clocks.{Clock, due_at, last_tick}
use Rattle.timer_wheel.proofs.Falling.{falls, stays, wheel_after}
use Rattle.timer_wheel.proofs.timers.Timers.tick.Goals as goal

pub send_due-requires : goal.send_due-requires
send_due-requires c =
    let t = c.self.inside in
    let out = c.args.out.now in
    let room = subst (λ (v : Clock). deque_len out + length (due_at (v.now + 1) v.timers) ≤ deque_capacity out) (sym c.self.view_is) c.requires.room in
    record { room = subst (λ (ds : List (Handle × Session)). deque_len out + length ds ≤ deque_capacity out) (falls t.clock t.added t.waiting.entries c.self.invariant.1) room }

pub invariant_of-self : goal.invariant_of-self
invariant_of-self c =
    let t = c.self.inside in
    let more : t.clock < last_tick = subst (λ (v : Clock). v.now < last_tick) (sym c.self.view_is) c.requires.clock in
    (omega (arith, more), rw c.send_due.ensures.left (wheel_after t.clock t.added t.waiting.entries c.self.invariant.1))

pub returns-clause-after : goal.returns-clause-after
returns-clause-after c =
    let t = c.self.inside in
    let F : List Timer → Clock = λ (ts : List Timer). record { now = t.clock + 1; timers = ts } in
    rw (← c.self.view_is, c.send_due.ensures.left) (ap F (sym (stays t.clock t.added t.waiting.entries c.self.invariant.1)))

pub returns-clause-due : goal.returns-clause-due
returns-clause-due c =
    let t = c.self.inside in
    let F : List (Handle × Session) → List (Handle × Session) = λ (ds : List (Handle × Session)). c.args.out.now.items ++ ds in
    rw (← c.self.view_is) (c.send_due.ensures.due ∙ ap F (sym (falls t.clock t.added t.waiting.entries c.self.invariant.1)))
