-- What is done at the clock (skynet_timer.c, with ticks that are handed in).
use Rattle.std.specs.Prelude.{ℕ, ◌+◌, nat_lt, nat_le, not, List, [], ◌∷◌, ◌++◌, map, Option, Some, None, if◌then◌else◌}
use Rattle.std.specs.List.{filter}
use Rattle.sk_types.specs.declared.number.Handle.{Handle}
use Rattle.sk_types.specs.declared.number.Session.{Session}
use Rattle.message.specs.declared.place.Timer.{Timer}
use Rattle.message.specs.declared.record.What.{What}
use Rattle.message.specs.declared.record.What.TheVariants as did

-- the ticks that have passed, and the timers that wait, in the order of adding
pub record Clock : Type 0 where
  pub now : ℕ
  pub timers : List Timer

-- the clock stops here
abbrev pub last_tick : ℕ
last_tick = 1000000000

-- a timer for the handle, so many ticks from now
abbrev pub add : Clock → ℕ → Handle → Session → Clock
add c ticks own session = record { now = c.now; timers = c.timers ++ record { at = c.now + ticks; handle = own; session = session } ∷ [] }

-- those whose time has come at this tick, and those that wait on, in the order of adding
abbrev pub due_at : ℕ → List Timer → List (Handle × Session)
due_at n ts = map (λ t. (t.handle, t.session)) (filter (λ t. nat_le t.at n) ts)

abbrev pub later_than : ℕ → List Timer → List Timer
later_than n ts = filter (λ t. not (nat_le t.at n)) ts

-- the clock goes up by one
abbrev pub ticked : Clock → Clock
ticked c = record { now = c.now + 1; timers = later_than (c.now + 1) c.timers }

-- there is a tick only while a timer waits
abbrev pub tick : Clock → List Timer → Option (What × Clock)
tick c [] = None
tick c (t ∷ ts) = if nat_lt c.now last_tick then Some (did.Tick (due_at (c.now + 1) c.timers), ticked c) else None
