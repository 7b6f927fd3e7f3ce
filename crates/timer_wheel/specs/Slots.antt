-- The timers that wait, by the tick at which they fire, and by their numbers in the order of adding.
use Rattle.std.specs.Prelude.{ℕ, ◌≡◌, ◌<◌, ◌≤◌, ◌⊎◌, nat_le, nat_lt, if◌then◌else◌, List, [], ◌∷◌, map, Option, Some, None}
use Rattle.sk_types.specs.declared.number.Handle.{Handle}
use Rattle.sk_types.specs.declared.number.Session.{Session}
use Rattle.message.specs.declared.place.Timer.{Timer}
use Rattle.timer_wheel.specs.declared.timers.Slot.{Slot}

-- a timer goes to its place among those that stand in the order of adding
abbrev pub put_by_number : Slot × Timer → List (Slot × Timer) → List (Slot × Timer)
put_by_number e [] = e ∷ []
put_by_number e (x ∷ xs) = if nat_lt e.0.number x.0.number then e ∷ x ∷ xs else x ∷ put_by_number e xs

abbrev pub by_number : List (Slot × Timer) → List (Slot × Timer)
by_number [] = []
by_number (e ∷ es) = put_by_number e (by_number es)

-- the timers in the order of adding
abbrev pub in_order : List (Slot × Timer) → List Timer
in_order es = map (λ e. e.1) (by_number es)

-- the first timer, where it fires by this tick, and the others
abbrev pub first_due : ℕ → List (Slot × Timer) → Option Timer
first_due n [] = None
first_due n (e ∷ es) = if nat_le e.0.tick n then Some e.1 else None

abbrev pub after_first : ℕ → List (Slot × Timer) → List (Slot × Timer)
after_first n [] = []
after_first n (e ∷ es) = if nat_le e.0.tick n then es else e ∷ es

-- those at the front that fire by this tick, and the others
abbrev pub due_first : ℕ → List (Slot × Timer) → List (Handle × Session)
due_first n [] = []
due_first n (e ∷ es) = if nat_le e.0.tick n then (e.1.handle, e.1.session) ∷ due_first n es else []

abbrev pub after_due : ℕ → List (Slot × Timer) → List (Slot × Timer)
after_due n [] = []
after_due n (e ∷ es) = if nat_le e.0.tick n then after_due n es else e ∷ es

-- one slot stands before another
abbrev pub IsBefore : Slot → Slot → Type 0
IsBefore a b = (a.tick < b.tick) ⊎ ((a.tick ≡ b.tick) × (a.number < b.number))

abbrev pub IsBeforeAll : Slot → List (Slot × Timer) → Type 0
IsBeforeAll s [] = Unit {0}
IsBeforeAll s (e ∷ es) = IsBefore s e.0 × IsBeforeAll s es

-- a timer that waits fires at the first tick to come by which it is due
pub record Waits (clock added : ℕ) (e : Slot × Timer) : Type 0 where
  pub numbered : e.0.number < added
  pub to_come : clock < e.0.tick
  pub not_early : e.1.at ≤ e.0.tick
  pub not_late : (n : ℕ) → clock < n → e.1.at ≤ n → e.0.tick ≤ n

-- all wait, and stand by their slots
abbrev pub IsWheel : ℕ → ℕ → List (Slot × Timer) → Type 0
IsWheel clock added [] = Unit {0}
IsWheel clock added (e ∷ es) = Waits clock added e × IsBeforeAll e.0 es × IsWheel clock added es
