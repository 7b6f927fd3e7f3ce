-- A number that falls with each operation of valid code, so that a run ends. It is this project's own.
use Rattle.std.specs.Prelude.{◌≡◌, ℕ, ◌+◌, ◌-◌, ◌*◌, ◌<◌, List, [], ◌∷◌, length}
use Rattle.lua_code.specs.Valid.{IsValid}
use Rattle.lua_steps.specs.Machine.{Code, Frame, Resumer, Machine, On}
use Rattle.lua_steps.specs.Exec.{exec}

-- how many operations there are
abbrev pub total : Code → ℕ
total [] = 0
total (f ∷ fs) = length f.ops + total fs

-- the operations that frames which wait have before them, of n at most
abbrev pub to_come : ℕ → List Frame → ℕ
to_come n [] = 0
to_come n (f ∷ fs) = (n + 1 - f.at) + to_come n fs

abbrev pub to_come_above : ℕ → List Resumer → ℕ
to_come_above n [] = 0
to_come_above n (r ∷ rs) = (n + 1 - r.top.at) + to_come n r.below + to_come_above n rs

-- a tick counts as more than all operations
abbrev pub rank : ℕ → Machine → ℕ
rank n m = m.left * (n + 2) + (n - m.top.at) + to_come n m.below + to_come_above n m.aside.resumers

abbrev pub MeasureFalls : Type 0
MeasureFalls = (code : Code) (m t : Machine) → IsValid code → exec code m ≡ On t → rank (total code) t < rank (total code) m
