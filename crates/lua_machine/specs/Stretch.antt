-- Stretches of quick operations, calls and returns, which have the frames, the row and the pace in hand. They are this project's own.
use Rattle.std.specs.Prelude.{◌≡◌, ℕ, ◌+◌, ◌<◌, Bool, true, false, List, ◌∷◌, length}
use Rattle.lua_value.specs.declared.value.Value.{Value}
use Rattle.lua_code.specs.declared.op.Op.{Op}
use Rattle.lua_steps.specs.Machine.{Code, Closure, Frame, Wanted, Machine, On}
use Rattle.lua_steps.specs.Calls.{waiting}
use Rattle.lua_steps.specs.Exec.{perform}
use Rattle.lua_machine.specs.declared.pace.Pace.{Pace}
use Rattle.lua_machine.specs.Runs.{Runs}
use Rattle.lua_machine.specs.Stack.{Stacked, stacked}

-- the machine with these frames, this row and these cells, at this pace
abbrev pub at_work : Stacked → List Value → List Value → Pace → Machine → Machine
at_work s row cells pace m = record m { top = record s.top { at = pace.at }; below = s.below; row = row; cells = cells; left = pace.left }

-- some number of operations leads from there to there, whatever else the machine has beside these closures
pub record Stretched (code : Code) (closures : List Closure) (s : Stacked) (row cells : List Value) (pace : Pace) (t : Stacked) (after later : List Value) (then_at : Pace) : Type 0 where
  pub is : (m : Machine) → m.closures ≡ closures → Runs code (at_work s row cells pace m) (On (at_work t after later then_at m))

-- an operation does
pub record Goes (code : Code) (closures : List Closure) (o : Op) (s : Stacked) (row : List Value) (pace : Pace) (t : Stacked) (after : List Value) (then_at : Pace) : Type 0 where
  pub is : (m : Machine) (cells : List Value) → m.closures ≡ closures → perform code o (at_work s row cells pace m) ≡ On (at_work t after cells then_at m)

-- whether a frame is entered; the one at that depth, which had come to that place, waits for its values
abbrev pub Enters : Bool → Wanted → Frame → ℕ → List Frame → ℕ → List Frame → Type 0
Enters true w f at fs d gs =
    (stacked gs (d + 1) ≡ record { top = f; below = waiting w (record (stacked fs d).top { at = at }) ∷ (stacked fs d).below }) × (d + 1 < length gs)
Enters false w f at fs d gs = stacked gs d ≡ stacked fs d

-- some number of operations leads from these frames to those
pub record Hurried (code : Code) (closures : List Closure) (s : Stacked) (row cells : List Value) (left : ℕ) (t : Stacked) (after later : List Value) (left_over : ℕ) : Type 0 where
  pub is : (m : Machine) → m.closures ≡ closures
      → Runs code (record m { top = s.top; below = s.below; row = row; cells = cells; left = left }) (On (record m { top = t.top; below = t.below; row = after; cells = later; left = left_over }))
