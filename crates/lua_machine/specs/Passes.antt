-- Calls and returns that take nothing new: the arguments and the results stay in the row.
use Rattle.std.specs.Prelude.{◌≡◌, ℕ, ◌+◌, ◌≤◌, Bool, true, false, ltb}
use Rattle.lua_code.specs.declared.function.Shape.{Shape}
use Rattle.lua_steps.specs.Machine.{Machine, Went, On}
use Rattle.lua_steps.specs.Calls.{room}

-- whether an operation that leads to this is done; else nothing is
abbrev pub Passed : Bool → Went → Machine → Machine → Type 0
Passed true w m t = w ≡ On t
Passed false w m t = t ≡ m

-- a body can begin with so many arguments that stand from a place of the row on, with so many ticks left
pub record Fits (shape : Shape) (args place long left : ℕ) : Type 0 where
  pub no_dots : shape.has_dots ≡ false
  pub filled : shape.params ≤ args
  pub long_enough : place + room shape ≤ long
  pub paid : ltb left shape.pay ≡ false

abbrev pub FitsIf : Bool → Shape → ℕ → ℕ → ℕ → ℕ → Type 0
FitsIf true shape args place long left = Fits shape args place long left
FitsIf false shape args place long left = Unit {0}
