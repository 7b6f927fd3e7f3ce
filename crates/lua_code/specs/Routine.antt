-- A function of the code, as contracts see it.
use Rattle.std.specs.Prelude.{ℕ, List}
use Rattle.lua_code.specs.declared.op.Op.{Op}
use Rattle.lua_code.specs.declared.function.Constant.{Constant}
use Rattle.lua_code.specs.declared.function.Capture.{Capture}
use Rattle.lua_code.specs.declared.function.Shape.{Shape}

pub record Routine : Type 0 where
  pub ops : List Op
  -- the line of each operation
  pub lines : List ℕ
  pub constants : List Constant
  pub captures : List Capture
  pub shape : Shape
