-- What was found so far.
use Rattle.std.proofs.Common.{◌≡◌, ℕ, ◌<◌, List, Some}
use Rattle.std.specs.Prelude.{slice_get}
use Rattle.lua_code.specs.declared.op.Op.{Op}
use Rattle.lua_code.specs.Routine.{Routine}
use Rattle.lua_code.specs.Valid.{Fits, IsValidFunction}

pub record FitBelow (code : List Routine) (f : Routine) (n : ℕ) : Type 0 where
  pub fit : (k : ℕ) (o : Op) → k < n → slice_get f.ops k ≡ Some o → Fits code f k o

pub record ValidBelow (code : List Routine) (n : ℕ) : Type 0 where
  pub each : (k : ℕ) (f : Routine) → k < n → slice_get code k ≡ Some f → IsValidFunction code f
