-- What runs, over inner calls or none, keeps its place. They are this project's own.
use Rattle.std.specs.Prelude.{◌≡◌, ℕ, List}
use Rattle.lua_steps.specs.Machine.{Closure}
use Rattle.lua_machine.specs.declared.call_info.CallInfo.{CallInfo}
use Rattle.lua_machine.specs.Nests.{over}
use Rattle.lua_machine.specs.Stack.{Stacked}

-- the frame that runs has come to this place
abbrev pub at_place : ℕ → Stacked → Stacked
at_place n s = record { top = record s.top { at = n }; below = s.below }

-- so many inner calls over these frames are those over the earlier ones, where what runs has come to this place
pub record KeepsPlace (inner at : ℕ) (calls : List CallInfo) (s : Stacked) (later : List CallInfo) (t : Stacked) : Type 0 where
  pub is : (cs : List Closure) → over cs later inner t ≡ at_place at (over cs calls inner s)
