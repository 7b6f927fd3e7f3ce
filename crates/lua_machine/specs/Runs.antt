-- A machine with its code, and its runs. They are this project's own.
use Rattle.std.specs.Prelude.{◌≡◌, ℕ, ◌-◌, Bool, true, false, List, [], length}
use Rattle.lua_steps.specs.Machine as steps
use Rattle.lua_steps.specs.Exec.{opening}
use Rattle.lua_steps.specs.Run.{run}
use Rattle.lua_machine.specs.declared.stop.GoError.{GoError}
use Rattle.lua_machine.specs.declared.stop.GoError.TheVariants as error

pub record Loaded : Type 0 where
  pub code : steps.Code
  -- the ticks of a message
  pub budget : ℕ
  -- whether it has ended or failed, and runs no more
  pub spent : Bool
  pub machine : steps.Machine

-- a machine that has not run: its heap holds the chunk's closure, and counts units from here on
abbrev pub loaded : steps.Code → List ℕ → ℕ → ℕ → Loaded
loaded code name budget units =
    record {
      code = code;
      budget = budget;
      spent = false;
      machine = opening name (length code - 1) (record { texts = []; units = 0; limit = units; counts = true }) budget;
    }

-- some number of operations leads there
pub record Runs (code : steps.Code) (m : steps.Machine) (to : steps.Went) : Type 0 where
  pub count : ℕ
  pub is : run count code m ≡ to

-- where the machine says that it is stuck, the code comes to an operation that it cannot do
abbrev pub StuckIf : GoError → steps.Code → steps.Machine → Type 0
StuckIf error.Stuck code m = Runs code m steps.Stuck
StuckIf _ code m = Unit {0}

-- where it says that it is spent, it was so before, and where it says something else, it was not
abbrev pub SpentIf : GoError → Bool → Type 0
SpentIf error.Spent spent = spent ≡ true
SpentIf _ spent = spent ≡ false
