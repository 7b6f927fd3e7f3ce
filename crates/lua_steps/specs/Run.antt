-- Many operations, and what a run gives. It is this project's own.
use Rattle.std.specs.Prelude.{ℕ, zero, suc}
use Rattle.lua_value.specs.declared.value.Value.{Value}
use Rattle.lua_value.specs.declared.value.Value.TheVariants as value
use Rattle.lua_model.specs.Texts.{bytes_at}
use Rattle.lua_meaning.specs.Worked.{Outcome, Values, Error, NoTicks, NoUnits, Other}
use Rattle.lua_steps.specs.Machine.{Code, Machine, Stop, Return, Raise, Budget, HeapFull, Went, On, Off, Paused, Stuck}
use Rattle.lua_steps.specs.Exec.{exec}

abbrev pub then_on : Went → (Machine → Went) → Went
then_on (On m) go = go m
then_on (Off x m) go = Off x m
then_on (Paused c m) go = Paused c m
then_on Stuck go = Stuck

-- n operations
abbrev pub run : ℕ → Code → Machine → Went
run zero code m = On m
run (suc n) code m = then_on (exec code m) (run n code)

-- ---- what a run gives, in the words of the meaning
abbrev pub error_of : Value → Machine → Outcome
error_of (value.Text k) m = Error (bytes_at m.aside.heap.texts k)
error_of _ m = Other

abbrev pub stopped : Stop → Machine → Outcome
stopped (Return vs) m = Values vs
stopped (Raise v) m = error_of v m
stopped Budget m = NoTicks
stopped HeapFull m = NoUnits

abbrev pub outcome_of : Went → Outcome
outcome_of (On m) = Other
outcome_of (Off x m) = stopped x m
outcome_of (Paused c m) = Other
outcome_of Stuck = Other
