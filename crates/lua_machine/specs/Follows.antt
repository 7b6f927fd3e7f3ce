-- How a machine that waits as a state of the source does goes on as the state does. A state is one of lua_meaning's.
use Rattle.std.specs.Prelude.{◌≡◌, ℕ, true, List, []}
use Rattle.lua_tree.specs.Source.{Block}
use Rattle.lua_value.specs.declared.value.Value.{Value}
use Rattle.lua_meaning.specs.State as meaning
use Rattle.lua_meaning.specs.State.{State}
use Rattle.lua_meaning.specs.Until.{Until, Asks, given, opening}
use Rattle.lua_steps.specs.Machine as steps
use Rattle.lua_steps.specs.Serves.{Serves}
use Rattle.lua_follow.specs.Stands.{Waits}
use Rattle.lua_follow.specs.Follows.{Rests}
use Rattle.lua_machine.specs.declared.stop.Stop.{Stop}
use Rattle.lua_machine.specs.declared.stop.Stop.TheVariants as stop
use Rattle.lua_machine.specs.declared.stop.GoError.{GoError}
use Rattle.lua_machine.specs.declared.stop.GoError.TheVariants as error
use Rattle.lua_machine.specs.Runs.{Loaded}

-- The state comes to this stop, and the machine has what it has there: where it asks the host, the machine waits as the state does.
abbrev pub StopsAs : steps.Code → State → Stop → steps.Machine → Type 0
StopsAs code s (stop.Native c) m = (t : State) × Asks s (record { called = c.called; args = c.args }) t × Waits code m t
StopsAs code s (stop.Return vs) m = (t : State) × Until s (meaning.Return vs) t × Rests code m t
StopsAs code s (stop.Raise v) m = (t : State) × Until s (meaning.Raise v) t × Rests code m t
StopsAs code s stop.Budget m = (t : State) × Until s meaning.Budget t × (m.aside.heap ≡ t.aside.heap)
StopsAs code s stop.HeapFull m = (t : State) × Until s meaning.HeapFull t × (m.aside.heap ≡ t.aside.heap)

-- each state as which the machine waited, given these values, stops so
abbrev pub Follows : steps.Code → steps.Machine → List Value → Stop → steps.Machine → Type 0
Follows code m vs x to = (s : State) → Waits code m s → StopsAs code (given s vs) x to

-- It is stuck only where it waited as no state of the source does.
abbrev pub UnwaitedIf : GoError → steps.Code → steps.Machine → Type 0
UnwaitedIf error.Stuck code m = (s : State) → Waits code m s → ⊥
UnwaitedIf _ code m = Unit {0}

-- where the code serves a chunk, the machine waits as the chunk does before it begins
abbrev pub Opens : List ℕ → ℕ → ℕ → Loaded → Type 0
Opens name budget units m =
    (chunk : Block) → Serves m.code chunk → Waits m.code m.machine (opening name chunk (record { texts = []; units = 0; limit = units; counts = true }) budget [])

-- each state as which the machine waited has these ticks left
abbrev pub BeginsAnew : steps.Code → ℕ → steps.Machine → steps.Machine → Type 0
BeginsAnew code budget m to = (s : State) → Waits code m s → Waits code to (record s { left = budget })
