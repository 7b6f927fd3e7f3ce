-- The law: compiled code stops as the source does. Both are definitions: the source's in `lua_meaning`, after the manual's section 3, and
-- the machine's in `lua_steps`; what is said of the two together is this project's own.
use Rattle.std.specs.Prelude.{◌≡◌, ℕ, ◌-◌, List, [], length}
use Rattle.lua_tree.specs.Source.{Block}
use Rattle.lua_value.specs.declared.value.Value.{Value}
use Rattle.lua_model.specs.Heap as model
use Rattle.lua_code.specs.Valid.{IsValid}
use Rattle.lua_meaning.specs.State as meaning
use Rattle.lua_meaning.specs.State.{State}
use Rattle.lua_meaning.specs.Until as meaning_until
use Rattle.lua_meaning.specs.Until.{Until, Asks}
use Rattle.lua_steps.specs.Machine as machine
use Rattle.lua_steps.specs.Machine.{Code, Machine, Off, Paused}
use Rattle.lua_steps.specs.Calls.{given}
use Rattle.lua_steps.specs.Exec.{opening}
use Rattle.lua_steps.specs.Run.{run}
use Rattle.lua_steps.specs.Serves.{Serves}
use Rattle.lua_follow.specs.Memory.{Homes, Cells, ClosesAll}
use Rattle.lua_follow.specs.Stands.{Beside, Waits}

-- ---- stops
-- what the machine has at its last stop
abbrev pub SameStop : meaning.Stop → machine.Stop → Type 0
SameStop (meaning.Return us) (machine.Return vs) = us ≡ vs
SameStop (meaning.Raise u) (machine.Raise v) = u ≡ v
SameStop meaning.Budget machine.Budget = Unit {0}
SameStop meaning.HeapFull machine.HeapFull = Unit {0}
SameStop _ _ = ⊥

-- the machine has what the state has, wherever frames had it
pub record Rests (code : Code) (m : Machine) (t : State) : Type 0 where
  pub homes : Homes
  pub cells : Cells homes m.cells t.store
  pub closures : ClosesAll code homes m.closures t.closures
  pub beside : Beside m.aside t.aside
  pub left : t.left ≡ m.left

-- after a budget is spent or a heap is full the service runs no more
abbrev pub RestsAt : Code → meaning.Stop → Machine → State → Type 0
RestsAt code (meaning.Return vs) m t = Rests code m t
RestsAt code (meaning.Raise v) m t = Rests code m t
RestsAt code x m t = m.aside.heap ≡ t.aside.heap

-- ---- the law
-- the machine comes to this stop of the state
pub record Stops (code : Code) (m : Machine) (x : meaning.Stop) (t : State) : Type 0 where
  pub n : ℕ
  pub stop : machine.Stop
  pub to : Machine
  pub runs : run n code m ≡ Off stop to
  pub same : SameStop x stop
  pub rests : RestsAt code x to t

-- The source comes to no term without a rule.
abbrev pub Meets : Code → Machine → meaning.Stop → State → Type 0
Meets code m meaning.NoRule t = ⊥
Meets code m x t = Stops code m x t

-- the machine comes to this call of the host, and waits as the state does
pub record Pauses (code : Code) (m : Machine) (c : meaning.NativeCall) (t : State) : Type 0 where
  pub n : ℕ
  pub to : Machine
  pub runs : run n code m ≡ Paused (record { called = c.called; args = c.args }) to
  pub waits : Waits code to t

pub record CodeFollows : Type 0 where
  -- where a thread begins, the machine waits as the state does
  pub opens : (code : Code) (chunk : Block) (name : List ℕ) (heap : model.Heap) (budget : ℕ) → Serves code chunk → IsValid code
      → Waits code (opening name (length code - 1) heap budget) (meaning_until.opening name chunk heap budget [])
  -- given its values, it stops as the state does
  pub stops : (code : Code) (m : Machine) (s t : State) (vs : List Value) (x : meaning.Stop) → IsValid code → Waits code m s
      → Until (meaning_until.given s vs) x t → Meets code (given m vs) x t
  -- or asks the host as it does
  pub asks : (code : Code) (m : Machine) (s t : State) (vs : List Value) (c : meaning.NativeCall) → IsValid code → Waits code m s
      → Asks (meaning_until.given s vs) c t → Pauses code (given m vs) c t
