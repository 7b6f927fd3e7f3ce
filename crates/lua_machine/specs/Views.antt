-- The parts of the machine, as contracts see them. They are this project's own.
use Rattle.std.specs.Prelude.{◌≡◌, ℕ, suc, Bool, true, false, List, [], Option, Some, None}
use Rattle.lua_code.specs.Routine.{Routine}
use Rattle.lua_steps.specs.Calls.{opened}
use Rattle.lua_machine.specs.declared.calls.Callee.{Callee}
use Rattle.lua_value.specs.declared.value.Value.{Value}
use Rattle.lua_steps.specs.Machine as steps
use Rattle.lua_steps.specs.Moves.{made}
use Rattle.lua_steps.specs.Exec.{closed}
use Rattle.lua_model.specs.Heap as model
use Rattle.lua_machine.specs.declared.state.Made.{Made}
use Rattle.lua_machine.specs.declared.state.Made.TheVariants as making
use Rattle.lua_machine.specs.declared.stop.Stop.{Stop}
use Rattle.lua_machine.specs.declared.stop.Stop.TheVariants as stop
use Rattle.lua_machine.specs.declared.stop.NativeCall.{NativeCall}
use Rattle.lua_machine.specs.declared.stop.Went.{Went}
use Rattle.lua_machine.specs.declared.stop.Went.TheVariants as went

abbrev pub call_of : NativeCall → steps.NativeCall
call_of c = record { called = c.called; args = c.args }

-- a stop, with the machine that it leaves
abbrev pub stops : Stop → steps.Machine → steps.Went
stops (stop.Native c) m = steps.Paused (call_of c) m
stops (stop.Return vs) m = steps.Off (steps.Return vs) m
stops (stop.Raise v) m = steps.Off (steps.Raise v) m
stops stop.Budget m = steps.Off steps.Budget m
stops stop.HeapFull m = steps.Off steps.HeapFull m

-- whether the thread ends there
abbrev pub ends : Stop → Bool
ends (stop.Native c) = false
ends (stop.Return vs) = true
ends (stop.Raise v) = true
ends stop.Budget = true
ends stop.HeapFull = true

-- what an operation leads to
abbrev pub says : Went → steps.Machine → steps.Went
says went.On m = steps.On m
says (went.Off x) m = stops x m
says went.Stuck m = steps.Stuck

-- what comes of a string, whatever it is made for
abbrev pub made_as : Made → steps.Machine → (Value → steps.Machine → steps.Went) → steps.Went
made_as (making.Text v) m go = go v m
made_as making.Budget m go = steps.Off steps.Budget m
made_as making.HeapFull m go = steps.Off steps.HeapFull m

pub record IsMade (bytes : List ℕ) (m : steps.Machine) (text : Made) (after : steps.Machine) : Type 0 where
  pub is : (go : Value → steps.Machine → steps.Went) → made bytes m go ≡ made_as text after go
  pub top : after.top ≡ m.top
  pub alone : after.aside.resumers ≡ []

-- what comes of a closure, whatever it is made for
abbrev pub closed_as : Option Value → steps.Machine → (Value → steps.Machine → steps.Went) → steps.Went
closed_as None m go = steps.Off steps.HeapFull m
closed_as (Some v) m go = go v m

pub record IsClosed (code : steps.Code) (function : ℕ) (m : steps.Machine) (closure : Option Value) (after : steps.Machine) : Type 0 where
  pub is : (go : Value → steps.Machine → steps.Went) → closed (model.charged model.closure_units m.aside.heap) code function go m ≡ closed_as closure after go
  pub top : after.top ≡ m.top

-- a call of a closure can be entered, or it cannot
abbrev pub opened_as : Option Routine → steps.Closure → List Value → ℕ → Option Callee → Type 0
opened_as None c vs base call = call ≡ None
opened_as (Some f) c vs base call = call ≡ Some (record { frame = opened c f vs base; shape = f.shape })

-- how many turns there are, by how many come after the first
abbrev pub turns_after : Option ℕ → ℕ
turns_after None = 0
turns_after (Some n) = suc n
