-- Calls within a stretch that need no frame of their own. They are this project's own.
use Rattle.std.specs.Prelude.{◌≡◌, ℕ, zero, suc, ◌+◌, ◌<◌, ◌≤◌, Bool, true, false, if◌then◌else◌, List, [], ◌∷◌, length, Option, Some, None, get_or, slice_get}
use Rattle.lua_value.specs.declared.value.Value.{Value}
use Rattle.lua_value.specs.Lists.{adjusted}
use Rattle.lua_code.specs.Routine.{Routine}
use Rattle.lua_code.specs.Valid.{IsValid}
use Rattle.lua_code.specs.declared.op.Op.{Op}
use Rattle.lua_code.specs.declared.op.Op.TheVariants as op
use Rattle.lua_steps.specs.Machine.{Code, Closure, Frame, Wanted, InSlots, OnTop, Machine, On}
use Rattle.lua_steps.specs.Moves.{written, values_from}
use Rattle.lua_steps.specs.Calls.{waiting}
use Rattle.lua_steps.specs.Exec.{perform}
use Rattle.lua_steps.specs.Measure.{total, rank, MeasureFalls}
use Rattle.lua_machine.specs.declared.call_info.CallInfo.{CallInfo}
use Rattle.lua_machine.specs.declared.call_info.Owner.{Owner}
use Rattle.lua_machine.specs.declared.call_info.Owner.TheVariants as owner
use Rattle.lua_machine.specs.declared.pace.Pace.{Pace}
use Rattle.lua_machine.specs.declared.pace.Pass.{Pass}
use Rattle.lua_machine.specs.declared.pace.Pass.TheVariants as pass
use Rattle.lua_machine.specs.Stack.{Stacked}
use Rattle.lua_machine.specs.Stretch.{at_work, Stretched, Goes}

-- ---- the frames that inner calls stand for
-- the cells of a closure, where there is one
abbrev pub cells_in : Option Closure → List ℕ
cells_in None = []
cells_in (Some c) = c.cells

-- the function of a closure, where there is one
abbrev pub function_in : Option Closure → Option ℕ
function_in None = None
function_in (Some c) = Some c.function

-- the cells of the closure with this number; none where the heap gave none
abbrev pub cells_under : List Closure → ℕ → List ℕ
cells_under cs c = cells_in (slice_get cs c)

-- where the values go that it waits for, once it has waited
abbrev pub wants_of : CallInfo → Wanted
wants_of c = if c.has_called then InSlots c.to c.count else OnTop

-- the frame that an inner call stands for: its function has no cells of its own and no `...`, and no list is under construction
abbrev pub frame_of : List Closure → CallInfo → Frame
frame_of cs c = record { function = c.function; at = c.at; base = c.base; cells = []; ups = cells_under cs c.closure; dots = []; lists = []; wants = wants_of c }

-- the frame that an inner call stands for as it begins
abbrev pub entered : List Closure → ℕ → ℕ → ℕ → Frame
entered cs function closure base = record { function = function; at = 0; base = base; cells = []; ups = cells_under cs closure; dots = []; lists = []; wants = OnTop }

-- the inner call at a depth; past the end of the list, what a contract reads there
abbrev pub call_at : List CallInfo → ℕ → CallInfo
call_at calls d = get_or calls d (record { function = 0; closure = 0; at = 0; base = 0; has_called = false; to = 0; count = 0 })

-- the frames below the inner call at a depth: those of the inner calls before it, and these
abbrev pub beneath : List Closure → List CallInfo → ℕ → Stacked → List Frame
beneath cs calls zero s = s.top ∷ s.below
beneath cs calls (suc d) s = frame_of cs (call_at calls d) ∷ beneath cs calls d s

-- the inner call at a depth runs, over these frames
abbrev pub nested : List Closure → List CallInfo → ℕ → Stacked → Stacked
nested cs calls d s = record { top = frame_of cs (call_at calls d); below = beneath cs calls d s }

-- so many inner calls, over these frames
abbrev pub over : List Closure → List CallInfo → ℕ → Stacked → Stacked
over cs calls zero s = s
over cs calls (suc d) s = nested cs calls d s

-- ---- whose cells are in hand
abbrev pub own_in : Owner → List ℕ
own_in (owner.Frame f) = f.now.cells
own_in (owner.Closure c) = []

abbrev pub ups_in : Owner → List Closure → List ℕ
ups_in (owner.Frame f) cs = f.now.ups
ups_in (owner.Closure c) cs = cells_under cs c

-- the heap gave this closure, of this function
abbrev pub IsMade : List Closure → ℕ → ℕ → Type 0
IsMade cs closure function = function_in (slice_get cs closure) ≡ Some function

-- the body is one of this function
abbrev pub IsOwner : Owner → List Closure → ℕ → Type 0
IsOwner (owner.Frame f) cs function = f.now.function ≡ function
IsOwner (owner.Closure c) cs function = IsMade cs c function

-- its closure is in the heap
abbrev pub IsThere : Owner → List Closure → Type 0
IsThere (owner.Frame f) cs = Unit {0}
IsThere (owner.Closure c) cs = c < length cs

-- ---- what calls and returns do
-- a call from a frame whose slots begin at a place begins a function's body so, with these cells and slots
pub record Begins (code : Code) (cs : List Closure) (row : List Value) (from base args left function closure place left_over : ℕ) : Type 0 where
  pub is : (m : Machine) (results : ℕ) → m.closures ≡ cs → m.row ≡ row → m.top.base ≡ from → m.left ≡ left
      → perform code (op.Call base args results) m ≡ On (record m { top = entered cs function closure place; below = waiting (InSlots base results) m.top ∷ m.below; left = left_over })
  pub made : IsMade cs closure function

-- so many values from a place of the row on are handed to the `n` places from `to` on, or nothing is
abbrev pub HandedTo : Bool → ℕ → ℕ → ℕ → ℕ → List Value → List Value → Type 0
HandedTo true n to from count row after = after ≡ written row to (adjusted n (values_from row from count))
HandedTo false n to from count row after = after ≡ row

-- they are handed to a frame that wants them so, if it wants them in slots
abbrev pub HandedIf : Bool → Wanted → ℕ → ℕ → ℕ → List Value → List Value → Type 0
HandedIf done (InSlots to n) base from count row after = HandedTo done n (base + to) from count row after
HandedIf true OnTop base from count row after = ⊥
HandedIf false OnTop base from count row after = after ≡ row

-- ---- runs
-- these are the operations of a function, whose slots begin at a place of the row, which is so long and has them all
pub record Runnable (code : Code) (function : ℕ) (ops : List Op) (base long : ℕ) : Type 0 where
  pub routine : Routine
  pub is : slice_get code function ≡ Some routine
  pub has : ops ≡ routine.ops
  pub room : base + routine.shape.slots ≤ long

-- an inner call that waits can run on: it has a closure and a function, the row has its slots, with those that take the values, and its
-- place is there
pub record CanResume (code : Code) (cs : List Closure) (row : List Value) (c : CallInfo) : Type 0 where
  pub made : IsMade cs c.closure c.function
  pub routine : Routine
  pub is : slice_get code c.function ≡ Some routine
  pub room : c.base + routine.shape.slots ≤ length row
  pub place : c.at < length routine.ops
  pub called : c.has_called ≡ true
  pub takes : c.base + c.to + c.count ≤ length row

-- so can all below a depth
pub record AllResume (code : Code) (cs : List Closure) (calls : List CallInfo) (row : List Value) (d : ℕ) : Type 0 where
  pub each : (i : ℕ) → i < d → CanResume code cs row (call_at calls i)

-- the inner call at a depth can run on at a place: these are its function, its closure, where its slots begin, and its operations
pub record Ready (code : Code) (cs : List Closure) (calls : List CallInfo) (row : List Value) (d function closure base : ℕ) (ops : List Op) (at : ℕ) : Type 0 where
  pub within : d < length calls
  pub serves : function ≡ (call_at calls d).function
  pub closes : closure ≡ (call_at calls d).closure
  pub begins : base ≡ (call_at calls d).base
  pub made : IsMade cs closure function
  pub runs : Runnable code function ops base (length row)
  pub place : at < length ops
  pub below : AllResume code cs calls row d

-- the slots that a call or a return takes are within the row, which is so long, and a call has an operation after it
abbrev pub Reaches : Pass → ℕ → ℕ → ℕ → ℕ → Type 0
Reaches (pass.Call b args results) base long at count = (base + b < long) × (base + b + results ≤ long) × (at + 1 < count)
Reaches (pass.Return from n) base long at count = base + from + n ≤ long
Reaches pass.Neither base long at count = Unit {0}

-- an operation leads from one inner call to another, whatever frames they stand on
pub record Nests (code : Code) (cs : List Closure) (o : Op) (calls : List CallInfo) (d : ℕ) (row : List Value) (pace : Pace) (later : List CallInfo) (e : ℕ) (after : List Value) (then_at : Pace) : Type 0 where
  pub is : (s : Stacked) → Goes code cs o (nested cs calls d s) row pace (nested cs later e s) after then_at

-- some number of operations does
pub record Nested (code : Code) (cs : List Closure) (calls : List CallInfo) (d : ℕ) (row cells : List Value) (pace : Pace) (later_calls : List CallInfo) (e : ℕ) (after later : List Value) (then_at : Pace) : Type 0 where
  pub is : (s : Stacked) → Stretched code cs (nested cs calls d s) row cells pace (nested cs later_calls e s) after later then_at

-- at least one operation leads from there to there
pub record Advanced (code : Code) (cs : List Closure) (s : Stacked) (row cells : List Value) (pace : Pace) (t : Stacked) (after later : List Value) (then_at : Pace) : Type 0 where
  pub is : Stretched code cs s row cells pace t after later then_at
  pub falls : MeasureFalls → IsValid code → (m : Machine) → m.closures ≡ cs → rank (total code) (at_work t after later then_at m) < rank (total code) (at_work s row cells pace m)
