-- The laws of small steps, for every state.
use Rattle.std.specs.Prelude.{◌≡◌, ℕ, ◌<◌, ◌≤◌, ◌⊎◌}
use Rattle.lua_meaning.specs.State.{State, Stop, NativeCall, Step, Next, Halt, Pause}
use Rattle.lua_meaning.specs.Reduce.{reduce}
use Rattle.lua_meaning.specs.Until.{Until, Asks}
use Rattle.lua_meaning.specs.Size.{size}

-- ---- one step, and one stop

-- the state comes to a stop or to a call of the host
abbrev pub Ends : State → Type 0
Ends s = ((x : Stop) × (t : State) × Until s x t) ⊎ ((c : NativeCall) × (t : State) × Asks s c t)

pub record StepIsDetermined : Type 0 where
  -- each state comes to a stop or a call of the host
  pub ends : (s : State) → Ends s
  -- and to one alone
  pub one_stop : (s : State) (x y : Stop) (t u : State) → Until s x t → Until s y u → (x ≡ y) × (t ≡ u)
  pub one_call : (s : State) (c d : NativeCall) (t u : State) → Asks s c t → Asks s d u → (c ≡ d) × (t ≡ u)
  pub not_both : (s : State) (x : Stop) (c : NativeCall) (t u : State) → Until s x t → Asks s c u → ⊥

-- ---- ticks

-- a step from n unfinished terms and these ticks pays a tick, or leaves fewer terms
abbrev pub Lighter : ℕ → ℕ → Step → Type 0
Lighter n left (Next t) = (t.left < left) ⊎ ((t.left ≡ left) × (size t < n))
Lighter n left (Halt x t) = t.left ≤ left
Lighter n left (Pause c t) = t.left < left

abbrev pub BudgetFalls : Type 0
BudgetFalls = (s : State) → Lighter (size s) s.left (reduce s)

-- ---- units

-- a step leaves at least these units
abbrev pub Rises : ℕ → Step → Type 0
Rises units (Next t) = units ≤ t.aside.heap.units
Rises units (Halt x t) = units ≤ t.aside.heap.units
Rises units (Pause c t) = units ≤ t.aside.heap.units

abbrev pub UnitsRise : Type 0
UnitsRise = (s : State) → Rises s.aside.heap.units (reduce s)
