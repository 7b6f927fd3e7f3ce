-- The frames of the running thread, as contracts see them: those past the depth are dead, and kept for the next calls (as CallInfo in lstate.h).
use Rattle.std.specs.Prelude.{◌≡◌, Bool, true, false, ℕ, zero, suc, List, [], ◌∷◌, get_or, replicate}
use Rattle.lua_value.specs.declared.value.Value.TheVariants as value
use Rattle.lua_steps.specs.Machine.{Frame, Closure, Wanted, OnTop}
use Rattle.lua_steps.specs.Calls.{waiting}
use Rattle.lua_steps.specs.Exec.{fresh}

-- the frame that runs, and those that wait for it, the innermost first
pub record Stacked : Type 0 where
  pub top : Frame
  pub below : List Frame

abbrev pub frame_at : List Frame → ℕ → Frame
frame_at fs d = get_or fs d (fresh value.Nil)

-- the frames below a depth, the innermost first
abbrev pub under : ℕ → List Frame → List Frame
under zero fs = []
under (suc d) fs = frame_at fs d ∷ under d fs

abbrev pub stacked : List Frame → ℕ → Stacked
stacked fs d = record { top = frame_at fs d; below = under d fs }

-- whether a frame waits for the one that runs; it goes on in place of it
abbrev pub Left : Bool → Stacked → Stacked → Type 0
Left true s t = s.below ≡ t.top ∷ t.below
Left false s t = (s.below ≡ []) × (s ≡ t)

-- the frame of a call of a closure whose function has no `...`
abbrev pub plain : Closure → ℕ → ℕ → Frame
plain c cells base = record { function = c.function; at = 0; base = base; cells = replicate cells 0; ups = c.cells; dots = []; lists = []; wants = OnTop }

-- whether a frame is entered; the one that ran waits for its values
abbrev pub Reentered : Bool → Wanted → Frame → Stacked → Stacked → Type 0
Reentered true w f s t = t ≡ record { top = f; below = waiting w s.top ∷ s.below }
Reentered false w f s t = t ≡ s
