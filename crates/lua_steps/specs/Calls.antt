-- Calls and returns (manual, sections 3.3.4, 3.4.10 and 3.4.11). The windows of frames over one row are as in ldo.c.
use Rattle.std.specs.Prelude.{ℕ, zero, suc, ◌+◌, ◌-◌, ltb, Bool, if◌then◌else◌, List, [], ◌∷◌, ◌++◌, length, drop, Option, Some, None, slice_get, replicate}
use Rattle.lua_value.specs.declared.value.Value.{Value}
use Rattle.lua_value.specs.declared.value.Value.TheVariants as value
use Rattle.lua_value.specs.Lists.{adjusted}
use Rattle.lua_model.specs.declared.refusal.Refusal.TheVariants as refusal
use Rattle.lua_code.specs.declared.function.Shape.{Shape}
use Rattle.lua_code.specs.Routine.{Routine}
use Rattle.lua_steps.specs.Machine.{Code, Wanted, OnTop, Frame, Closure, Machine, NativeCall, Budget, Went, On, Off, Paused, Stuck}
use Rattle.lua_steps.specs.Moves.{written, paid, refused, received, finish}

-- ---- a body begins
-- a frame has at least the slots that a short operand can name
abbrev pub room : Shape → ℕ
room shape = if ltb shape.slots 256 then 256 else shape.slots

-- the row has so many values at least
abbrev pub grown : ℕ → List Value → List Value
grown n row = row ++ replicate (n - length row) value.Nil

abbrev pub rest_of : Bool → ℕ → List Value → List Value
rest_of has_dots n vs = if has_dots then drop n vs else []

abbrev pub opened : Closure → Routine → List Value → ℕ → Frame
opened c f vs base =
    record {
      function = c.function;
      at = 0;
      base = base;
      cells = replicate f.shape.cells 0;
      ups = c.cells;
      dots = rest_of f.shape.has_dots f.shape.params vs;
      lists = [];
      wants = OnTop;
    }

-- the arguments become the first slots, and the entry pays its ticks
abbrev pub begins : Option Routine → Closure → List Value → ℕ → List Frame → Machine → Went
begins None c vs base below m = Stuck
begins (Some f) c vs base below m =
    paid f.shape.pay m (λ t. On (record t {
      top = opened c f vs base;
      below = below;
      row = written (grown (base + room f.shape) t.row) base (adjusted f.shape.params vs);
    }))

-- a closure that was made is entered, with its slots from `base` on and these frames below it; any other function is refused
abbrev pub enter : Code → Option Closure → Option ℕ → Value → List Value → ℕ → List Frame → Machine → Went
enter code None line f vs base below m = refused line (refusal.Call f) m
enter code (Some c) line f vs base below m = begins (slice_get code c.function) c vs base below m

-- ---- calls
-- the host is called, which costs a tick, and the machine waits for its results
abbrev pub asked : ℕ → NativeCall → Machine → Went
asked zero c m = Off Budget m
asked (suc n) c m = Paused c (record m { left = n })

-- A call with these arguments, for which the frame `waits` waits; the callee's slots begin at `base`.
-- A closure that was made is entered; the host's is asked; all else is refused.
abbrev pub calls : Code → Option ℕ → Value → List Value → ℕ → Frame → Machine → Went
calls code line (value.Func k) vs base waits m = enter code (slice_get m.closures k) line (value.Func k) vs base (waits ∷ m.below) m
calls code line (value.Native k) vs base waits m = asked m.left (record { called = value.Native k; args = vs }) (record m { top = waits })
calls code line f vs base waits m = refused line (refusal.Call f) m

-- a tail call of a closure: the body that runs is left first, and the called one serves its call
abbrev pub tail_calls : Code → ℕ → Value → List Value → ℕ → Frame → Machine → Went
tail_calls code line (value.Func k) vs base waits m = enter code (slice_get m.closures k) (Some line) (value.Func k) vs m.top.base m.below m
tail_calls code line f vs base waits m = calls code (Some line) f vs base waits m

-- the frame that runs, as it waits for a call: it will go on after it
abbrev pub waiting : Wanted → Frame → Frame
waiting w f = record f { at = f.at + 1; wants = w }

-- ---- returns
-- these values are the results of the body that runs
abbrev pub hand : List Value → List Frame → Machine → Went
hand vs [] m = finish m.aside.resumers vs m
hand vs (f ∷ fs) m = On (received f.wants vs (record m { top = f; below = fs }))

-- a machine that waits for the host is given its results
abbrev pub given : Machine → List Value → Machine
given m vs = received m.top.wants vs m
