-- A call of a value that is no function.
use Rattle.std.proofs.Common.{◌≡◌, ℕ, List, Option, refl}
use Rattle.lua_value.specs.declared.value.Value.{Value}
use Rattle.lua_value.specs.declared.value.Value.TheVariants as value
use Rattle.lua_model.specs.declared.refusal.Refusal.TheVariants as refusal
use Rattle.lua_steps.specs.Machine.{Code, Frame, Machine}
use Rattle.lua_steps.specs.Moves.{refused}
use Rattle.lua_steps.specs.Calls.{calls}

pub calls_refused : (code : Code) (line : Option ℕ) (f : Value) (vs : List Value) (base : ℕ) (waits : Frame) (m : Machine) → ((k : ℕ) → f ≡ value.Func k → ⊥) → ((k : ℕ) → f ≡ value.Native k → ⊥)
    → calls code line f vs base waits m ≡ refused line (refusal.Call f) m
calls_refused code line (value.Func k) vs base waits m closure native = absurd (closure k refl)
calls_refused code line (value.Native k) vs base waits m closure native = absurd (native k refl)
calls_refused code line f vs base waits m closure native = refl
