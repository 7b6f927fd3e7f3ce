-- The loops of `for` (manual, section 3.3.5). The slots of a numeric loop are: the turns left, the value, the step, and the value
-- that the body sees.
use Rattle.std.specs.Prelude.{ℕ, zero, suc, ◌+◌, Bool, true, false, [], ◌∷◌, Some, ℤ, pos, negsuc}
use Rattle.std.specs.Int.{w64, cast_signed, cast_unsigned}
use Rattle.lua_value.specs.declared.value.Value.{Value}
use Rattle.lua_value.specs.declared.value.Value.TheVariants as value
use Rattle.lua_model.specs.declared.refusal.Refusal.TheVariants as refusal
use Rattle.lua_model.specs.Integer as lua
use Rattle.lua_meaning.specs.Loops.{turns_of}
use Rattle.lua_steps.specs.Machine.{Machine, Went, Stuck}
use Rattle.lua_steps.specs.Moves.{next, jump, with_slot, with_slots, paid, refused}

-- a count below 2 ^ 64, as a value
abbrev pub counted : ℕ → Value
counted n = value.Int (cast_signed w64 n)

-- a turn with this value, after which n are to come
abbrev pub turn : ℕ → ℤ → ℤ → ℕ → Machine → Machine
turn n at step base m = with_slots base (counted n ∷ value.Int at ∷ value.Int step ∷ value.Int at ∷ []) m

-- the first turn, or none
abbrev pub first_turn : ℕ → ℤ → ℤ → ℕ → ℕ → ℕ → Machine → Went
first_turn zero at step pay base to m = jump to m
first_turn (suc n) at step pay base to m = paid pay m (λ t. next (turn n at step base t))

abbrev pub numeric_by : ℤ → ℤ → ℤ → ℕ → ℕ → ℕ → ℕ → Machine → Went
numeric_by a b (pos zero) line pay base to m = refused (Some line) refusal.ForStep m
numeric_by a b (pos (suc c)) line pay base to m = first_turn (turns_of a b (pos (suc c))) a (pos (suc c)) pay base to m
numeric_by a b (negsuc c) line pay base to m = first_turn (turns_of a b (negsuc c)) a (negsuc c) pay base to m

-- its values are integers of 64 bits; the count of turns is fixed before the first, and a step 0 is refused
abbrev pub numeric_from : Value → Value → Value → ℕ → ℕ → ℕ → ℕ → Machine → Went
numeric_from (value.Int a) (value.Int b) (value.Int c) line pay base to m = numeric_by (lua.wrap a) (lua.wrap b) (lua.wrap c) line pay base to m
numeric_from u v w line pay base to m = refused (Some line) refusal.ForValues m

-- the next turn, or the end of the loop
abbrev pub next_turn : ℕ → ℤ → ℤ → ℕ → ℕ → ℕ → Machine → Went
next_turn zero at step pay base to m = next m
next_turn (suc n) at step pay base to m = paid pay m (λ t. jump to (turn n (lua.add at step) step base t))

abbrev pub numeric_next : Value → Value → Value → ℕ → ℕ → ℕ → Machine → Went
numeric_next (value.Int n) (value.Int at) (value.Int step) pay base to m = next_turn (cast_unsigned w64 n) at step pay base to m
numeric_next u v w pay base to m = Stuck

-- a generic loop ends where the first of its values is nil; else that becomes the control value
abbrev pub generic_next : Bool → Value → ℕ → ℕ → ℕ → Machine → Went
generic_next true v pay base to m = next m
generic_next false v pay base to m = paid pay m (λ t. jump to (with_slot (base + 2) v t))
