-- Loops (Lua 5.4 manual, sections 3.3.4 and 3.3.5). Each turn costs a tick, and has new locations for its locals.
use Rattle.std.specs.Prelude.{ℕ, zero, suc, ◌/◌, Bool, true, false, if◌then◌else◌, List, [], ◌∷◌, Some, ℤ, pos, negsuc, ◌-ℤ◌, int_lt, unsigned_abs}
use Rattle.lua_tree.specs.Source.{Text, Block, Exp, Exps, NoExp, MoreExps}
use Rattle.lua_value.specs.declared.value.Value.{Value}
use Rattle.lua_value.specs.declared.value.Value.TheVariants as value
use Rattle.lua_value.specs.Lists.{first, value_at}
use Rattle.lua_model.specs.declared.refusal.Refusal.TheVariants as refusal
use Rattle.lua_model.specs.Integer as lua
use Rattle.lua_meaning.specs.State.{Env, Eval, Run, Declares, Context, ForK, TurnK, WhileLoopK, RepeatLoopK, NumericLoopK, GenericLoopK, State, NoRule, Step, Halt}
use Rattle.lua_meaning.specs.Moves.{goes, ticked, refused}
use Rattle.lua_meaning.specs.Calls.{calls}

abbrev pub while_turn : Bool → Exp → Block → Block → Env → State → List Context → Step
while_turn true e body rest env s ks = ticked s.left s (Run body env) (WhileLoopK e body rest env ∷ ks)
while_turn false e body rest env s ks = goes s (Run rest env) ks

abbrev pub repeat_turn : Bool → Block → Exp → Block → Env → State → List Context → Step
repeat_turn true body e rest env s ks = goes s (Run rest env) ks
repeat_turn false body e rest env s ks = ticked s.left s (Run body env) (RepeatLoopK body e rest env ∷ ks)

-- ---- the numeric `for`

-- how many values there are from a by steps of c up to b, or down to it
abbrev pub turns_of : ℤ → ℤ → ℤ → ℕ
turns_of a b (pos zero) = 0
turns_of a b (pos (suc c)) = if int_lt b a then 0 else suc (unsigned_abs (b -ℤ a) / suc c)
turns_of a b (negsuc c) = if int_lt a b then 0 else suc (unsigned_abs (a -ℤ b) / suc c)

-- n turns are still to come, the first of them with this value
abbrev pub numeric_turn : ℕ → ℤ → ℤ → Text → Block → Block → Env → State → List Context → Step
numeric_turn zero at step x body rest env s ks = goes s (Run rest env) ks
numeric_turn (suc n) at step x body rest env s ks =
    ticked s.left s (Declares (x ∷ []) (value.Int at ∷ []) body env) (NumericLoopK n at step x body rest env ∷ ks)

-- the count of turns is fixed before the first; a step 0 is refused
abbrev pub numeric_by : ℤ → ℤ → ℤ → Text → Block → ℕ → Block → Env → State → List Context → Step
numeric_by a b (pos zero) x body line rest env s ks = refused (Some line) refusal.ForStep s ks
numeric_by a b (pos (suc c)) x body line rest env s ks = numeric_turn (turns_of a b (pos (suc c))) a (pos (suc c)) x body rest env s ks
numeric_by a b (negsuc c) x body line rest env s ks = numeric_turn (turns_of a b (negsuc c)) a (negsuc c) x body rest env s ks

-- its values are integers of 64 bits
abbrev pub numeric_from : Value → Value → Value → Text → Block → ℕ → Block → Env → State → List Context → Step
numeric_from (value.Int a) (value.Int b) (value.Int c) x body line rest env s ks = numeric_by (lua.wrap a) (lua.wrap b) (lua.wrap c) x body line rest env s ks
numeric_from u v w x body line rest env s ks = refused (Some line) refusal.ForValues s ks

-- without a third value the step is 1
abbrev pub numeric_begin : List Value → Text → Block → ℕ → Block → Env → State → List Context → Step
numeric_begin (u ∷ v ∷ []) x body line rest env s ks = numeric_from u v (value.Int (pos 1)) x body line rest env s ks
numeric_begin (u ∷ v ∷ w ∷ []) x body line rest env s ks = numeric_from u v w x body line rest env s ks
numeric_begin _ x body line rest env s ks = Halt NoRule s

abbrev pub numeric_value : Exps → List Value → Text → Block → ℕ → Block → Env → State → List Context → Step
numeric_value NoExp us x body line rest env s ks = numeric_begin us x body line rest env s ks
numeric_value (MoreExps e es) us x body line rest env s ks = goes s (Eval e env) (ForK es us x body line rest env ∷ ks)

-- ---- the generic `for`

-- the iterator is called with the state and the control value
abbrev pub generic_call : Value → Value → Value → List Text → Block → ℕ → Block → Env → State → List Context → Step
generic_call f state control xs body line rest env s ks =
    calls (Some line) f (state ∷ control ∷ []) s (TurnK f state xs body line rest env ∷ ks)

abbrev pub generic_begin : List Value → List Text → Block → ℕ → Block → Env → State → List Context → Step
generic_begin vs xs body line rest env s ks = generic_call (value_at vs 0) (value_at vs 1) (value_at vs 2) xs body line rest env s ks

-- the loop ends where its first value is nil
abbrev pub generic_turn : Bool → List Value → Value → Value → List Text → Block → ℕ → Block → Env → State → List Context → Step
generic_turn true vs f state xs body line rest env s ks = goes s (Run rest env) ks
generic_turn false vs f state xs body line rest env s ks =
    ticked s.left s (Declares xs vs body env) (GenericLoopK f state (first vs) xs body line rest env ∷ ks)
