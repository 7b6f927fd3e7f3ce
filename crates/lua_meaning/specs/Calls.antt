-- Calls, returns and tail calls (Lua 5.4 manual, sections 3.4.10, 3.4.11 and 3.3.4).
use Rattle.std.specs.Prelude.{ℕ, zero, suc, if◌then◌else◌, List, [], ◌∷◌, length, drop, Option, Some, None, slice_get}
use Rattle.lua_tree.specs.Source.{Body, body, Suffixes, NoSuffix}
use Rattle.lua_value.specs.declared.value.Value.{Value}
use Rattle.lua_value.specs.declared.value.Value.TheVariants as value
use Rattle.lua_model.specs.declared.refusal.Refusal.TheVariants as refusal
use Rattle.lua_meaning.specs.State.{Env, Wanted, Result, Focus, Lists, Declares, Context, AfterK, CallK, Closure, State, NativeCall, Budget, Step, Halt, Pause}
use Rattle.lua_meaning.specs.Moves.{goes, ticked, refused, finish, fail}

-- a body begins: its parameters become locals, and the further arguments are its `...`
abbrev pub begins : Body → List Value → Env → Focus
begins (body xs has_dots b) vs env = Declares xs vs b (record env { dots = if has_dots then drop (length xs) vs else [] })

-- a closure that was made is entered in the contexts `inside`, which costs a tick; any other function is refused
abbrev pub enter : Option Closure → Option ℕ → Value → List Value → State → List Context → List Context → Step
enter None line f vs s inside ks = refused line (refusal.Call f) s ks
enter (Some c) line f vs s inside ks = ticked s.left s (begins c.body vs c.env) inside

-- the host is called, and the state waits for its results
abbrev pub asked : ℕ → NativeCall → State → List Context → Step
asked zero c s ks = Halt Budget s
asked (suc n) c s ks = Pause c (record s { focus = Lists []; ks = ks; left = n })

-- a closure that was made is entered; the host's is asked; all else is refused
abbrev pub calls : Option ℕ → Value → List Value → State → List Context → Step
calls line (value.Func k) vs s ks = enter (slice_get s.closures k) line (value.Func k) vs s (CallK line ∷ ks) ks
calls line (value.Native k) vs s ks = asked s.left (record { called = value.Native k; args = vs }) s ks
calls line f vs s ks = refused line (refusal.Call f) s ks

-- the contexts from the body's own call on
abbrev pub to_call : List Context → List Context
to_call [] = []
to_call (CallK line ∷ ks) = CallK line ∷ ks
to_call (_ ∷ ks) = to_call ks

-- A tail call of a closure: the body that runs is left first, and the called one serves its call.
abbrev pub tail_calls : ℕ → Value → List Value → State → List Context → Step
tail_calls line (value.Func k) vs s ks = enter (slice_get s.closures k) (Some line) (value.Func k) vs s (to_call ks) ks
tail_calls line f vs s ks = calls (Some line) f vs s ks

abbrev pub applied : Value → ℕ → Suffixes → Wanted → Env → List Value → State → List Context → Step
applied f line NoSuffix Result env vs s ks = tail_calls line f vs s ks
applied f line ss how env vs s ks = calls (Some line) f vs s (AfterK ss how env ∷ ks)

-- these values are the results of the body that runs
abbrev pub hand : List Context → List Value → State → Step
hand [] vs s = finish s.aside.resumers vs s
hand (CallK line ∷ ks) vs s = goes s (Lists vs) ks
hand (_ ∷ ks) vs s = hand ks vs s

-- an error leaves all contexts of the thread
abbrev pub raised : List Context → Value → State → Step
raised [] v s = fail s.aside.resumers v s
raised (_ ∷ ks) v s = raised ks v s
