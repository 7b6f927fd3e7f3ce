-- What reductions have in common: to go on, to pay ticks and units, to raise, and the end of a thread.
use Rattle.std.specs.Prelude.{ℕ, zero, suc, ◌-◌, ltb, true, false, if◌then◌else◌, List, [], ◌∷◌, ◌++◌, Option, Some, None, slice_set}
use Rattle.lua_tree.specs.Source.{Text}
use Rattle.lua_value.specs.declared.value.Value.{Value}
use Rattle.lua_value.specs.declared.value.Value.TheVariants as value
use Rattle.lua_model.specs.declared.refusal.Refusal.{Refusal}
use Rattle.lua_model.specs.Refusal.{refusal_text, position_text}
use Rattle.lua_model.specs.Texts.{same_bytes}
use Rattle.lua_model.specs.Answer as answer
use Rattle.lua_model.specs.Answer.{Answer}
use Rattle.lua_model.specs.Heap as model
use Rattle.lua_meaning.specs.State.{Named, Env, Focus, Gives, Lists, Raises, Context, Dead, Resumer, State, Return, Raise, Budget, HeapFull, Step, Next, Halt}

-- ---- names (manual, section 3.5)

-- the location of the innermost local of this name; none where the name is global
abbrev pub location_of : List Named → Text → Option ℕ
location_of [] x = None
location_of (n ∷ ns) x = if same_bytes n.name x then Some n.location else location_of ns x

abbrev pub bound : Text → ℕ → Env → Env
bound x l env = record env { locals = record { name = x; location = l } ∷ env.locals }

-- ---- going on

abbrev pub goes : State → Focus → List Context → Step
goes s f ks = Next (record s { focus = f; ks = ks })

-- a tick is paid, or it passes the budget
abbrev pub ticked : ℕ → State → Focus → List Context → Step
ticked zero s f ks = Halt Budget s
ticked (suc n) s f ks = Next (record s { focus = f; ks = ks; left = n })

-- n ticks are paid
abbrev pub paid : ℕ → State → (State → Step) → Step
paid n s go = if ltb s.left n then Halt Budget s else go (record s { left = s.left - n })

-- ---- strings and errors

abbrev pub kept : Option model.Heap → State → Focus → List Context → Step
kept None s f ks = Halt HeapFull s
kept (Some heap) s f ks = Next (record s { focus = f; ks = ks; aside = record s.aside { heap = heap } })

-- a new string is made, whose ticks come before its units
abbrev pub made : List ℕ → (Value → Focus) → State → List Context → Step
made bytes what s ks =
    paid (model.text_ticks bytes) s (λ t. kept (model.charged (model.text_units bytes) (model.holding bytes t.aside.heap)) t (what (model.text_value bytes t.aside.heap)) ks)

-- what stands before an error's text: none where no term of a script makes the call
abbrev pub place : List ℕ → Option ℕ → List ℕ
place name None = []
place name (Some line) = position_text name line

abbrev pub refused : Option ℕ → Refusal → State → List Context → Step
refused line why s ks = made (place s.aside.name line ++ refusal_text why) (λ v. Raises v) s ks

abbrev pub answered : Answer → ℕ → State → List Context → Step
answered (answer.Plain v) line s ks = goes s (Gives v) ks
answered (answer.Fresh bytes) line s ks = made bytes (λ v. Gives v) s ks
answered (answer.Refused why) line s ks = refused (Some line) why s ks

-- ---- the end of a thread

-- back to the thread that resumed this one, which is dead from now on
abbrev pub back : Resumer → List Resumer → List Value → State → Step
back r rs vs s =
    Next (record s { focus = Lists vs; ks = r.ks; aside = record s.aside { running = r.thread; resumers = rs; threads = slice_set s.aside.threads s.aside.running Dead } })

-- the running thread ends with these values
abbrev pub finish : List Resumer → List Value → State → Step
finish [] vs s = Halt (Return vs) s
finish (r ∷ rs) vs s = back r rs (value.Bool true ∷ vs) s

-- or with an error
abbrev pub fail : List Resumer → Value → State → Step
fail [] v s = Halt (Raise v) s
fail (r ∷ rs) v s = back r rs (value.Bool false ∷ v ∷ []) s
