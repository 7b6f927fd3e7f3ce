-- Many small steps: where a state stops.
use Rattle.std.specs.Prelude.{◌≡◌, ℕ, zero, suc, true, List, [], ◌∷◌}
use Rattle.lua_tree.specs.Source.{Block, body}
use Rattle.lua_value.specs.declared.value.Value.{Value}
use Rattle.lua_value.specs.declared.value.Value.TheVariants as value
use Rattle.lua_model.specs.Heap as model
use Rattle.lua_meaning.specs.State.{Lists, BeginK, Closure, Busy, State, Stop, NativeCall, Step, Next, Halt, Pause}
use Rattle.lua_meaning.specs.Reduce.{reduce}

abbrev pub then_on : Step → (State → Step) → Step
then_on (Next s) go = go s
then_on (Halt x s) go = Halt x s
then_on (Pause c s) go = Pause c s

-- n reductions
abbrev pub iterate : ℕ → State → Step
iterate zero s = Next s
iterate (suc n) s = then_on (reduce s) (iterate n)

-- the state comes to this stop, and is t there
abbrev pub Until : State → Stop → State → Type 0
Until s x t = (n : ℕ) × (iterate n s ≡ Halt x t)

-- the state comes to this call of the host, and is t there
abbrev pub Asks : State → NativeCall → State → Type 0
Asks s c t = (n : ℕ) × (iterate n s ≡ Pause c t)

-- a state that waits for a call of the host is given its results
abbrev pub given : State → List Value → State
given s vs = record s { focus = Lists vs }

-- ---- the beginning

-- A chunk is a function without parameters and with `...` (manual, section 3.3.2); it is the first closure of its service.
abbrev pub chunk_closure : Block → Closure
chunk_closure b = record { body = body [] true b; env = record { locals = []; dots = [] } }

-- thread 0 calls the chunk with these arguments; the heap holds what was made before it counts
abbrev pub opening : List ℕ → Block → model.Heap → ℕ → List Value → State
opening name b heap budget args =
    record {
      focus = Lists args;
      ks = BeginK (value.Func 0) ∷ [];
      store = [];
      closures = chunk_closure b ∷ [];
      left = budget;
      aside = record { name = name; heap = heap; running = 0; resumers = []; threads = Busy ∷ [] };
    }
