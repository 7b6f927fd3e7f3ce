-- Compiled code stops as the source does.
use Rattle.std.proofs.Common.{◌≡◌, ℕ, true, ◌+◌, ◌-◌, List, [], ◌∷◌, length, None, refl, sym, subst, arith}
use Rattle.lua_tree.specs.Source.{Block, body}
use Rattle.lua_value.specs.declared.value.Value.{Value}
use Rattle.lua_value.specs.declared.value.Value.TheVariants as value
use Rattle.lua_model.specs.Heap as model
use Rattle.lua_code.specs.Valid.{IsValid}
use Rattle.lua_code.specs.declared.function.Capture.{Capture}
use Rattle.lua_meaning.specs.State as meaning
use Rattle.lua_meaning.specs.State.{Lists, State, Halt, Pause}
use Rattle.lua_meaning.specs.Until as meaning_until
use Rattle.lua_meaning.specs.Until.{Until, Asks}
use Rattle.lua_steps.specs.declared.scope.Known.{Known}
use Rattle.lua_steps.specs.Machine.{Code, Machine, Wanted, InSlots, OnTop}
use Rattle.lua_steps.specs.Moves.{received}
use Rattle.lua_steps.specs.Calls.{given}
use Rattle.lua_steps.specs.Exec.{opening}
use Rattle.lua_steps.specs.Scope.{Inside}
use Rattle.lua_steps.specs.Serves.{Serves, IsBody}
use Rattle.lua_follow.specs.Spot.{BeginS}
use Rattle.lua_follow.specs.Memory.{Begins}
use Rattle.lua_follow.specs.Stands.{Stands, Waits}
use Rattle.lua_follow.specs.Follows.{Meets, Pauses, CodeFollows}
use Rattle.lua_follow.proofs.Receives.{receives}
use Rattle.lua_follow.proofs.Dispatch.{rows}
use Rattle.lua_follow.proofs.Sim.{Sim, standing}
use Rattle.lua_follow.proofs.Whole.{live}

-- ---- the beginning
no_names : (captures : List Capture) (inner : List Known) → Inside captures [] inner → inner ≡ []
no_names captures [] h = refl
no_names captures (k ∷ ks) h = absurd h

chunk_begins : (code : Code) (g : ℕ) (chunk : Block) → IsBody code g [] (body [] true chunk) → Begins code g [] (body [] true chunk)
chunk_begins code g chunk (r, is, params, dots, inner, captures, pay, pays, c) =
    subst (λ names. Begins code g names (body [] true chunk)) (no_names r.captures inner captures) (r, is, params, dots, pay, pays, c)

opens : (code : Code) (chunk : Block) (name : List ℕ) (heap : model.Heap) (budget : ℕ) → Serves code chunk → IsValid code
    → Waits code (opening name (length code - 1) heap budget) (meaning_until.opening name chunk heap budget [])
opens code chunk name heap budget serves valid =
    record {
      ks = BeginS (value.Func 0) ∷ [];
      is = refl;
      homes = [];
      owners = λ p. None;
      memory = record {
        homed = refl;
        rows = record { home = λ p l lt e. absurd (cc); same = λ p l lt ne e. absurd (cc) };
        cells = record { within = λ l c e. absurd (cc); same = λ l c e. absurd (cc); alone = λ l k c e f. absurd (cc) };
        closures = (record { names = []; begins = chunk_begins code (length code - 1) chunk serves.main; ups = tt }, tt);
      };
      parked = record { takes = (serves.append, serves.start, serves.return); awaits = tt; first = refl; kept = refl; lists = refl; room = tt };
      below = tt;
      beside = record { name = refl; heap = refl; alone = refl; lone = refl };
      left = refl;
    }

-- ---- given its values
received_left : (w : Wanted) (vs : List Value) (m : Machine) → (received w vs m).left ≡ m.left
received_left (InSlots to count) vs m = refl
received_left OnTop vs m = refl

given_sim : (code : Code) (m : Machine) (s : State) (vs : List Value) → Waits code m s → Sim code (given m vs) (meaning_until.given s vs) 0
given_sim code m s vs h =
    standing code (given m vs) (meaning_until.given s vs) 0 h.ks h.is
    (subst (λ K. Stands code (given m vs) (record s { focus = Lists vs; ks = K }) h.ks 0) (sym h.is) (receives code m s h.homes h.owners vs h.ks h.memory h.parked h.below h.beside))

given_left : (code : Code) (m : Machine) (s : State) (vs : List Value) → Waits code m s → s.left ≡ (given m vs).left + 0
given_left code m s vs h = let same = received_left m.top.wants vs m in let left = h.left in omega (arith, same, left)

stops : (code : Code) (m : Machine) (s t : State) (vs : List Value) (x : meaning.Stop) → IsValid code → Waits code m s → Until (meaning_until.given s vs) x t → Meets code (given m vs) x t
stops code m s t vs x valid h until =
    live code (rows code valid) until.0 (given m vs) (meaning_until.given s vs) 0 (Halt x t) (given_sim code m s vs h) (given_left code m s vs h) until.1

asks : (code : Code) (m : Machine) (s t : State) (vs : List Value) (c : meaning.NativeCall) → IsValid code → Waits code m s → Asks (meaning_until.given s vs) c t → Pauses code (given m vs) c t
asks code m s t vs c valid h until =
    live code (rows code valid) until.0 (given m vs) (meaning_until.given s vs) 0 (Pause c t) (given_sim code m s vs h) (given_left code m s vs h) until.1

pub code_follows : CodeFollows
code_follows = record { opens = opens; stops = stops; asks = asks }
