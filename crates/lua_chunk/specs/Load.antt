-- What a text is loaded as (Lua 5.4 manual, sections 3.3.2 and 9), and why it is not.
use Rattle.std.specs.Prelude.{◌≡◌, ℕ, true, List, [], Result, Ok, Err}
use Rattle.sk_types.specs.declared.fault.SyntaxFault.{SyntaxFault}
use Rattle.lua_tree.specs.declared.tree.Chunk.{Chunk}
use Rattle.lua_tree.specs.Source.{Block}
use Rattle.lua_tree.specs.View.{chunk_of}
use Rattle.lua_syntax.specs.Script.{Reads, IsFault}
use Rattle.lua_value.specs.declared.value.Value.{Value}
use Rattle.lua_meaning.specs.State.{State}
use Rattle.lua_meaning.specs.Until.{given, opening}
use Rattle.lua_code.specs.Valid.{IsValid}
use Rattle.lua_steps.specs.Machine.{Code}
use Rattle.lua_steps.specs.Serves.{Serves}
use Rattle.lua_compile.specs.HasCode.{HasCode}
use Rattle.lua_follow.specs.Stands.{Waits}
use Rattle.lua_machine.specs.Runs.{Loaded, loaded}
use Rattle.lua_machine.specs.Follows.{StopsAs}
use Rattle.lua_machine.specs.declared.stop.Stop.{Stop}
use Rattle.lua_chunk.specs.declared.loader.LoadError.{LoadError}
use Rattle.lua_chunk.specs.declared.loader.LoadError.TheVariants.{Memory, Fault, NoCode}

-- the text reads as a chunk, and the machine has not run and has valid code that serves that chunk
pub record IsLoaded (bytes name : List ℕ) (budget units : ℕ) (machine : Loaded) : Type 0 where
  pub chunk : Chunk
  pub reads : Reads bytes chunk
  pub code : Code
  pub valid : IsValid code
  pub serves : Serves code (chunk_of chunk)
  pub is : machine ≡ loaded code name budget units

-- a chunk before it begins, with a heap of so many units and so many ticks
abbrev pub before : Chunk → List ℕ → ℕ → ℕ → State
before chunk name budget units = opening name (chunk_of chunk) (record { texts = []; units = 0; limit = units; counts = true }) budget []

-- the machine waits as the chunk that the text reads as does before it begins
abbrev pub Begins : List ℕ → List ℕ → ℕ → ℕ → Loaded → Type 0
Begins bytes name budget units machine = (chunk : Chunk) → Reads bytes chunk → Waits machine.code machine.machine (before chunk name budget units)

-- The chunk that the text reads as, given these values, comes to this stop, and the machine has what the chunk has there.
abbrev pub ComesTo : List ℕ → List ℕ → ℕ → ℕ → List Value → Stop → Loaded → Type 0
ComesTo bytes name budget units values stop machine =
    (chunk : Chunk) → Reads bytes chunk → StopsAs machine.code (given (before chunk name budget units) values) stop machine.machine

-- the text reads as a chunk that makes or reads a table, or names a global variable
pub record LacksCode (bytes : List ℕ) : Type 0 where
  pub chunk : Chunk
  pub reads : Reads bytes chunk
  pub lacks : HasCode (chunk_of chunk) → ⊥

-- of a chunk: why it got no code
abbrev pub LacksCodeIf : Block → LoadError → Type 0
LacksCodeIf b Memory = Unit {0}
LacksCodeIf b (Fault f) = ⊥
LacksCodeIf b NoCode = HasCode b → ⊥

-- why a text is not loaded; of want of memory nothing is said
abbrev pub HasCause : List ℕ → LoadError → Type 0
HasCause bytes Memory = Unit {0}
HasCause bytes (Fault f) = IsFault bytes f
HasCause bytes NoCode = LacksCode bytes

-- this fault is the answer, unless memory was wanting
abbrev pub Refuses : {A : Type 0} → SyntaxFault → Result A LoadError → Type 0
Refuses f (Ok m) = ⊥
Refuses f (Err Memory) = Unit {0}
Refuses f (Err (Fault g)) = g ≡ f
Refuses f (Err NoCode) = ⊥

-- nothing but want of memory stood in the way
abbrev pub Succeeds : {A : Type 0} → Result A LoadError → Type 0
Succeeds (Ok m) = Unit {0}
Succeeds (Err Memory) = Unit {0}
Succeeds (Err (Fault f)) = ⊥
Succeeds (Err NoCode) = ⊥
