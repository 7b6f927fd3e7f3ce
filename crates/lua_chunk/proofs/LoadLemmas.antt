-- What is loaded waits as its chunk does; and where the chunk has code, nothing but want of memory is in the way.
use Rattle.std.proofs.Common.{◌≡◌, ℕ, List, refl, ap, sym, subst}
use Rattle.lua_tree.specs.declared.tree.Chunk.{Chunk}
use Rattle.lua_tree.specs.View.{chunk_of}
use Rattle.lua_compile.specs.HasCode.{HasCode}
use Rattle.lua_steps.specs.Machine.{Code}
use Rattle.lua_steps.specs.Serves.{Serves}
use Rattle.lua_follow.specs.Stands.{Waits}
use Rattle.lua_machine.specs.Runs.{Loaded, loaded}
use Rattle.lua_machine.specs.Follows.{Opens}
use Rattle.lua_chunk.specs.declared.loader.LoadError.{LoadError}
use Rattle.lua_chunk.specs.declared.loader.LoadError.TheVariants.{Memory, Fault, NoCode}
use Rattle.lua_chunk.specs.Load.{LacksCodeIf, before}

-- one chunk got no code, and it is one that has code: then memory was wanting
pub memory_of : (chunk got : Chunk) (e : LoadError) → chunk ≡ got → LacksCodeIf (chunk_of got) e → HasCode (chunk_of chunk) → e ≡ Memory
memory_of chunk got Memory same lacks has = refl
memory_of chunk got (Fault f) same lacks has = absurd lacks
memory_of chunk got NoCode same lacks has = absurd (lacks (subst (λ (x : Chunk). HasCode (chunk_of x)) same has))

-- a machine whose code serves the one chunk that was read waits as that does before it begins
pub begins_of : (name : List ℕ) (budget units : ℕ) (chunk got : Chunk) (code : Code) (m : Loaded) → chunk ≡ got → m ≡ loaded code name budget units
    → Serves code (chunk_of got) → Opens name budget units m → Waits m.code m.machine (before chunk name budget units)
begins_of name budget units chunk got code m same is serves opens =
    let its : m.code ≡ code = ap (λ (l : Loaded). l.code) is in
    subst (λ (k : Chunk). Waits m.code m.machine (before k name budget units)) (sym same)
    (opens (chunk_of got) (subst (λ (x : Code). Serves x (chunk_of got)) (sym its) serves))
