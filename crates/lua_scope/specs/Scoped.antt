-- A chunk whose names are resolved.
use Rattle.std.specs.Prelude.{◌≡◌, ℕ, ◌<◌, Bool, true, false, List, length, slice_get, slice_set, unwrap_or}
use Rattle.lua_tree.specs.Source.{Block}
use Rattle.lua_scope.specs.declared.usage.Use.{Use}
use Rattle.lua_scope.specs.declared.usage.Use.TheVariants as usage
use Rattle.lua_scope.specs.Scope.{is_captured}
use Rattle.lua_scope.specs.Walk.{chunk_read}

pub record Resolved : Type 0 where
  -- what each use of a name means, in the order of the text
  pub uses : List Use
  -- whether a closure captures it, for each local in the order of the text
  pub captured : List Bool

abbrev pub flag : List Bool → ℕ → Bool
flag flags k = unwrap_or (slice_get flags k) false

-- one flag for each local: whether a use of it stands in a function inside the one that declares it
pub record AreFlags (uses : List Use) (locals : ℕ) (flags : List Bool) : Type 0 where
  pub count : length flags ≡ locals
  pub each : (k : ℕ) → k < locals → flag flags k ≡ is_captured uses k

pub record IsScoped (b : Block) (s : Resolved) : Type 0 where
  pub uses : s.uses ≡ (chunk_read b).uses
  pub captured : AreFlags (chunk_read b).uses (chunk_read b).locals s.captured

-- the flag of an upvalue's local is set
abbrev pub marked : Use → List Bool → List Bool
marked (usage.Upvalue k) flags = slice_set flags k true
marked (usage.Local k) flags = flags
marked usage.Global flags = flags
