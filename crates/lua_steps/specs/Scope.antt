-- Where the code of a function finds the values of names (manual, section 3.5).
use Rattle.std.specs.Prelude.{◌≡◌, ℕ, ◌+◌, if◌then◌else◌, List, [], ◌∷◌, Option, Some, None, slice_get}
use Rattle.lua_tree.specs.Source.{Text}
use Rattle.lua_model.specs.Texts.{same_bytes}
use Rattle.lua_code.specs.declared.function.Capture.{Capture}
use Rattle.lua_steps.specs.declared.scope.Place.{Place}
use Rattle.lua_steps.specs.declared.scope.Place.TheVariants.{InSlot, InCell, InUp, Hidden}
use Rattle.lua_steps.specs.declared.scope.Known.{Known}
use Rattle.lua_code.specs.declared.function.Capture.TheVariants as capture

pub record Scope : Type 0 where
  -- the names in scope, the innermost first, as a term's environment has them
  pub names : List Known
  -- the slots from this one on are free, and so are the cells
  pub free : ℕ
  pub cells : ℕ

-- the place of the innermost local of this name; none where the name is global
abbrev pub place_of : List Known → Text → Option Place
place_of [] x = None
place_of (n ∷ ns) x = if same_bytes n.name x then Some n.place else place_of ns x

-- a local is in scope: in the first free slot
abbrev pub in_slot : Text → Scope → Scope
in_slot x sc = record { names = record { name = x; place = InSlot sc.free } ∷ sc.names; free = sc.free + 1; cells = sc.cells }

-- or in the first free cell
abbrev pub in_cell : Text → Scope → Scope
in_cell x sc = record { names = record { name = x; place = InCell sc.cells } ∷ sc.names; free = sc.free; cells = sc.cells + 1 }

-- so many slots are taken
abbrev pub past : ℕ → Scope → Scope
past n sc = record sc { free = sc.free + n }

-- a place outside, as a function that captures these sees it
abbrev pub Shares : List Capture → Place → Place → Type 0
Shares captures p Hidden = Unit {0}
Shares captures (InCell c) (InUp u) = slice_get captures u ≡ Some (capture.Cell c)
Shares captures (InUp v) (InUp u) = slice_get captures u ≡ Some (capture.Up v)
Shares captures _ _ = ⊥

-- the names outside, as the function sees them
abbrev pub Inside : List Capture → List Known → List Known → Type 0
Inside captures [] [] = Unit {0}
Inside captures (n ∷ ns) (k ∷ ks) = (k.name ≡ n.name) × Shares captures n.place k.place × Inside captures ns ks
Inside captures _ _ = ⊥
