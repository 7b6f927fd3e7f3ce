-- Where the values of locations are: in the slots of frames, or in cells (manual, section 3.5). A location's home never changes, but a
-- slot may be another location's later. It is this project's own.
use Rattle.std.specs.Prelude.{◌≡◌, ℕ, suc, ◌+◌, ◌<◌, ◌==◌, ltb, if◌then◌else◌, List, [], ◌∷◌, length, Option, Some, None, slice_get}
use Rattle.lua_tree.specs.Source.{Body, body}
use Rattle.lua_value.specs.declared.value.Value.{Value}
use Rattle.lua_value.specs.Lists.{value_at}
use Rattle.lua_code.specs.declared.op.Op.TheVariants as op
use Rattle.lua_code.specs.Routine.{Routine}
use Rattle.lua_meaning.specs.State as meaning
use Rattle.lua_meaning.specs.State.{Env, Named}
use Rattle.lua_steps.specs.declared.scope.Place.{Place}
use Rattle.lua_steps.specs.declared.scope.Place.TheVariants.{InSlot, InCell, InUp, Hidden}
use Rattle.lua_steps.specs.declared.scope.Known.{Known}
use Rattle.lua_steps.specs.Machine.{Code, Frame, Closure}
use Rattle.lua_steps.specs.Exec.{cell_of}
use Rattle.lua_steps.specs.Scope.{Scope}
use Rattle.lua_steps.specs.Stand.{At, Leads, IsDeclares}
use Rattle.lua_steps.specs.Serves.{IsBlock}
use Rattle.lua_follow.specs.Spot.{Home, AtSlot, AtCell}

abbrev pub Homes : Type 0
Homes = List Home

-- which location a place of the row has now
abbrev pub Owners : Type 0
Owners = ℕ → Option ℕ

-- a place gets an owner, or none
abbrev pub owned_by : ℕ → Option ℕ → Owners → Owners
owned_by p o owners = λ q. if q == p then o else owners q

-- no place from here on has an owner
abbrev pub owned_below : ℕ → Owners → Owners
owned_below n owners = λ q. if ltb q n then owners q else None

-- ---- the row, the cells
-- the owned places below `end` have the values of their locations, but for one
pub record Rows (homes : Homes) (owners : Owners) (row store : List Value) (end but : ℕ) : Type 0 where
  pub home : (p l : ℕ) → p < end → owners p ≡ Some l → slice_get homes l ≡ Some (AtSlot p)
  pub same : (p l : ℕ) → p < end → (p ≡ but → ⊥) → owners p ≡ Some l → value_at row p ≡ value_at store l

-- the cells have the values of their locations, and each is one location's
pub record Cells (homes : Homes) (cells store : List Value) : Type 0 where
  pub within : (l c : ℕ) → slice_get homes l ≡ Some (AtCell c) → c < length cells
  pub same : (l c : ℕ) → slice_get homes l ≡ Some (AtCell c) → value_at cells c ≡ value_at store l
  pub alone : (l k c : ℕ) → slice_get homes l ≡ Some (AtCell c) → slice_get homes k ≡ Some (AtCell c) → l ≡ k

-- ---- names
-- what a frame keeps the same while it runs
pub record View : Type 0 where
  pub function : ℕ
  pub base : ℕ
  pub boxes : List ℕ
  pub ups : List ℕ
  pub dots : List Value

abbrev pub view : Frame → View
view fr = record { function = fr.function; base = fr.base; boxes = fr.cells; ups = fr.ups; dots = fr.dots }

-- a frame has the location of a name at this place
abbrev pub Has : Homes → Owners → View → ℕ → ℕ → Place → ℕ → Type 0
Has homes owners fr free cells (InSlot s) l = (s < free) × (owners (fr.base + s) ≡ Some l)
Has homes owners fr free cells (InCell c) l = (c < cells) × (slice_get homes l ≡ Some (AtCell (cell_of fr.boxes c)))
Has homes owners fr free cells (InUp u) l = slice_get homes l ≡ Some (AtCell (cell_of fr.ups u))
Has homes owners fr free cells Hidden l = Unit {0}

abbrev pub HasAll : Homes → Owners → View → ℕ → ℕ → List Known → List Named → Type 0
HasAll homes owners fr free cells [] [] = Unit {0}
HasAll homes owners fr free cells (n ∷ ns) (k ∷ ks) =
    (n.name ≡ k.name) × Has homes owners fr free cells n.place k.location × HasAll homes owners fr free cells ns ks
HasAll homes owners fr free cells _ _ = ⊥

-- what a term of this scope sees, the frame has
pub record Sees (homes : Homes) (owners : Owners) (fr : View) (sc : Scope) (env : Env) : Type 0 where
  pub names : HasAll homes owners fr sc.free sc.cells sc.names env.locals
  pub dots : env.dots ≡ fr.dots

-- ---- closures
-- a body's code begins in function g, in the scope of these names outside
abbrev pub Begins : Code → ℕ → List Known → Body → Type 0
Begins code g names (body xs dots b) =
    (r : Routine) × (slice_get code g ≡ Some r) × (r.shape.params ≡ length xs) × (r.shape.has_dots ≡ dots)
    × (pay : ℕ) × (r.shape.pay ≡ suc pay)
    × IsDeclares code g (record { names = names; free = 0; cells = 0 }) xs 0 (λ sc j.
    IsBlock code g sc b pay j (λ z. ⊥) (λ end z. Leads code g z (λ y. (i : ℕ) × At code g y (op.Return i 0))))

-- the closure's cells are those of the names outside
abbrev pub Up : Homes → List ℕ → Place → ℕ → Type 0
Up homes ups (InUp u) l = slice_get homes l ≡ Some (AtCell (cell_of ups u))
Up homes ups Hidden l = Unit {0}
Up homes ups _ l = ⊥

abbrev pub Ups : Homes → List ℕ → List Known → List Named → Type 0
Ups homes ups [] [] = Unit {0}
Ups homes ups (n ∷ ns) (k ∷ ks) = (n.name ≡ k.name) × Up homes ups n.place k.location × Ups homes ups ns ks
Ups homes ups _ _ = ⊥

pub record Closes (code : Code) (homes : Homes) (m : Closure) (c : meaning.Closure) : Type 0 where
  pub names : List Known
  pub begins : Begins code m.function names c.body
  pub ups : Ups homes m.cells names c.env.locals

abbrev pub ClosesAll : Code → Homes → List Closure → List meaning.Closure → Type 0
ClosesAll code homes [] [] = Unit {0}
ClosesAll code homes (m ∷ ms) (c ∷ cs) = Closes code homes m c × ClosesAll code homes ms cs
ClosesAll code homes _ _ = ⊥

-- ---- all of it
pub record Memory (code : Code) (homes : Homes) (owners : Owners) (row boxes : List Value) (ms : List Closure) (store : List Value) (cs : List meaning.Closure) (end but : ℕ) : Type 0 where
  pub homed : length homes ≡ length store
  pub rows : Rows homes owners row store end but
  pub cells : Cells homes boxes store
  pub closures : ClosesAll code homes ms cs
