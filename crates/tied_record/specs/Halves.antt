-- The map of a record's halves, as it changes.
use Rattle.std.specs.Prelude.{◌≡◌, ℕ, ◌==◌, cond, Option, Some}
use Rattle.std.specs.Ordering.{nat_cmp}
use Rattle.std.specs.BTreeMap.{BTreeMap, get}
use Rattle.message.specs.declared.record.Entry.{Entry}
use Rattle.tie.specs.Rules.{Piece}

abbrev pub Halves : Type 0
Halves = BTreeMap ℕ (Option (Piece Entry))

-- this half is in its place
abbrev pub Holds : Halves → ℕ → Piece Entry → Type 0
Holds m key h = get nat_cmp m key ≡ Some (Some h)

-- a half is in its place
abbrev pub IsHere : Halves → ℕ → Type 0
IsHere m key = (h : Piece Entry) × Holds m key h

-- one place is changed
pub record IsSet (before after : Halves) (key : ℕ) (o : Option (Option (Piece Entry))) : Type 0 where
  pub each : (k : ℕ) → get nat_cmp after k ≡ cond (key == k) o (get nat_cmp before k)

-- nothing is changed
pub record IsSame (before after : Halves) : Type 0 where
  pub each : (k : ℕ) → get nat_cmp after k ≡ get nat_cmp before k
