-- How the registry's names are kept: a name whose handle is listed no more is no name.
use Rattle.std.specs.Prelude.{ℕ, ◌≡◌, ◌<◌, ◌≤◌, Bool, List, [], ◌∷◌, map, length, Option, Some, None, Vec}
use Rattle.std.specs.declared.alloc.Global.{Global}
use Rattle.std.specs.List.{filter}
use Rattle.std.specs.List.Sorted.{IsStrictlySortedBy}
use Rattle.std.specs.Ordering.{nat_cmp}
use Rattle.std.specs.Cmp.Lexicographic.{slice_cmp}
use Rattle.std.specs.FinMap as names
use Rattle.sk_types.specs.declared.number.Handle.{Handle}
use Rattle.message.specs.Registries.{Registry, Names, is_listed, register, next_handle, most_handles}

-- an entry of the map that is kept: the bytes of a name, and whose it is
abbrev pub Kept : Type 0
Kept = Vec ℕ Global × Handle

abbrev pub shown : Kept → List ℕ × Handle
shown e = (e.0.items, e.1)

-- the names of the entries whose handles are listed
abbrev pub living : List Bool → List Kept → Names
living listed es = names.from_entries (filter (λ e. is_listed listed e.1.0) (map shown es))

-- each entry's handle is one that was given
abbrev pub AllGiven : ℕ → List Kept → Type 0
AllGiven n [] = Unit {0}
AllGiven n (e ∷ es) = (e.1.0 ≤ n) × AllGiven n es

pub record IsKept (listed : List Bool) (es : List Kept) : Type 0 where
  pub few : length listed ≤ most_handles
  pub ordered : IsStrictlySortedBy (λ x y. slice_cmp nat_cmp x.items y.items) (map (λ e. e.0) es)
  pub given : AllGiven (length listed) es

-- a new handle is given exactly while fewer than all were
abbrev pub Registers : Registry → Option Handle → Registry → Type 0
Registers r None r2 = (length r.listed ≡ most_handles) × (r2 ≡ r)
Registers r (Some h) r2 = (length r.listed < most_handles) × (h ≡ next_handle r) × (r2 ≡ register r)
