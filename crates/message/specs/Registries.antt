-- What is done at the registry of handles and names (skynet_handle.c).
use Rattle.std.specs.Prelude.{ℕ, ◌+◌, ◌-◌, ◌==◌, ◌&&◌, nat_lt, nat_le, Bool, true, false, not, List, [], ◌∷◌, ◌++◌, length, Option, Some, None, if◌then◌else◌, slice_get, slice_set, unwrap_or, refl}
use Rattle.std.specs.Coded.{Coded, code_by, coded×, coded_ℕ, coded_bool, coded_list}
use Rattle.std.specs.List.{filter}
use Rattle.std.specs.Ordering.{nat_cmp}
use Rattle.std.specs.Cmp.Lexicographic.{slice_cmp}
use Rattle.std.specs.FinMap as names
use Rattle.sk_types.specs.declared.number.Handle.{Handle}
use Rattle.message.specs.declared.datum.Datum.{Datum}
use Rattle.message.specs.declared.request.Dest.{Dest}
use Rattle.message.specs.declared.request.Dest.TheVariants.{Number, Name}
use Rattle.message.specs.declared.record.What.{What}
use Rattle.message.specs.declared.record.What.TheVariants as did

-- the handles by their names
abbrev pub Names : Type 0
Names = names.FinMap (slice_cmp nat_cmp) Handle

-- for each handle that was given, from 1 on, whether it is listed; and the names of the listed ones
pub record Registry : Type 0 where
  pub listed : List Bool
  pub named : Names

-- handles and registries as stored values
abbrev pub handle_code : Coded Handle
handle_code = code_by ℕ coded_ℕ (λ h. h.0) (λ n. record { 0 = n }) (λ _. refl)

abbrev pub registry_code : Coded Registry
registry_code = code_by (List Bool × Names) (coded× (coded_list coded_bool) (names.code (coded_list coded_ℕ) handle_code)) (λ r. (r.listed, r.named)) (λ p. record { listed = p.0; named = p.1 }) (λ _. refl)

-- what stands under a handle: handles count from 1
abbrev pub at : {X : Type 0} → List X → ℕ → Option X
at xs h = if h == 0 then None else slice_get xs (h - 1)

abbrev pub set_at : {X : Type 0} → List X → ℕ → X → List X
set_at xs h x = slice_set xs (h - 1) x

abbrev pub is_listed : List Bool → ℕ → Bool
is_listed listed h = unwrap_or (at listed h) false

-- no more handles are given than a handle of skynet has numbers within its node
abbrev pub most_handles : ℕ
most_handles = 65535

-- the handle that is given next
abbrev pub next_handle : Registry → Handle
next_handle r = record { 0 = length r.listed + 1 }

abbrev pub look : Registry → Dest → Option Handle
look r (Number n) = if is_listed r.listed n then Some (record { 0 = n }) else None
look r (Name text) = names.get r.named text

-- a new handle is listed
abbrev pub register : Registry → Registry
register r = record { listed = r.listed ++ true ∷ []; named = r.named }

-- a name has 2 to 64 bytes and begins with a full stop
abbrev pub is_name : List ℕ → Bool
is_name [] = false
is_name (c ∷ cs) = (c == 46) && (nat_le 1 (length cs) && nat_le (length cs) 63)

-- a listed handle may get a name that no other has
abbrev pub may_name : Registry → List ℕ → Handle → Bool
may_name r text h = is_name text && (not (names.contains_key r.named text) && is_listed r.listed h.0)

abbrev pub name : Registry → List ℕ → Handle → Registry
name r text h = record { listed = r.listed; named = names.insert r.named text h }

-- the logger and the launcher stay
abbrev pub may_retire : Registry → Handle → Bool
may_retire r h = is_listed r.listed h.0 && nat_lt 2 h.0

-- the names of the others
abbrev pub without : Handle → Names → Names
without h all = names.from_entries (filter (λ e. not (e.1.0 == h.0)) (names.entries all))

abbrev pub retire : Registry → Handle → Registry
retire r h = record { listed = set_at r.listed h.0 false; named = without h r.named }

-- what is done, with the registry after it

abbrev pub does_look : Registry → Dest → What × Registry
does_look r dest = (did.Look dest (look r dest), r)

-- s is how the script begins under the next handle, where handles are left and it reads
abbrev pub does_launch : {S : Type 0} → Registry → List ℕ → List Datum → Option S → What × Registry
does_launch r text args None = (did.Launch text args None, r)
does_launch r text args (Some s) = (did.Launch text args (Some (next_handle r)), register r)

abbrev pub does_name : Registry → List ℕ → Handle → What × Registry
does_name r text h = (did.Name text h (may_name r text h), if may_name r text h then name r text h else r)

abbrev pub does_retire : Registry → Handle → What × Registry
does_retire r h = (did.Retire h (may_retire r h), if may_retire r h then retire r h else r)
