-- A table as the list of its pairs, in the order of first assignment (Lua 5.4 manual, sections 2.1, 3.4.7 and 6.1).
use Rattle.std.specs.Prelude.{◌≡◌, ℕ, ◌+◌, ◌<◌, ◌&&◌, Bool, true, false, not, List, Option, Some, None, is_some, if◌then◌else◌, unwrap_or, find, drop, position, Result, Ok, Err, ℤ, pos, negsuc}
use Rattle.std.specs.Map.{lookup, keys_of}
use Rattle.indexmap.specs.IndexMap.{insert_entry}
use Rattle.lua_value.specs.declared.value.Value.{Value}
use Rattle.lua_value.specs.declared.value.Value.TheVariants as value
use Rattle.lua_value.specs.Same.{same, is_nil}
use Rattle.lua_table.specs.declared.table.NoKey.{NoKey}

-- the pairs of a table; a value that is nil keeps its key's place
abbrev pub Pairs : Type 0
Pairs = List (Value × Value)

-- the value at a key, or nil
abbrev pub value_of : Pairs → Value → Value
value_of ps key = unwrap_or (lookup (same key) ps) value.Nil

-- a new key with nil adds nothing
abbrev pub adds_nothing : Pairs → Value → Value → Bool
adds_nothing ps key v = is_nil v && not (is_some (lookup (same key) ps))

-- a key that has a place keeps it, and a new key goes last
abbrev pub with_pair : Pairs → Value → Value → Pairs
with_pair ps key v = if adds_nothing ps key v then ps else insert_entry same ps key v

-- the first pair whose value is not nil
abbrev pub first_set : Pairs → Option (Value × Value)
first_set ps = find (λ p. not (is_nil p.1)) ps

-- the pair, where its value is not nil
abbrev pub set_pair : Option (Value × Value) → Option (Value × Value)
set_pair None = None
set_pair (Some p) = if is_nil p.1 then None else Some p

abbrev pub next_after : Pairs → Option ℕ → Result (Option (Value × Value)) NoKey
next_after ps None = Err (record {})
next_after ps (Some i) = Ok (first_set (drop (i + 1) ps))

-- the first pair after a key; from nil on, the first of all
abbrev pub next_of : Pairs → Value → Result (Option (Value × Value)) NoKey
next_of ps key =
    if is_nil key then Ok (first_set ps) else next_after ps (position (same key) (keys_of ps))

-- the value at an integer from 1 on is not nil
abbrev pub IsFilled : Pairs → ℕ → Type 0
IsFilled ps i = is_nil (value_of ps (value.Int (pos (i + 1)))) ≡ false

-- n is the least border: the values at 1 to n are not nil, and the next one is
pub record IsLeastBorder (ps : Pairs) (n : ℕ) : Type 0 where
  pub filled : (i : ℕ) → i < n → IsFilled ps i
  pub ends : is_nil (value_of ps (value.Int (pos (n + 1)))) ≡ true

abbrev pub IsBorder : Pairs → ℤ → Type 0
IsBorder ps (pos n) = IsLeastBorder ps n
IsBorder ps (negsuc n) = ⊥
