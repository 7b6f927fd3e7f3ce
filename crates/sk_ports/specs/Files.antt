-- The files of a folder.
use Rattle.std.specs.Prelude.{IfSome, ◌≡◌, ℕ, List, [], ◌∷◌, ◌++◌, if◌then◌else◌, Option, Some, None, is_some, map, filter, not, Bool, true, string_bytes, Vec, String}
use Rattle.std.specs.Str.{bytes_eq}
use Rattle.std.specs.List.{list_any}
use Rattle.std.specs.Map.{lookup}

-- names with their bytes; of two equal names the first counts
abbrev pub Files : Type 0
Files = List (List ℕ × List ℕ)

-- the bytes under a name
abbrev pub file : Files → List ℕ → Option (List ℕ)
file files name = lookup (bytes_eq name) files

-- the name is among the names
abbrev pub has_name : List (List ℕ) → List ℕ → Bool
has_name names name = list_any (bytes_eq name) names

-- the names, and this one where it is not among them
abbrev pub with_name : List (List ℕ) → List ℕ → List (List ℕ)
with_name names name = if has_name names name then names else names ++ name ∷ []

-- the names are those of the files
abbrev pub Lists : List (List ℕ) → Files → Type 0
Lists names files = (name : List ℕ) → has_name names name ≡ is_some (file files name)

-- where the files are told, the names are theirs
abbrev pub ListsTold : Option Files → List (List ℕ) → Type 0
ListsTold held names = IfSome held (Lists names)

-- where the files are told, the bytes are those under the name
abbrev pub ReadsTold : Option Files → List ℕ → List ℕ → Type 0
ReadsTold held name bytes = IfSome held (λ files. file files name ≡ Some bytes)

-- the name is in the list that the last listing gave
abbrev pub IsListed : Option (List (List ℕ)) → List ℕ → Type 0
IsListed None name = ⊥
IsListed (Some names) name = has_name names name ≡ true

module _ {Z Y : Type 0} where
  -- a pair of a name and its bytes
  abbrev pub entry_of : String Z × Vec ℕ Y → List ℕ × List ℕ
  entry_of p = (string_bytes p.0, p.1.items)

  abbrev pub files_of : List (String Z × Vec ℕ Y) → Files
  files_of = map entry_of

-- the names, each once, where it first stands
abbrev pub names_of : Files → List (List ℕ)
names_of [] = []
names_of (f ∷ fs) = f.0 ∷ filter (λ name. not (bytes_eq name f.0)) (names_of fs)
