-- The scripts of a folder.
use Rattle.std.specs.Prelude.{◌≡◌, ℕ, List, [], ◌∷◌, ◌++◌, Bool, true, Some, None, MatchBool, codes, if◌then◌else◌, nat_eq}
use Rattle.std.specs.List.{ends_with}
use Rattle.sk_ports.specs.Files.{Files, file, has_name}

-- the name of a script ends in .lua
abbrev pub is_script : List ℕ → Bool
is_script name = ends_with nat_eq name (codes ".lua")

-- where its name is a script's, the file is added
abbrev pub AddsScript : List ℕ → Files → Files → Files → Type 0
AddsScript name before after files =
    MatchBool (is_script name) ((bytes : List ℕ) × (file files name ≡ Some bytes) × (after ≡ before ++ (name, bytes) ∷ [])) (after ≡ before)

-- of these names the scripts are as in the folder
abbrev pub KeepsScripts : List (List ℕ) → Files → Files → Type 0
KeepsScripts names scripts files = (name : List ℕ) → is_script name ≡ true → file scripts name ≡ (if has_name names name then file files name else None)

-- the scripts are as in the folder
abbrev pub HasScripts : Files → Files → Type 0
HasScripts scripts files = (name : List ℕ) → is_script name ≡ true → file scripts name ≡ file files name
