-- What a check says of the scripts of a folder.
use Rattle.std.specs.Prelude.{◌≡◌, ◌&&◌, ℕ, List, [], ◌∷◌, ◌++◌, Bool, true, false, Option, Some, None, is_some, map, flat_map, codes, decimal, IfSome}
use Rattle.std.specs.List.{All}
use Rattle.std.specs.List.Sorted.{IsStrictlySortedBy}
use Rattle.std.specs.Ordering.{nat_cmp}
use Rattle.std.specs.Cmp.Lexicographic.{slice_cmp}
use Rattle.sk_types.specs.declared.fault.SyntaxFault.{SyntaxFault}
use Rattle.sk_types.specs.declared.fault.StartFault.TheVariants as start
use Rattle.sk_types.specs.declared.status.Status.{Status}
use Rattle.sk_types.specs.declared.status.Status.TheVariants as status
use Rattle.sk_types.specs.Fault.{text_of}
use Rattle.sk_ports.specs.Causes.{Rose}
use Rattle.sk_ports.specs.Files.{Files, file, has_name}
use Rattle.sk_ports.specs.Pieces.{WrotePrefix, appended}
use Rattle.lua_tree.specs.declared.tree.Chunk.{Chunk}
use Rattle.lua_syntax.specs.Script.{Reads, IsFault}
use Rattle.runner.specs.Scripts.{is_script}

-- what is said of a script: nothing where it reads, else its first fault
pub record Verdict : Type 0 where
  pub name : List ℕ
  pub fault : Option SyntaxFault

abbrev pub name_of : Verdict → List ℕ
name_of v = v.name

abbrev pub IsTrueOf : List ℕ → Option SyntaxFault → Type 0
IsTrueOf bytes None = (chunk : Chunk) × Reads bytes chunk
IsTrueOf bytes (Some fault) = IsFault bytes fault

abbrev pub IsVerdict : Files → Verdict → Type 0
IsVerdict files v = (bytes : List ℕ) × (file files v.name ≡ Some bytes) × IsTrueOf bytes v.fault

-- in byte order
abbrev pub InOrder : List (List ℕ) → Type 0
InOrder names = IsStrictlySortedBy (slice_cmp nat_cmp) names

-- the names are those of the scripts among the listed ones, each once, in byte order
pub record AreScripts (listed names : List (List ℕ)) : Type 0 where
  pub all : (name : List ℕ) → has_name names name ≡ (has_name listed name && is_script name)
  pub order : InOrder names

-- the verdicts are those on the scripts of a folder, each once, in byte order of their names
pub record IsReport (files : Files) (vs : List Verdict) : Type 0 where
  pub all : (name : List ℕ) → has_name (map name_of vs) name ≡ (is_some (file files name) && is_script name)
  pub order : InOrder (map name_of vs)
  pub each : All (IsVerdict files) vs

-- `NAME: ok` or `NAME:LINE: KIND`
abbrev pub said : Option SyntaxFault → List ℕ
said None = codes ": ok"
said (Some fault) = codes ":" ++ decimal fault.line ++ codes ": " ++ text_of fault.kind

-- one line of the report
abbrev pub line_of : Verdict → List ℕ
line_of v = v.name ++ said v.fault ++ 10 ∷ []

abbrev pub text_of_report : List Verdict → List ℕ
text_of_report vs = flat_map line_of vs

abbrev pub or_later : Option SyntaxFault → Option SyntaxFault → Option SyntaxFault
or_later None later = later
or_later (Some fault) later = Some fault

-- the fault of the first script that does not read
abbrev pub first_fault : List Verdict → Option SyntaxFault
first_fault [] = None
first_fault (v ∷ vs) = or_later v.fault (first_fault vs)

-- a report of the folder with this first fault was written
abbrev pub Written : Option (List ℕ) → Option (List ℕ) → Option SyntaxFault → Files → Type 0
Written before now fault files = (vs : List Verdict) × IsReport files vs × (first_fault vs ≡ fault) × (now ≡ appended before (text_of_report vs))

-- a prefix of a report of the folder was written
abbrev pub Cut : Option (List ℕ) → Option (List ℕ) → Files → Type 0
Cut before now files = (vs : List Verdict) × IsReport files vs × WrotePrefix before now (text_of_report vs)

-- what is said of the script of this name
abbrev pub IsVerdictOn : List ℕ → Option SyntaxFault → Files → Type 0
IsVerdictOn name fault files = IsVerdict files (record { name = name; fault = fault })

-- what writing a report leaves in a sink, from what it had got and how often it had failed before and now
abbrev pub ReportsAs : List Verdict → Option (List ℕ) → Option (List ℕ) → ℕ → ℕ → Status → Type 0
ReportsAs vs before now faults later status.Done = (first_fault vs ≡ None) × (now ≡ appended before (text_of_report vs)) × (later ≡ faults)
ReportsAs vs before now faults later (status.NoStart (start.Unread fault)) = (first_fault vs ≡ Some fault) × (now ≡ appended before (text_of_report vs)) × (later ≡ faults)
ReportsAs vs before now faults later status.WriteFault = WrotePrefix before now (text_of_report vs) × Rose faults later
ReportsAs vs before now faults later status.Memory = (now ≡ before) × (later ≡ faults)
ReportsAs vs before now faults later _ = ⊥

-- the statuses of a call that wrote nothing
abbrev pub is_early : Status → Bool
is_early status.Usage = true
is_early status.ReadFault = true
is_early status.Memory = true
is_early _ = false

-- the statuses that are answered
abbrev pub is_answered : Status → Bool
is_answered status.Done = true
is_answered status.Usage = true
is_answered status.ReadFault = true
is_answered status.WriteFault = true
is_answered status.Memory = true
is_answered (status.NoStart (start.Unread fault)) = true
is_answered _ = false
