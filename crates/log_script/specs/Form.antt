-- Which texts are scripts so far, and what each logs.
use Rattle.std.specs.Prelude.{◌≡◌, ◌⊎◌, ◌≤◌, ◌==◌, ◌&&◌, not, ℕ, List, [], ◌∷◌, ◌++◌, Bool, true, length, codes}
use Rattle.std.specs.List.{list_all}
use Rattle.sk_types.specs.declared.fault.SyntaxFault.{SyntaxFault}
use Rattle.sk_types.specs.declared.fault.SyntaxKind.TheVariants as kind
use Rattle.log_script.specs.declared.reader.LogError.{LogError}
use Rattle.log_script.specs.declared.reader.LogError.TheVariants as error

-- local skynet = require "skynet"
abbrev pub first_line : List ℕ
first_line = codes "local skynet = require " ++ 34 ∷ codes "skynet" ++ 34 ∷ []

-- an end of line, and then skynet.error("
abbrev pub opening : List ℕ
opening = 10 ∷ codes "skynet.error(" ++ 34 ∷ []

-- ")
abbrev pub closing : List ℕ
closing = 34 ∷ 41 ∷ []

-- neither a quote, nor a backslash, nor an end of line
abbrev pub is_plain : ℕ → Bool
is_plain byte = not (byte == 34) && not (byte == 92) && not (byte == 13) && not (byte == 10)

-- a text that may be logged
abbrev pub IsPlain : List ℕ → Type 0
IsPlain text = list_all is_plain text ≡ true

-- a script may end here: the last line's end may be left out
abbrev pub IsEnd : List ℕ → Type 0
IsEnd rest = (rest ≡ []) ⊎ (rest ≡ 10 ∷ [])

-- rest begins with a line that logs this text, and more follows it
abbrev pub IsLine : List ℕ → List ℕ → List ℕ → Type 0
IsLine rest text more = IsPlain text × (rest ≡ opening ++ (text ++ (closing ++ more)))

-- rest begins with no line
abbrev pub NoLine : List ℕ → Type 0
NoLine rest = (text more : List ℕ) → IsLine rest text more → ⊥

-- what follows the first line logs these texts, a line each
abbrev pub Lines : List (List ℕ) → List ℕ → Type 0
Lines [] rest = IsEnd rest
Lines (text ∷ texts) rest = (more : List ℕ) × IsLine rest text more × Lines texts more

-- the bytes are a script that logs these texts
abbrev pub Logs : List ℕ → List (List ℕ) → Type 0
Logs source texts = (length source ≤ 1048576) × (((source ≡ []) × (texts ≡ [])) ⊎ ((rest : List ℕ) × (source ≡ first_line ++ rest) × Lines texts rest))

-- the fault of a text that is no such script
abbrev pub not_built : SyntaxFault
not_built = record { line = 1; kind = kind.NotBuilt }

-- a fault comes only where the lines log nothing that can be read
abbrev pub HasNoLines : List ℕ → LogError → Type 0
HasNoLines rest error.Memory = Unit {0}
HasNoLines rest (error.Fault fault) = (fault ≡ not_built) × ((texts : List (List ℕ)) → Lines texts rest → ⊥)

-- a fault comes only where the text is no script
abbrev pub IsRefused : List ℕ → LogError → Type 0
IsRefused source error.Memory = Unit {0}
IsRefused source (error.Fault fault) = (fault ≡ not_built) × ((texts : List (List ℕ)) → Logs source texts → ⊥)

-- what the lines of source log is what was found, and then what the rest logs
pub record Continues (source : List ℕ) (found : List (List ℕ)) (rest : List ℕ) : Type 0 where
  pub on : (texts : List (List ℕ)) → Lines texts rest → Lines (found ++ texts) source
  pub back : (all : List (List ℕ)) → Lines all source → (texts : List (List ℕ)) × (all ≡ found ++ texts) × Lines texts rest
