-- The text of a journal, format 1.
use Rattle.std.specs.Prelude.{◌≡◌, ◌≤◌, ℕ, List, [], ◌∷◌, ◌++◌, codes, decimal, length}
use Rattle.sk_types.specs.declared.number.Handle.{Handle}

-- the first line
abbrev pub header : List ℕ
header = codes "skynet-journal 1\n"

-- a line for each entry: its agent's number
abbrev pub lines : List Handle → List ℕ
lines [] = []
lines (agent ∷ agents) = decimal agent.0 ++ (codes "\n" ++ lines agents)

-- the last line: the number of entries
abbrev pub last_line : ℕ → List ℕ
last_line count = codes "end " ++ (decimal count ++ codes "\n")

-- the text of a journal
abbrev pub spelled : List Handle → List ℕ
spelled agents = header ++ (lines agents ++ last_line (length agents))

-- agents that the format can name
abbrev pub AreKnown : List Handle → Type 0
AreKnown [] = Unit {0}
AreKnown (agent ∷ agents) = (agent.0 ≤ 65535) × AreKnown agents

-- a journal of the format
pub record IsJournal (agents : List Handle) : Type 0 where
  pub few : length agents ≤ 4000000
  pub known : AreKnown agents

-- the text is the spelling of these agents, a journal
pub record Spells (text : List ℕ) (agents : List Handle) : Type 0 where
  pub journal : IsJournal agents
  pub is : text ≡ spelled agents

-- the text is their spelling without the first line
pub record SpellsBody (text : List ℕ) (agents : List Handle) : Type 0 where
  pub journal : IsJournal agents
  pub is : text ≡ lines agents ++ last_line (length agents)
