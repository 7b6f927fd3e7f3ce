-- What may follow a part of a journal's lines.
use Rattle.std.specs.Prelude.{◌≡◌, ◌+◌, ◌-◌, ◌*◌, ◌≤◌, ◌<◌, ℕ, List, [], ◌∷◌, ◌++◌, decimal, length, take, slice_get, Some}
use Rattle.sk_types.specs.declared.number.Handle.{Handle}
use Rattle.journal.specs.Faults.{IsBody}
use Rattle.journal.specs.Format.{AreKnown, IsJournal, last_line, lines}
use Rattle.journal.specs.declared.lines.Spot.{Spot}
use Rattle.journal.specs.declared.lines.Spot.TheVariants as spot
use Rattle.journal.specs.declared.lines.Step.{Step}
use Rattle.journal.specs.declared.lines.Step.TheVariants as step

-- a number, with more digits behind it
abbrev pub value : ℕ → List ℕ → ℕ
value n [] = n
value n (byte ∷ bytes) = value (n * 10 + (byte - 48)) bytes

-- the bytes are digits, and none of them follows a leading zero
abbrev pub GoesOn : ℕ → List ℕ → Type 0
GoesOn n [] = Unit {0}
GoesOn n (byte ∷ bytes) = (0 < n) × (48 ≤ byte) × (byte ≤ 57) × GoesOn (n * 10 + (byte - 48)) bytes

-- what may follow so many entries: more of them, and the last line
pub record LineTail (entries : ℕ) (text : List ℕ) : Type 0 where
  pub agents : List Handle
  pub few : entries + length agents ≤ 4000000
  pub known : AreKnown agents
  pub is : text ≡ lines agents ++ last_line (entries + length agents)

-- what may follow so many entries and a part of a number: more digits, and the lines after it
pub record NumberTail (entries number : ℕ) (text : List ℕ) : Type 0 where
  pub digits : List ℕ
  pub goes_on : GoesOn number digits
  pub small : value number digits ≤ 65535
  pub after : List ℕ
  pub lines_after : LineTail (entries + 1) after
  pub is : text ≡ digits ++ 10 ∷ after

-- what may follow a place in the lines
abbrev pub Tail : Spot → ℕ → List ℕ → Type 0
Tail spot.Line entries = LineTail entries
Tail (spot.Number n) entries = NumberTail entries n

-- the part of a line that stands before a place
abbrev pub begun : Spot → List ℕ
begun spot.Line = []
begun (spot.Number n) = decimal n

-- a number that is begun is an entry's, and there is room for it
abbrev pub IsPlace : Spot → ℕ → Type 0
IsPlace spot.Line entries = Unit {0}
IsPlace (spot.Number n) entries = (entries < 4000000) × (n ≤ 65535)

-- what a byte does at a place after so many entries
abbrev pub Takes : Spot → ℕ → ℕ → Step → Type 0
Takes at byte entries (step.Digit n) = (begun at ++ byte ∷ [] ≡ decimal n) × IsPlace (spot.Number n) entries
    × ((text : List ℕ) → Tail at entries (byte ∷ text) → NumberTail entries n text)
Takes at byte entries (step.Entry n) = (at ≡ spot.Number n) × (byte ≡ 10)
Takes at byte entries step.Last = (at ≡ spot.Line) × (byte ≡ 101)
Takes at byte entries step.Fault = (text : List ℕ) → Tail at entries (byte ∷ text) → ⊥

-- a place that was reached: the bytes before it are the lines of these agents and the begun one, and no journal goes on otherwise
pub record IsReached (body : List ℕ) (at : ℕ) (agents : List Handle) (place : Spot) : Type 0 where
  pub journal : IsJournal agents
  pub is_place : IsPlace place (length agents)
  pub is : take at body ≡ lines agents ++ begun place
  pub only : (text : List ℕ) → IsBody (take at body ++ text) → Tail place (length agents) text

-- the last line begins there, after the lines of these agents
pub record LastBegins (body : List ℕ) (at : ℕ) (agents : List Handle) : Type 0 where
  pub within : at < length body
  pub first : slice_get body at ≡ Some 101
  pub reached : IsReached body at agents spot.Line
