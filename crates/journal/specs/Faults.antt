-- Where a text stops to be one of a language's.
use Rattle.std.specs.Prelude.{◌≤◌, ◌<◌, ℕ, List, ◌++◌, length, take}
use Rattle.sk_types.specs.declared.number.Handle.{Handle}
use Rattle.journal.specs.Format.{Spells, SpellsBody}
use Rattle.journal.specs.declared.fault.ReadError.{ReadError}
use Rattle.journal.specs.declared.fault.ReadError.TheVariants as error

-- some text of the language begins with this one
pub record Begins (L : List ℕ → Type 0) (text : List ℕ) : Type 0 where
  pub rest : List ℕ
  pub goes_on : L (text ++ rest)

-- the text is none of the language, and its longest part that one begins with has that length
pub record IsFirstFault (L : List ℕ → Type 0) (text : List ℕ) (offset : ℕ) : Type 0 where
  pub within : offset ≤ length text
  pub begins : Begins L (take offset text)
  pub longest : (n : ℕ) → offset < n → n ≤ length text → Begins L (take n text) → ⊥
  pub none : L text → ⊥

-- the texts of journals
pub record IsText (text : List ℕ) : Type 0 where
  pub agents : List Handle
  pub spells : Spells text agents

-- the texts of journals without their first line
pub record IsBody (text : List ℕ) : Type 0 where
  pub agents : List Handle
  pub spells : SpellsBody text agents

-- the error is the text's first fault, or want of memory
abbrev pub IsFault : (List ℕ → Type 0) → List ℕ → ReadError → Type 0
IsFault L text (error.Form offset) = IsFirstFault L text offset
IsFault L text error.Memory = Unit {0}
