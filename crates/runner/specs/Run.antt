-- What a run of a folder leaves.
use Rattle.std.specs.Prelude.{◌≡◌, ◌⊎◌, ℕ, Bool, true, false, List, Option, Some, None, IfSome, codes}
use Rattle.sk_types.specs.declared.number.Handle.{Handle}
use Rattle.sk_types.specs.declared.fault.SyntaxFault.{SyntaxFault}
use Rattle.sk_types.specs.declared.fault.StartFault.{StartFault}
use Rattle.sk_types.specs.declared.fault.StartFault.TheVariants as start
use Rattle.sk_types.specs.declared.status.Status.{Status}
use Rattle.sk_types.specs.declared.status.Status.TheVariants as status
use Rattle.sk_ports.specs.Causes.{Rose}
use Rattle.sk_ports.specs.Files.{Files, file}
use Rattle.sk_ports.specs.Pieces.{WrotePrefix, appended}
use Rattle.lua_tree.specs.declared.tree.Chunk.{Chunk}
use Rattle.lua_syntax.specs.Script.{Reads, IsFault}
use Rattle.log_script.specs.Form.{Logs, not_built}
use Rattle.runner.specs.World.{World, IsDrained, after, opening}

-- the file of the start script
abbrev pub start_file : List ℕ
start_file = codes "main.lua"

-- the text reads, and is of the form that can be run so far: it logs these texts
abbrev pub Runs : List ℕ → List (List ℕ) → Type 0
Runs bytes texts = ((chunk : Chunk) × Reads bytes chunk) × Logs bytes texts

-- a text that reads is of another form
abbrev pub IsOther : List ℕ → SyntaxFault → Type 0
IsOther bytes fault = (fault ≡ not_built) × ((chunk : Chunk) × Reads bytes chunk) × ((texts : List (List ℕ)) → Logs bytes texts → ⊥)

-- why a text cannot be run: it has this first fault, or it reads and is of another form
abbrev pub CannotRun : List ℕ → SyntaxFault → Type 0
CannotRun bytes fault = IsFault bytes fault ⊎ IsOther bytes fault

-- the start script is there, and logs these texts
abbrev pub Starts : List (List ℕ) → Files → Type 0
Starts texts files = (bytes : List ℕ) × (file files start_file ≡ Some bytes) × Runs bytes texts

-- the start script is there, and cannot be run
abbrev pub IsUnread : SyntaxFault → Files → Type 0
IsUnread fault files = (bytes : List ℕ) × (file files start_file ≡ Some bytes) × CannotRun bytes fault

-- why the start script cannot be launched
abbrev pub CannotStart : StartFault → Files → Type 0
CannotStart start.Missing files = file files start_file ≡ None
CannotStart (start.Unread fault) files = IsUnread fault files

-- the journal is a run from the folder's opening world to a drained one, with this text of the logger
pub record IsDrainedRun (files : Files) (journal : List Handle) (text : List ℕ) : Type 0 where
  pub texts : List (List ℕ)
  pub starts : Starts texts files
  pub end : World
  pub run : after journal (opening texts) ≡ Some (end, text)
  pub drained : IsDrained end

-- it is such a run, and a sink has got its text
abbrev pub RunWritten : Option (List ℕ) → Option (List ℕ) → List Handle → Files → Type 0
RunWritten before now journal files = (text : List ℕ) × IsDrainedRun files journal text × (now ≡ appended before text)

-- it is such a run, and a sink has got a prefix of its text
abbrev pub RunCut : Option (List ℕ) → Option (List ℕ) → List Handle → Files → Type 0
RunCut before now journal files = (text : List ℕ) × IsDrainedRun files journal text × WrotePrefix before now text

-- what may end the reading of what a text logs
abbrev pub IsOtherForm : List ℕ → Status → Type 0
IsOtherForm bytes (status.NoStart (start.Unread fault)) = (fault ≡ not_built) × ((texts : List (List ℕ)) → Logs bytes texts → ⊥)
IsOtherForm bytes status.Memory = Unit {0}
IsOtherForm bytes _ = ⊥

-- what may end the reading of a start script
abbrev pub IsRefused : List ℕ → Status → Type 0
IsRefused bytes (status.NoStart (start.Unread fault)) = CannotRun bytes fault
IsRefused bytes status.Memory = Unit {0}
IsRefused bytes _ = ⊥

-- what may end a call before its run, from the counts of the folder's faults before and now
abbrev pub EndsEarly : Option Files → ℕ → ℕ → Status → Type 0
EndsEarly held before now status.ReadFault = Rose before now
EndsEarly held before now (status.NoStart fault) = IfSome held (CannotStart fault) × (now ≡ before)
EndsEarly held before now status.Memory = now ≡ before
EndsEarly held before now _ = ⊥

-- the statuses of a call that did not run
abbrev pub is_early : Status → Bool
is_early status.Usage = true
is_early status.ReadFault = true
is_early (status.NoStart fault) = true
is_early _ = false

-- the statuses that are answered so far
abbrev pub is_answered : Status → Bool
is_answered status.EventsFull = false
is_answered status.TicksSpent = false
is_answered status.BytesFull = false
is_answered (status.JournalFault fault) = false
is_answered _ = true
