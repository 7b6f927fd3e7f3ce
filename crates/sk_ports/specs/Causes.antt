-- Counts of faults. A count never falls, and stops at its last value.
use Rattle.std.specs.Prelude.{◌≡◌, ℕ, ◌+◌, ◌-◌, ◌≤◌, ◌^◌, min, Result, OnOk, OnErr, IfErr}
use Rattle.sk_ports.specs.declared.fault.FolderFault.{FolderFault}
use Rattle.sk_ports.specs.declared.fault.FolderFault.TheVariants as fault

-- the count rose; one that stands at its last value counts as one that rose
abbrev pub Rose : ℕ → ℕ → Type 0
Rose before now = min (before + 1) (2 ^ 64 - 1) ≤ now

-- the count never falls, an error comes only where it rose, and an Ok leaves it
pub record HasCause {T E : Type 0} (before now : ℕ) (result : Result T E) : Type 0 where
  pub later : before ≤ now
  pub failed : OnErr result (Rose before now)
  pub kept : OnOk result (now ≡ before)

-- the count rose where a folder failed, and stays on any other answer
abbrev pub FolderCause : ℕ → ℕ → FolderFault → Type 0
FolderCause before now fault.Failed = Rose before now
FolderCause before now fault.Memory = now ≡ before

pub record HasFolderCause {T : Type 0} (before now : ℕ) (result : Result T FolderFault) : Type 0 where
  pub later : before ≤ now
  pub failed : IfErr result (FolderCause before now)
  pub kept : OnOk result (now ≡ before)
