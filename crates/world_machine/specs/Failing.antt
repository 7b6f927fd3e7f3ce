-- Acts that are not done. They are this project's own.
use Rattle.std.specs.Prelude.{ℕ, ◌≡◌, Bool, true, List, Option, Some, None}
use Rattle.sk_types.specs.declared.number.Handle.{Handle}
use Rattle.message.specs.Actors.{Way}
use Rattle.message.specs.Texts.{line_of}
use Rattle.message.specs.Worlds.{World, act}
use Rattle.message.specs.declared.record.What.{What}
use Rattle.world_machine.specs.Machines.{Machine, Run}
use Rattle.world_machine.specs.declared.engine.ActError.{ActError}
use Rattle.world_machine.specs.declared.engine.ActError.TheVariants.{Fault, Memory, Spent}

-- The agent had an action, and this is the line that is written by it, if any; but its service met want of memory as it was
-- fed. So the agent may stand in a journal once more, and the machine goes on no further.
pub record IsSpent {S : Type 0} (way : Way S) (w : World S) (h : Handle) (line : Option (List ℕ)) (spent : Bool) : Type 0 where
  pub what : What
  pub after : World S
  pub acts : act way w h ≡ Some (what, after)
  pub line_is : line ≡ line_of h what
  pub met : spent ≡ true

-- the agent has no action, or there was no memory, and nothing changes; or the machine is spent by what it did
abbrev pub Fails : {S A : Type 0} → Way S → World S → Handle → Machine A → Machine A → ActError → Type 0
Fails way w h m m2 (Fault e) = (act way w h ≡ None) × (m2 ≡ m)
Fails way w h m m2 Memory = m2 ≡ m
Fails way w h m m2 (Spent line) = IsSpent way w h line m2.spent

-- the same, with the list of calls
abbrev pub FailsRun : {S A : Type 0} → Way S → World S → Handle → Run A → Run A → ActError → Type 0
FailsRun way w h r r2 (Fault e) = (act way w h ≡ None) × (r2 ≡ r)
FailsRun way w h r r2 Memory = r2 ≡ r
FailsRun way w h r r2 (Spent line) = IsSpent way w h line r2.spent
