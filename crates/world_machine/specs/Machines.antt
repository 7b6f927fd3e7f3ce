-- The machine as contracts see it, and its acts (skynet_server.c, with one worker).
use Rattle.std.specs.Prelude.{ℕ, ◌≡◌, Bool, List, Option, Some, length}
use Rattle.sk_types.specs.declared.number.Handle.{Handle}
use Rattle.message.specs.Actors.{Way}
use Rattle.message.specs.Registries.{at}
use Rattle.message.specs.Worlds.{World, act}
use Rattle.call_fates.specs.Table.{Table}
use Rattle.message.specs.Texts.{line_of}
use Rattle.message.specs.declared.record.What.{What}
use Rattle.message.specs.declared.place.Service.{Service}
use Rattle.world_machine.specs.Okay.{ServiceOk}

-- all agents and places; and whether a service met want of memory as it was fed
pub record Machine (A : Type 0) : Type 0 where
  pub world : World A
  pub spent : Bool

-- the same, with the list of calls
pub record Run (A : Type 0) : Type 0 where
  pub world : World A
  pub spent : Bool
  pub calls : Table

abbrev pub machine_of : {A : Type 0} → Run A → Machine A
machine_of r = record { world = r.world; spent = r.spent }

-- each handle that was given has a service and an inbox; each service is in a state that can be reached, and has its handle
pub record IsMachine {S : Type 0} (way : Way S) (sound : S → Type 0) (services : List (Service S)) (inboxes given : ℕ) : Type 0 where
  pub paired : length services ≡ inboxes
  pub registered : given ≡ inboxes
  pub okay : (h : Handle) (x : Service S) → at services h.0 ≡ Some x → ServiceOk way sound h x

-- agent h did this as its one next action, and this is the line that it wrote, if any
abbrev pub DidThis : {S : Type 0} → Way S → World S → Handle → Option (List ℕ) → World S → What → Type 0
DidThis way w h line w2 what = (act way w h ≡ Some (what, w2)) × (line ≡ line_of h what)

-- agent h did its one next action, and this is the line that it wrote, if any
abbrev pub Did : {S : Type 0} → Way S → World S → Handle → Option (List ℕ) → World S → Type 0
Did way w h line w2 = (what : What) × (act way w h ≡ Some (what, w2)) × (line ≡ line_of h what)
