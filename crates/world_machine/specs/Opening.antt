-- The world before the first act, and its parts (skynet_start and bootstrap in skynet_start.c).
use Rattle.std.specs.Prelude.{ℕ, ◌≡◌, false, true, List, [], ◌∷◌, Some}
use Rattle.std.specs.FinMap as names
use Rattle.sk_types.specs.declared.number.Handle.{Handle}
use Rattle.message.specs.Actors.{Way}
use Rattle.message.specs.Registries.{Registry}
use Rattle.message.specs.Worlds.{opening, over, first_names, empty_inbox, start_inbox}
use Rattle.world_machine.specs.Machines.{Machine, Run, machine_of}
use Rattle.world_machine.specs.Spots.{Spots}

-- the logger's handle, the launcher's, and that of the start service
abbrev pub first_handle : Handle
first_handle = record { 0 = 1 }

abbrev pub second_handle : Handle
second_handle = record { 0 = 2 }

abbrev pub start_handle : Handle
start_handle = record { 0 = 3 }

abbrev pub opening_registry : Registry
opening_registry = record { listed = true ∷ true ∷ true ∷ []; named = names.from_entries first_names }

abbrev pub opening_spots : Spots
opening_spots = record { inboxes = empty_inbox ∷ empty_inbox ∷ start_inbox ∷ []; registry = opening_registry; clock = record { now = 0; timers = [] } }

-- the machine is in its opening world, in which the start service begins as its script says; nothing met want of memory
abbrev pub Opens : {S A : Type 0} → Way S → (A → S) → A → A → List ℕ → Machine A → Type 0
Opens {S = S} way f logger launcher name m = (s : S) × (way.begins name start_handle ≡ Some s) × (over f m.world ≡ opening (f logger) (f launcher) s) × (m.spent ≡ false)

-- and no call was made yet
abbrev pub OpensRun : {S A : Type 0} → Way S → (A → S) → A → A → List ℕ → Run A → Type 0
OpensRun way f logger launcher name r = Opens way f logger launcher name (machine_of r) × (r.calls ≡ [])
