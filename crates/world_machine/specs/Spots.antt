-- All places of a run (skynet_mq.c, skynet_handle.c, skynet_timer.c), and what a request does at one of them.
use Rattle.std.specs.Prelude.{ℕ, ◌≡◌, List, Option, Some, None}
use Rattle.sk_types.specs.declared.number.Handle.{Handle}
use Rattle.sk_types.specs.declared.number.Session.{Session}
use Rattle.message.specs.Inboxes.{put, mark}
use Rattle.message.specs.Registries.{Registry, does_look, does_name, does_retire, at, set_at}
use Rattle.message.specs.Clocks.{Clock, add}
use Rattle.message.specs.Steps.{input_of}
use Rattle.message.specs.Worlds.{World}
use Rattle.message.specs.declared.request.Request.{Request}
use Rattle.message.specs.declared.request.Request.TheVariants as ask
use Rattle.message.specs.declared.request.Answer.{Answer}
use Rattle.message.specs.declared.request.Input.TheVariants.{Answer as Answers}
use Rattle.message.specs.declared.record.What.{What}
use Rattle.message.specs.declared.record.What.TheVariants as did
use Rattle.message.specs.declared.place.InboxState.{InboxState}
use Rattle.message.specs.declared.place.Service.{Service}

pub record Spots : Type 0 where
  pub inboxes : List InboxState
  pub registry : Registry
  pub clock : Clock

-- the machine with these services and places
abbrev pub with_spots : {S : Type 0} → List (Service S) → Spots → List (Handle × Session) → World S
with_spots services p due = record { services = services; inboxes = p.inboxes; registry = p.registry; clock = p.clock; due = due }

abbrev pub in_registry : Spots → What × Registry → What × Spots
in_registry p d = (d.0, record { inboxes = p.inboxes; registry = d.1; clock = p.clock })

abbrev pub in_clock : Spots → What × Clock → What × Spots
in_clock p d = (d.0, record { inboxes = p.inboxes; registry = p.registry; clock = d.1 })

abbrev pub in_inbox_of : Spots → ℕ → Option InboxState → (InboxState → What × InboxState) → Option (What × Spots)
in_inbox_of p h None f = None
in_inbox_of p h (Some i) f = Some ((f i).0, record { inboxes = set_at p.inboxes h (f i).1; registry = p.registry; clock = p.clock })

-- at an inbox: nothing, where the handle was never given
abbrev pub in_inbox : Spots → ℕ → (InboxState → What × InboxState) → Option (What × Spots)
in_inbox p h f = in_inbox_of p h (at p.inboxes h) f

-- what a request of the service own does, and the places after it; a Launch, which brings a service, stands apart
abbrev pub asked_at : Handle → Request → Spots → Option (What × Spots)
asked_at own (ask.Look dest) p = Some (in_registry p (does_look p.registry dest))
asked_at own (ask.Put h m) p = in_inbox p h.0 (λ i. put h m i)
asked_at own (ask.Launch name args) p = None
asked_at own (ask.Name text h) p = Some (in_registry p (does_name p.registry text h))
asked_at own (ask.Retire h) p = Some (in_registry p (does_retire p.registry h))
asked_at own (ask.Mark h) p = in_inbox p h.0 (λ i. mark h i)
asked_at own (ask.Later n x) p = Some (in_clock p (did.Later n x, add p.clock n own x))
asked_at own ask.Now p = Some (in_clock p (did.Now p.clock.now, p.clock))

-- this is what was done, with this answer
abbrev pub Gives : Option (What × Spots) → Answer → Spots → Type 0
Gives None a p = ⊥
Gives (Some d) a p = (input_of d.0 ≡ Answers a) × (d.1 ≡ p)

-- this is how the places were left
abbrev pub Leaves : Option (What × Spots) → Spots → Type 0
Leaves None p = ⊥
Leaves (Some d) p = d.1 ≡ p
