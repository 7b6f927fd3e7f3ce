-- The two levels of a run with many workers: the services and their inboxes, and the turns by which the services act (skynet_mq.c,
-- skynet_server.c and skynet_start.c).
use Rattle.std.specs.Prelude.{ℕ, ◌≡◌, ◌<◌, ◌≤◌, List, [], ◌∷◌, length, Some}
use Rattle.sk_types.specs.declared.number.Handle.{Handle}
use Rattle.sk_types.specs.declared.number.Session.{Session}
use Rattle.message.specs.Actors.{Way}
use Rattle.message.specs.Registries.{at}
use Rattle.message.specs.Worlds.{World, over}
use Rattle.message.specs.declared.request.Message.{Message}
use Rattle.message.specs.declared.place.InboxStatus.{InboxStatus}
use Rattle.message.specs.declared.place.InboxStatus.TheVariants.{Live, Closing, Gone}
use Rattle.message.specs.declared.place.InboxState.{InboxState}
use Rattle.message.specs.declared.place.Timer.{Timer}
use Rattle.message.specs.declared.place.Service.{Service}
use Rattle.message.specs.declared.place.Service.TheVariants.{Serving, Leaving}
use Rattle.world_machine.specs.Serving.{IsIdle, IsLeaving}
use Rattle.schedule_core.specs.declared.spot.Spot.{Spot}
use Rattle.schedule_core.specs.declared.spot.Spot.TheVariants.{Home, Queued, Hand, Spent}
use Rattle.schedule_core.specs.Turns.{Turns, ArePlaced}

-- a world, and the turns of its services
pub record Levels (S : Type 0) : Type 0 where
  pub world : World S
  pub turns : Turns

-- the service has ended, and no bounce is left
abbrev pub IsOver : {S : Type 0} → Service S → Type 0
IsOver (Serving s) = ⊥
IsOver (Leaving e) = e.bounces ≡ []

-- at home or in the queue
abbrev pub Waits : Spot → Type 0
Waits Home = Unit {0}
Waits Queued = Unit {0}
Waits Hand = ⊥
Waits Spent = ⊥

-- in the queue or in a hand
abbrev pub IsAway : Spot → Type 0
IsAway Home = ⊥
IsAway Queued = Unit {0}
IsAway Hand = Unit {0}
IsAway Spent = ⊥

-- in a hand or spent
abbrev pub IsOut : Spot → Type 0
IsOut Home = ⊥
IsOut Queued = ⊥
IsOut Hand = Unit {0}
IsOut Spent = Unit {0}

-- an inbox that is closing, or is live and not empty
abbrev pub HasWork : InboxStatus → List Message → Type 0
HasWork Live [] = ⊥
HasWork Live (m ∷ ms) = Unit {0}
HasWork Closing ms = Unit {0}
HasWork Gone ms = ⊥

-- a service, its inbox, and where its turn is
pub record CellOk {S : Type 0} (way : Way S) (x : Service S) (i : InboxState) (spot : Spot) : Type 0 where
  -- a turn at home or in the queue belongs to an idle service
  pub idle : Waits spot → IsIdle way x
  -- where there is work for the service its turn is in the queue or in a hand
  pub work : HasWork i.status i.waiting → IsAway spot
  -- an inbox is gone exactly where its service has ended
  pub gone : i.status ≡ Gone → IsLeaving x
  pub left : IsLeaving x → i.status ≡ Gone
  -- a gone inbox is empty, and its turn is in a hand or spent
  pub clear : i.status ≡ Gone → (i.waiting ≡ []) × IsOut spot
  -- a spent turn's service is over
  pub spent : spot ≡ Spent → IsOver x

-- Each handle that was given has a service, an inbox and a turn; each turn is in one place, once; and where it is fits what its
-- service and its inbox are.
pub record HasTurns {S : Type 0} (way : Way S) (c : Levels S) : Type 0 where
  pub placed : ArePlaced c.turns
  pub cells : (h : Handle) (x : Service S) (i : InboxState) (spot : Spot)
      → at c.world.services h.0 ≡ Some x → at c.world.inboxes h.0 ≡ Some i → at c.turns.spots h.0 ≡ Some spot → CellOk way x i spot
  pub services : length c.world.services ≡ length c.turns.spots
  pub inboxes : length c.world.inboxes ≡ length c.turns.spots
  pub listed : length c.world.registry.listed ≡ length c.turns.spots

-- TIMERS

-- one of the first n handles
abbrev pub Within : ℕ → Handle → Type 0
Within n h = (0 < h.0) × (h.0 ≤ n)

abbrev pub TimersIn : ℕ → List Timer → Type 0
TimersIn n [] = Unit {0}
TimersIn n (t ∷ ts) = Within n t.handle × TimersIn n ts

abbrev pub DueIn : ℕ → List (Handle × Session) → Type 0
DueIn n [] = Unit {0}
DueIn n (d ∷ ds) = Within n d.0 × DueIn n ds

-- each timer that waits or is due is that of a handle that was given
pub record HasTimers {S : Type 0} (w : World S) : Type 0 where
  pub waiting : TimersIn (length w.inboxes) w.clock.timers
  pub due : DueIn (length w.inboxes) w.due

-- THE TWO LEVELS

-- the two levels fit: each service has its turn where it fits, and each timer is that of a handle that was given
pub record IsTwo {S : Type 0} (way : Way S) (c : Levels S) : Type 0 where
  pub turns : HasTurns way c
  pub timers : HasTimers c.world

-- THE MEANINGS

-- the levels over the meanings of the services
abbrev pub levels_over : {A S : Type 0} → (A → S) → World A → Turns → Levels S
levels_over f w t = record { world = over f w; turns = t }
