-- The steps of workers (thread_worker in skynet_start.c, skynet_context_message_dispatch in skynet_server.c), and runs of them in any
-- order.
use Rattle.std.specs.Prelude.{ℕ, ◌≡◌, ◌≢◌, ◌⊎◌, List, [], ◌∷◌, ◌++◌, Some, None, slice_get}
use Rattle.sk_types.specs.declared.number.Handle.{Handle}
use Rattle.message.specs.Actors.{Way}
use Rattle.message.specs.Registries.{at}
use Rattle.message.specs.Worlds.{World, act}
use Rattle.message.specs.declared.request.Message.{Message}
use Rattle.message.specs.declared.request.Next.TheVariants.{Idle}
use Rattle.message.specs.declared.record.What.{What}
use Rattle.message.specs.declared.record.What.TheVariants as did
use Rattle.message.specs.declared.place.InboxStatus.{InboxStatus}
use Rattle.message.specs.declared.place.InboxStatus.TheVariants.{Live, Closing, Gone}
use Rattle.message.specs.declared.place.InboxState.{InboxState}
use Rattle.message.specs.declared.place.Service.{Service}
use Rattle.message.specs.declared.place.Service.TheVariants.{Serving, Leaving}
use Rattle.world_machine.specs.Serving.{IsIdle}
use Rattle.world_machine.specs.Launching.{clock_agent}
use Rattle.schedule_core.specs.declared.spot.Spot.TheVariants.{Home, Spent}
use Rattle.schedule_core.specs.declared.action.Action.{Action}
use Rattle.schedule_core.specs.declared.action.Action.TheVariants as does
use Rattle.schedule_core.specs.Turns.{Turns, laid, sent_last, turns_after, IsFetch}
use Rattle.schedule_core.specs.Levels.{Levels}

-- ONE STEP

-- an idle turn: it goes home where its inbox is live and empty, and stays in hand where that is live and not empty
abbrev pub ParksAt : Turns → ℕ → Handle → InboxStatus → List Message → Turns → Type 0
ParksAt t i own Live [] t2 = t2 ≡ laid t i own Home
ParksAt t i own Live (m ∷ ms) t2 = t2 ≡ t
ParksAt t i own Closing ms t2 = ⊥
ParksAt t i own Gone ms t2 = ⊥

-- a turn whose service is over is spent
abbrev pub ParksBy : {S : Type 0} → Way S → Service S → InboxState → Turns → ℕ → Handle → Turns → Type 0
ParksBy way (Serving s) b t i own t2 = (way.next s ≡ Idle) × ParksAt t i own b.status b.waiting t2
ParksBy way (Leaving e) b t i own t2 = (e.bounces ≡ []) × (t2 ≡ laid t i own Spent)

-- the turn in hand i, that of own, is parked
pub record IsPark {S : Type 0} (way : Way S) (w : World S) (t : Turns) (i : ℕ) (own : Handle) (t2 : Turns) : Type 0 where
  pub has : slice_get t.hands i ≡ Some (Some own)
  pub service : Service S
  pub there : at w.services own.0 ≡ Some service
  pub inbox : InboxState
  pub found : at w.inboxes own.0 ≡ Some inbox
  pub parks : ParksBy way service inbox t i own t2

-- the idle turn in hand i, that of own, goes to the end of the queue
pub record IsRequeue {S : Type 0} (way : Way S) (w : World S) (t : Turns) (i : ℕ) (own : Handle) (t2 : Turns) : Type 0 where
  pub has : slice_get t.hands i ≡ Some (Some own)
  pub service : Service S
  pub there : at w.services own.0 ≡ Some service
  pub idle : IsIdle way service
  pub after : t2 ≡ sent_last t i own

-- the idle turn in hand i goes to the end of the queue, which is not empty, and the first comes into that hand
pub record IsExchange {S : Type 0} (way : Way S) (w : World S) (t : Turns) (i : ℕ) (old new : Handle) (t2 : Turns) : Type 0 where
  pub mid : Turns
  pub waits : t.queue ≢ []
  pub puts : IsRequeue way w t i old mid
  pub gets : IsFetch mid i new t2

-- one empty hand more
abbrev pub with_hand : Turns → Turns
with_hand t = record { spots = t.spots; queue = t.queue; hands = t.hands ++ None ∷ [] }

-- a launch that brought a service
abbrev pub IsLaunch : What → Type 0
IsLaunch (did.Launch name args (Some h)) = Unit {0}
IsLaunch _ = ⊥

-- The service own, whose turn is in hand i, does its one next action. Where each service has a hand of its own, one is added for a
-- service that is launched.
pub record IsAct {S : Type 0} (way : Way S) (w : World S) (t : Turns) (i : ℕ) (own : Handle) (what : What) (w2 : World S) (t2 : Turns) : Type 0 where
  pub has : slice_get t.hands i ≡ Some (Some own)
  pub acts : act way w own ≡ Some (what, w2)
  pub after : (t2 ≡ turns_after t what) ⊎ (IsLaunch what × (t2 ≡ with_hand (turns_after t what)))

-- agent 0 does its one next action
pub record IsClock {S : Type 0} (way : Way S) (w : World S) (t : Turns) (what : What) (w2 : World S) (t2 : Turns) : Type 0 where
  pub acts : act way w clock_agent ≡ Some (what, w2)
  pub after : t2 ≡ turns_after t what

-- a worker's step, by which these agents acted: one at most
abbrev pub IsStep : {S : Type 0} → Way S → Levels S → Action → List Handle → Levels S → Type 0
IsStep way c (does.Fetch i) who c2 = (own : Handle) × (who ≡ []) × (c2.world ≡ c.world) × IsFetch c.turns i own c2.turns
IsStep way c (does.Act i) who c2 = (own : Handle) × (what : What) × (who ≡ own ∷ []) × IsAct way c.world c.turns i own what c2.world c2.turns
IsStep way c (does.Park i) who c2 = (own : Handle) × (who ≡ []) × (c2.world ≡ c.world) × IsPark way c.world c.turns i own c2.turns
IsStep way c (does.Exchange i) who c2 = (old : Handle) × (new : Handle) × (who ≡ []) × (c2.world ≡ c.world) × IsExchange way c.world c.turns i old new c2.turns
IsStep way c does.Clock who c2 = (what : What) × (who ≡ clock_agent ∷ []) × IsClock way c.world c.turns what c2.world c2.turns

-- there is no such step
pub record Cannot {S : Type 0} (way : Way S) (c : Levels S) (a : Action) : Type 0 where
  pub none : (who : List Handle) (c2 : Levels S) → IsStep way c a who c2 → ⊥

-- MANY STEPS

-- a step that cannot be done is passed over
abbrev pub Tries : {S : Type 0} → Way S → Levels S → Action → List Handle → Levels S → Type 0
Tries way c a who c2 = IsStep way c a who c2 ⊎ (Cannot way c a × (who ≡ []) × (c2 ≡ c))

-- these steps in turn, by which these agents acted in turn
abbrev pub Runs : {S : Type 0} → Way S → List Action → Levels S → List Handle → Levels S → Type 0
Runs way [] c who c2 = (who ≡ []) × (c2 ≡ c)
Runs {S} way (a ∷ more) c who c2 = (first : List Handle) × (mid : Levels S) × (rest : List Handle) × Tries way c a first mid × Runs way more mid rest c2 × (who ≡ first ++ rest)
