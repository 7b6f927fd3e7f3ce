-- The core, as contracts see it. It is this project's own.
use Rattle.std.specs.Prelude.{ℕ, ◌≡◌, ◌⊎◌, nat_lt, Bool, true, false, List, [], ◌∷◌, Option, Some, None, if◌then◌else◌}
use Rattle.sk_types.specs.declared.number.Handle.{Handle}
use Rattle.message.specs.Actors.{Way}
use Rattle.message.specs.Registries.{at}
use Rattle.message.specs.Worlds.{over, act}
use Rattle.message.specs.declared.request.Message.{Message}
use Rattle.message.specs.declared.record.What.{What}
use Rattle.message.specs.declared.place.InboxStatus.{InboxStatus}
use Rattle.message.specs.declared.place.InboxStatus.TheVariants.{Live, Closing, Gone}
use Rattle.message.specs.declared.place.InboxState.{InboxState}
use Rattle.call_fates.specs.Kept.{Follows, FollowsAll}
use Rattle.world_machine.specs.Machines.{Run}
use Rattle.world_machine.specs.declared.phase.Phase.{Phase}
use Rattle.world_machine.specs.declared.phase.Phase.TheVariants.{Idle, Over, Sends, Elsewhere}
use Rattle.schedule_core.specs.declared.action.Action.{Action}
use Rattle.schedule_core.specs.declared.spot.Spot.TheVariants.{Hand}
use Rattle.schedule_core.specs.declared.spot.Rest.{Rest}
use Rattle.schedule_core.specs.declared.spot.Rest.TheVariants as rest
use Rattle.schedule_core.specs.Turns.{Turns, wake, joined, turns_after}
use Rattle.schedule_core.specs.Levels.{Levels, levels_over}
use Rattle.schedule_core.specs.Steps.{IsStep, Cannot}

-- the turns, and for how many more there is room
pub record TurnBook : Type 0 where
  pub turns : Turns
  pub room : ℕ

-- a world with the list of its calls, and the turns of its services
pub record Scheduled (A : Type 0) : Type 0 where
  pub run : Run A
  pub turns : Turns

abbrev pub levels_of : {A S : Type 0} → (A → S) → Scheduled A → Levels S
levels_of f s = levels_over f s.run.world s.turns

-- Whether the step was done; then the list of calls followed the agents that acted. Where it was not there is no such step, and
-- nothing changes.
abbrev pub Steps : {A S : Type 0} → Way S → (A → S) → Scheduled A → Action → Bool → Scheduled A → Type 0
Steps way f s a true s2 = (who : List Handle) × IsStep way (levels_of f s) a who (levels_of f s2) × FollowsAll way who (over f s.run.world) s.run.calls s2.run.calls
Steps way f s a false s2 = Cannot way (levels_of f s) a × (s2 ≡ s)

-- want of memory: nothing is done, or a service met it as it was fed, and the core answers it from then on
abbrev pub Halts : {A : Type 0} → Scheduled A → Scheduled A → Type 0
Halts s s2 = (s2 ≡ s) ⊎ (s2.run.spent ≡ true)

-- PART BY PART

-- the agent of this handle acts for the clock, or its turn is in a hand
abbrev pub MayAct : Turns → Handle → Type 0
MayAct t h = (h.0 ≡ 0) ⊎ (at t.spots h.0 ≡ Some Hand)

-- whether agent h did its one next action, and the list of calls followed it
abbrev pub Tried : {A S : Type 0} → Way S → (A → S) → Run A → Handle → Bool → Run A → Type 0
Tried way f r h true r2 = (what : What) × (act way (over f r.world) h ≡ Some (what, over f r2.world)) × Follows way (over f r.world) h what r.calls r2.calls × (r2.spent ≡ false)
Tried way f r h false r2 = (act way (over f r.world) h ≡ None) × (r2 ≡ r)

abbrev pub HaltsRun : {A : Type 0} → Run A → Run A → Type 0
HaltsRun r r2 = (r2 ≡ r) ⊎ (r2.spent ≡ true)

-- and the turns went on with it
abbrev pub Moves : {A S : Type 0} → Way S → (A → S) → Scheduled A → Handle → Bool → Scheduled A → Type 0
Moves way f s h true s2 = (what : What) × (act way (over f s.run.world) h ≡ Some (what, over f s2.run.world)) × Follows way (over f s.run.world) h what s.run.calls s2.run.calls × (s2.turns ≡ turns_after s.turns what)
Moves way f s h false s2 = (act way (over f s.run.world) h ≡ None) × (s2 ≡ s)

-- the turns after an act: by what the agent was about to do, and by the number of handles before and after
abbrev pub followed : Option Phase → ℕ → ℕ → Turns → Turns
followed (Some (Sends to)) before after t = wake t to
followed (Some Idle) before after t = if nat_lt before after then joined t (record { 0 = after }) else t
followed (Some Over) before after t = if nat_lt before after then joined t (record { 0 = after }) else t
followed (Some Elsewhere) before after t = if nat_lt before after then joined t (record { 0 = after }) else t
followed None before after t = if nat_lt before after then joined t (record { 0 = after }) else t

-- where an idle turn goes that is put back
abbrev pub rests : InboxStatus → List Message → Option Rest
rests Live [] = Some rest.Home
rests Live (m ∷ ms) = Some rest.Hand
rests Closing ms = None
rests Gone ms = None

abbrev pub parked_by : Option Phase → InboxState → Option Rest
parked_by (Some Over) i = Some rest.Spent
parked_by (Some Idle) i = rests i.status i.waiting
parked_by (Some Elsewhere) i = None
parked_by (Some (Sends to)) i = None
parked_by None i = None

abbrev pub parked : Option Phase → Option InboxState → Option Rest
parked p None = None
parked p (Some i) = parked_by p i
