-- What the records of a run say: each is right, they agree, and they begin well.
use Rattle.std.specs.Prelude.{ℕ, ◌≡◌, ◌≢◌, ◌≤◌, ◌==◌, Bool, true, false, List, [], ◌∷◌, Option, Some, None, ◌⊎◌, length, map}
use Rattle.std.specs.List.{filter}
use Rattle.message.specs.Messages.{init_message}
use Rattle.message.specs.Actors.{Way}
use Rattle.message.specs.Steps.{Agent, Serves, PlaceState, AtInbox, op_of, does}
use Rattle.message.specs.Worlds.{World, agent, place}
use Rattle.message.specs.Records.{Rises, AgentRuns, PlaceRuns, agent_runs}
use Rattle.sk_types.specs.declared.number.Handle.{Handle}
use Rattle.message.specs.declared.datum.Datum.{Datum}
use Rattle.message.specs.declared.record.Entry.{Entry}
use Rattle.message.specs.declared.record.What.{What}
use Rattle.message.specs.declared.record.What.TheVariants as did
use Rattle.message.specs.declared.place.Place.{Place}
use Rattle.message.specs.declared.place.Place.TheVariants.{Registry as TheRegistry, Inbox as TheInbox, Clock as TheClock}
use Rattle.message.specs.declared.place.InboxState.{InboxState}
use Rattle.message.specs.declared.place.InboxStatus.TheVariants.{Live}
use Rattle.message.specs.declared.place.Service.TheVariants.{Serving}

-- the record of each agent, and that of each place
pub record Records : Type 0 where
  pub of_agent : Handle → List Entry
  pub of_place : Place → List Entry

-- WHO AND WHERE

abbrev pub is_by : Handle → Entry → Bool
is_by h e = e.agent.0 == h.0

abbrev pub same_place : Place → Place → Bool
same_place TheRegistry TheRegistry = true
same_place (TheInbox g) (TheInbox h) = g.0 == h.0
same_place TheClock TheClock = true
same_place _ _ = false

abbrev pub is_at : Place → Entry → Bool
is_at p e = same_place e.place p

-- x is one of them
abbrev pub IsAmong : Entry → List Entry → Type 0
IsAmong x [] = ⊥
IsAmong x (y ∷ ys) = (x ≡ y) ⊎ IsAmong x ys

-- HOW THEY BEGIN

-- the inbox of a new service has its first message
abbrev pub new_inbox : List Datum → InboxState
new_inbox args = record { status = Live; waiting = init_message args ∷ [] }

-- the registry's record has the Launch e, which gave the handle h; the script begins as s, with these arguments
pub record IsLaunch {S : Type 0} (way : Way S) (records : Records) (e : Entry) (h : Handle) (s : S) (args : List Datum) : Type 0 where
  pub recorded : IsAmong e (records.of_place TheRegistry)
  pub name : List ℕ
  pub gives : e.what ≡ did.Launch name args (Some h)
  pub begins : way.begins name h ≡ Some s

-- a Launch makes this agent
pub record LaunchedAgent {S : Type 0} (way : Way S) (records : Records) (h : Handle) (a : Agent S) : Type 0 where
  pub launch : Entry
  pub state : S
  pub args : List Datum
  pub is_launch : IsLaunch way records launch h state args
  pub same : a ≡ Serves (Serving state)

-- a Launch makes this inbox
pub record LaunchedInbox {S : Type 0} (way : Way S) (records : Records) (p : Place) (q : PlaceState) : Type 0 where
  pub launch : Entry
  pub handle : Handle
  pub state : S
  pub args : List Datum
  pub is_launch : IsLaunch way records launch handle state args
  pub where_is : p ≡ TheInbox handle
  pub same : q ≡ AtInbox (new_inbox args)

-- the agent begins as it stands in the world, or as a Launch makes it
abbrev pub AgentBegins : {S : Type 0} → Way S → World S → Records → Handle → Agent S → Type 0
AgentBegins way w records h a = (agent w h ≡ Some a) ⊎ LaunchedAgent way records h a

-- the place begins as it stands in the world, or it is an inbox and begins as a Launch makes it
abbrev pub PlaceBegins : {S : Type 0} → Way S → World S → Records → Place → PlaceState → Type 0
PlaceBegins way w records p q = (place w p ≡ Some q) ⊎ LaunchedInbox way records p q

-- WHAT THEY SAY

-- each record is right from its beginning on
pub record AreRight {S : Type 0} (way : Way S) (w : World S) (records : Records) : Type 0 where
  pub agents : (h : Handle) (a : Agent S) → AgentBegins way w records h a → AgentRuns way h a (records.of_agent h)
  pub places : (p : Place) (q : PlaceState) → PlaceBegins way w records p q → PlaceRuns way p q (records.of_place p)

-- for each agent and place both records have the same entries of that pair
abbrev pub Agree : Records → Type 0
Agree records = (h : Handle) (p : Place) → filter (is_at p) (records.of_agent h) ≡ filter (is_by h) (records.of_place p)

-- who has a record has a beginning, and its stamps are above that of the Launch that made it
pub record BeginWell {S : Type 0} (way : Way S) (w : World S) (records : Records) : Type 0 where
  pub agents : (h : Handle) → records.of_agent h ≢ [] → (a : Agent S) × AgentBegins way w records h a
  pub places : (p : Place) → records.of_place p ≢ [] → (q : PlaceState) × PlaceBegins way w records p q
  pub later_agent : (e : Entry) (h : Handle) (s : S) (args : List Datum) → IsLaunch way records e h s args → Rises e.stamp.0 (records.of_agent h)
  pub later_inbox : (e : Entry) (h : Handle) (s : S) (args : List Datum) → IsLaunch way records e h s args → Rises e.stamp.0 (records.of_place (TheInbox h))

-- each stamp is above the one before
abbrev pub IsRising : List Entry → Type 0
IsRising [] = Unit {0}
IsRising (e ∷ es) = Rises e.stamp.0 es

pub record AreRising (records : Records) : Type 0 where
  pub agents : (h : Handle) → IsRising (records.of_agent h)
  pub places : (p : Place) → IsRising (records.of_place p)

-- THE LIST OF ALL

-- no stamp is below the one before
abbrev pub Climbs : ℕ → List Entry → Type 0
Climbs last [] = Unit {0}
Climbs last (e ∷ es) = (last ≤ e.stamp.0) × Climbs e.stamp.0 es

-- the list has each agent's record as that agent's part, and goes by stamps
pub record IsAll (records : Records) (es : List Entry) : Type 0 where
  pub parts : (h : Handle) → filter (is_by h) es ≡ records.of_agent h
  pub climbs : Climbs 0 es

abbrev pub journal : List Entry → List Handle
journal es = map (λ e. e.agent) es

-- WHERE THEY LEAVE THE WORLD

abbrev pub state_after : PlaceState → Option (What × PlaceState) → PlaceState
state_after q None = q
state_after q (Some d) = d.1

-- the place after its record
abbrev pub place_runs : {S : Type 0} → Way S → PlaceState → List Entry → PlaceState
place_runs way q [] = q
place_runs way q (e ∷ es) = place_runs way (state_after q (does way e.agent (op_of e.what) q)) es

-- each agent and each place is as its own record leaves it, and no other is there
pub record IsLeft {S : Type 0} (way : Way S) (w : World S) (records : Records) (w2 : World S) : Type 0 where
  pub agents : (h : Handle) (a : Agent S) → AgentBegins way w records h a → agent w2 h ≡ Some (agent_runs way a (records.of_agent h))
  pub places : (p : Place) (q : PlaceState) → PlaceBegins way w records p q → place w2 p ≡ Some (place_runs way q (records.of_place p))
  pub no_other_agent : (h : Handle) (a : Agent S) → agent w2 h ≡ Some a → (b : Agent S) × AgentBegins way w records h b
  pub no_other_place : (p : Place) (q : PlaceState) → place w2 p ≡ Some q → (r : PlaceState) × PlaceBegins way w records p r

-- each handle that was given has a service and an inbox
pub record IsWhole {S : Type 0} (w : World S) : Type 0 where
  pub services : length w.services ≡ length w.registry.listed
  pub inboxes : length w.inboxes ≡ length w.registry.listed
