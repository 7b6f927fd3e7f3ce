-- The one-thread message machine: all agents and all places, and one action after another (skynet_context_message_dispatch and
-- skynet_send in skynet_server.c, with one worker).
use Rattle.std.specs.Prelude.{ℕ, ◌≡◌, ◌==◌, Bool, true, false, List, [], ◌∷◌, ◌++◌, map, Option, Some, None, codes}
use Rattle.std.specs.FinMap as names
use Rattle.message.specs.Messages.{init_message}
use Rattle.message.specs.Actors.{Way}
use Rattle.message.specs.Registries.{Registry, at, set_at}
use Rattle.message.specs.Clocks.{Clock}
use Rattle.message.specs.Steps.{Op, Agent, Serves, Times, ops, agent_after, PlaceState, AtRegistry, AtInbox, AtClock, place_of, does}
use Rattle.sk_types.specs.declared.number.Handle.{Handle}
use Rattle.sk_types.specs.declared.number.Session.{Session}
use Rattle.message.specs.declared.datum.Datum.{Datum}
use Rattle.message.specs.declared.record.What.{What}
use Rattle.message.specs.declared.record.What.TheVariants as did
use Rattle.message.specs.declared.place.Place.{Place}
use Rattle.message.specs.declared.place.Place.TheVariants.{Registry as TheRegistry, Inbox as TheInbox, Clock as TheClock}
use Rattle.message.specs.declared.place.InboxStatus.TheVariants.{Live}
use Rattle.message.specs.declared.place.InboxState.{InboxState}
use Rattle.message.specs.declared.place.Service.{Service}
use Rattle.message.specs.declared.place.Service.TheVariants.{Serving, Leaving}

-- a service and an inbox for each handle that was given, from 1 on; the registry, the clock, and agent 0's due timers
pub record World (S : Type 0) : Type 0 where
  pub services : List (Service S)
  pub inboxes : List InboxState
  pub registry : Registry
  pub clock : Clock
  pub due : List (Handle × Session)

-- WHO AND WHERE

abbrev pub serves : {S : Type 0} → Option (Service S) → Option (Agent S)
serves None = None
serves (Some x) = Some (Serves x)

abbrev pub agent_or_clock : {S : Type 0} → List (Handle × Session) → Option (Service S) → Bool → Option (Agent S)
agent_or_clock due x true = Some (Times due)
agent_or_clock due x false = serves x

abbrev pub agent : {S : Type 0} → World S → Handle → Option (Agent S)
agent w h = agent_or_clock w.due (at w.services h.0) (h.0 == 0)

abbrev pub set_agent : {S : Type 0} → World S → Handle → Agent S → World S
set_agent w h (Serves x) = record { services = set_at w.services h.0 x; inboxes = w.inboxes; registry = w.registry; clock = w.clock; due = w.due }
set_agent w h (Times due) = record { services = w.services; inboxes = w.inboxes; registry = w.registry; clock = w.clock; due = due }

abbrev pub inbox_state : Option InboxState → Option PlaceState
inbox_state None = None
inbox_state (Some i) = Some (AtInbox i)

abbrev pub place : {S : Type 0} → World S → Place → Option PlaceState
place w TheRegistry = Some (AtRegistry w.registry)
place w (TheInbox h) = inbox_state (at w.inboxes h.0)
place w TheClock = Some (AtClock w.clock)

abbrev pub set_place : {S : Type 0} → World S → Place → PlaceState → World S
set_place w TheRegistry (AtRegistry r) = record { services = w.services; inboxes = w.inboxes; registry = r; clock = w.clock; due = w.due }
set_place w (TheInbox h) (AtInbox i) = record { services = w.services; inboxes = set_at w.inboxes h.0 i; registry = w.registry; clock = w.clock; due = w.due }
set_place w TheClock (AtClock c) = record { services = w.services; inboxes = w.inboxes; registry = w.registry; clock = c; due = w.due }
set_place w p q = w

-- ACTS

abbrev pub grow_by : {S : Type 0} → World S → List Datum → Option S → World S
grow_by w args None = w
grow_by w args (Some s) = record { services = w.services ++ Serving s ∷ []; inboxes = w.inboxes ++ record { status = Live; waiting = init_message args ∷ [] } ∷ []; registry = w.registry; clock = w.clock; due = w.due }

-- a Launch brings a new service, and its inbox with the first message
abbrev pub grow : {S : Type 0} → Way S → World S → What → World S
grow way w (did.Launch name args (Some h)) = grow_by w args (way.begins name h)
grow way w _ = w

-- the world after agent h, which was a, did d.0 at p and left the place as d.1
abbrev pub left_by : {S : Type 0} → Way S → World S → Handle → Agent S → Place → What × PlaceState → World S
left_by way w h a p d = grow way (set_agent (set_place w p d.1) h (agent_after way a d.0)) d.0

abbrev pub done_in : {S : Type 0} → Way S → World S → Handle → Agent S → Place → Option (What × PlaceState) → Option (What × World S)
done_in way w h a p None = None
done_in way w h a p (Some d) = Some (d.0, left_by way w h a p d)

-- a handle that was never given has no inbox, and nothing is done there
abbrev pub answer_at : {S : Type 0} → Way S → Handle → Op → Option PlaceState → Option (What × PlaceState)
answer_at way h op None = None
answer_at way h op (Some p) = does way h op p

abbrev pub does_op : {S : Type 0} → Way S → World S → Handle → Agent S → Op → Option (What × World S)
does_op way w h a op = done_in way w h a (place_of h op) (answer_at way h op (place w (place_of h op)))

abbrev pub either_of : {X : Type 0} → Option X → Option X → Option X
either_of None y = y
either_of (Some x) y = Some x

abbrev pub first_of : {S : Type 0} → Way S → World S → Handle → Agent S → List Op → Option (What × World S)
first_of way w h a [] = None
first_of way w h a (op ∷ more) = either_of (does_op way w h a op) (first_of way w h a more)

abbrev pub act_by : {S : Type 0} → Way S → World S → Handle → Option (Agent S) → Option (What × World S)
act_by way w h None = None
act_by way w h (Some a) = first_of way w h a (ops way a)

-- The one next action of agent h: the first that it may do and that its place allows. What it did, and the world
-- after it; None: it has no action.
abbrev pub act : {S : Type 0} → Way S → World S → Handle → Option (What × World S)
act way w h = act_by way w h (agent w h)

abbrev pub go_on : {S : Type 0} → Option (What × World S) → (World S → Option (World S)) → Option (World S)
go_on None f = None
go_on (Some d) f = f d.1

-- the world after these agents acted, where each had an action
abbrev pub after : {S : Type 0} → Way S → List Handle → World S → Option (World S)
after way [] w = Some w
after way (h ∷ hs) w = go_on (act way w h) (λ w2. after way hs w2)

-- no agent has an action, and no timer waits or is due
pub record IsDrained {S : Type 0} (way : Way S) (w : World S) : Type 0 where
  pub still : (h : Handle) → act way w h ≡ None
  pub timers : w.clock.timers ≡ []
  pub due : w.due ≡ []

-- THE FIRST WORLD

abbrev pub first_names : List (List ℕ × Handle)
first_names = (codes ".logger", record { 0 = 1 }) ∷ (codes ".launcher", record { 0 = 2 }) ∷ []

abbrev pub empty_inbox : InboxState
empty_inbox = record { status = Live; waiting = [] }

abbrev pub start_inbox : InboxState
start_inbox = record { status = Live; waiting = init_message [] ∷ [] }

-- the logger, the launcher and the start service, whose first message has no arguments
abbrev pub opening : {S : Type 0} → S → S → S → World S
opening logger launcher start = record {
  services = Serving logger ∷ Serving launcher ∷ Serving start ∷ [];
  inboxes = empty_inbox ∷ empty_inbox ∷ start_inbox ∷ [];
  registry = record { listed = true ∷ true ∷ true ∷ []; named = names.from_entries first_names };
  clock = record { now = 0; timers = [] };
  due = [];
}

-- THE MEANINGS

-- the machine over the meanings of its services
abbrev pub service_over : {A M : Type 0} → (A → M) → Service A → Service M
service_over f (Serving a) = Serving (f a)
service_over f (Leaving e) = Leaving e

abbrev pub over : {A M : Type 0} → (A → M) → World A → World M
over f w = record { services = map (service_over f) w.services; inboxes = w.inboxes; registry = w.registry; clock = w.clock; due = w.due }

-- agent h did this
abbrev pub Acts : {S : Type 0} → Way S → World S → Handle → What → World S → Type 0
Acts way w h what w2 = act way w h ≡ Some (what, w2)
