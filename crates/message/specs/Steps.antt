-- The steps of agents and of places (dispatch_message and skynet_send in skynet_server.c). An agent's next operation says
-- nothing of the places, and a place's answer nothing of the agents; what the answer does to the agent is the third part.
use Rattle.std.specs.Prelude.{ℕ, ◌≡◌, nat_lt, Bool, true, false, List, [], ◌∷◌, ◌++◌, length, Option, Some, None, if◌then◌else◌, ◌⊎◌}
use Rattle.message.specs.Messages.{requests, bounce, timer_message}
use Rattle.message.specs.Ends.{rest}
use Rattle.message.specs.Actors.{Way}
use Rattle.message.specs.Inboxes.{put, fire, mark, take_first, end}
use Rattle.message.specs.Registries.{Registry, does_look, does_launch, does_name, does_retire, next_handle, most_handles}
use Rattle.message.specs.Clocks.{Clock, add, tick}
use Rattle.sk_types.specs.declared.number.Handle.{Handle}
use Rattle.sk_types.specs.declared.number.Session.{Session}
use Rattle.message.specs.declared.request.Message.{Message}
use Rattle.message.specs.declared.request.Held.{Held}
use Rattle.message.specs.declared.request.Dest.TheVariants.{Number}
use Rattle.message.specs.declared.request.Request.{Request}
use Rattle.message.specs.declared.request.Request.TheVariants as ask
use Rattle.message.specs.declared.request.Answer.TheVariants.{Found, Flag, Clock as Told, Done}
use Rattle.message.specs.declared.request.Input.{Input}
use Rattle.message.specs.declared.request.Input.TheVariants.{Message as Comes, Answer as Answers}
use Rattle.message.specs.declared.request.Next.{Next}
use Rattle.message.specs.declared.request.Next.TheVariants.{Idle, Ask}
use Rattle.message.specs.declared.record.What.{What}
use Rattle.message.specs.declared.record.What.TheVariants as did
use Rattle.message.specs.declared.place.Place.{Place}
use Rattle.message.specs.declared.place.Place.TheVariants.{Registry as TheRegistry, Inbox as TheInbox, Clock as TheClock}
use Rattle.message.specs.declared.place.InboxState.{InboxState}
use Rattle.message.specs.declared.place.Ending.{Ending}
use Rattle.message.specs.declared.place.Service.{Service}
use Rattle.message.specs.declared.place.Service.TheVariants.{Serving, Leaving}

-- what an agent does next, without the answer
pub data Op : Type 0 where
  Asks : Request → Op
  Takes : Op
  Ends : Op
  Ticks : Op
  Fires : Handle → Message → Op

-- AGENTS

-- an agent is a service; or it is agent 0, which acts for the clock and has the timers that are due
pub data Agent (S : Type 0) : Type 0 where
  Serves : Service S → Agent S
  Times : List (Handle × Session) → Agent S

-- an idle service ends or takes, as its inbox has it; any other asks
abbrev pub next_ops : Next → List Op
next_ops Idle = Ends ∷ Takes ∷ []
next_ops (Ask r) = Asks r ∷ []

-- an ended service looks up the caller of its first bounce, and puts the bounce where there is one
abbrev pub bounce_ops : Handle → Bool → List Held → List Op
bounce_ops own found [] = []
bounce_ops own false (x ∷ xs) = Asks (ask.Look (Number x.source.0)) ∷ []
bounce_ops own true (x ∷ xs) = Asks (ask.Put x.source (bounce own x)) ∷ []

abbrev pub service_ops : {S : Type 0} → Way S → Service S → List Op
service_ops way (Serving s) = next_ops (way.next s)
service_ops way (Leaving e) = bounce_ops e.own e.found e.bounces

-- agent 0 fires the first due timer; where none is due it ticks
abbrev pub due_ops : List (Handle × Session) → List Op
due_ops [] = Ticks ∷ []
due_ops (d ∷ ds) = Fires d.0 (timer_message d.1) ∷ []

-- what the agent may do, whatever the places hold
abbrev pub ops : {S : Type 0} → Way S → Agent S → List Op
ops way (Serves x) = service_ops way x
ops way (Times due) = due_ops due

-- the operation is one of them
abbrev pub IsOne : Op → List Op → Type 0
IsOne op [] = ⊥
IsOne op (x ∷ xs) = (op ≡ x) ⊎ IsOne op xs

-- what a service is fed by what it did
abbrev pub input_of : What → Input
input_of (did.Look dest found) = Answers (Found found)
input_of (did.Put h m taken) = Answers (Flag taken)
input_of (did.Launch name args found) = Answers (Found found)
input_of (did.Name text h named) = Answers (Flag named)
input_of (did.Retire h retired) = Answers (Flag retired)
input_of (did.Mark h) = Answers Done
input_of (did.Later n x) = Answers Done
input_of (did.Now n) = Answers (Told n)
input_of (did.Take m left) = Comes m
input_of (did.End ms) = Answers Done
input_of (did.Tick due) = Answers Done
input_of (did.Fire h m taken) = Answers (Flag taken)

-- where the caller of the first bounce is found, it is put next; any other answer drops it
abbrev pub ending_after : Ending → What → Ending
ending_after e (did.Look dest (Some h)) = record { own = e.own; found = true; bounces = e.bounces }
ending_after e _ = record { own = e.own; found = false; bounces = rest e.bounces }

-- a service that ends bounces first the requests that it held, in the order taken, then those that wait
abbrev pub serving_after : {S : Type 0} → Way S → S → What → Service S
serving_after way s (did.End ms) = Leaving (record { own = way.handle s; found = false; bounces = way.held s ++ requests ms })
serving_after way s what = Serving (way.fed s (input_of what))

abbrev pub service_after : {S : Type 0} → Way S → Service S → What → Service S
service_after way (Serving s) what = serving_after way s what
service_after way (Leaving e) what = Leaving (ending_after e what)

abbrev pub due_after : List (Handle × Session) → What → List (Handle × Session)
due_after due (did.Tick more) = due ++ more
due_after [] _ = []
due_after (d ∷ ds) _ = ds

-- the agent after what it did
abbrev pub agent_after : {S : Type 0} → Way S → Agent S → What → Agent S
agent_after way (Serves x) what = Serves (service_after way x what)
agent_after way (Times due) what = Times (due_after due what)

-- the operation of which this is the answer
abbrev pub op_of : What → Op
op_of (did.Look dest found) = Asks (ask.Look dest)
op_of (did.Put h m taken) = Asks (ask.Put h m)
op_of (did.Launch name args found) = Asks (ask.Launch name args)
op_of (did.Name text h named) = Asks (ask.Name text h)
op_of (did.Retire h retired) = Asks (ask.Retire h)
op_of (did.Mark h) = Asks (ask.Mark h)
op_of (did.Later n x) = Asks (ask.Later n x)
op_of (did.Now n) = Asks ask.Now
op_of (did.Take m left) = Takes
op_of (did.End ms) = Ends
op_of (did.Tick due) = Ticks
op_of (did.Fire h m taken) = Fires h m

-- PLACES

pub data PlaceState : Type 0 where
  AtRegistry : Registry → PlaceState
  AtInbox : InboxState → PlaceState
  AtClock : Clock → PlaceState

-- where an agent's operation is done
abbrev pub place_of : Handle → Op → Place
place_of own (Asks (ask.Look dest)) = TheRegistry
place_of own (Asks (ask.Put h m)) = TheInbox h
place_of own (Asks (ask.Launch name args)) = TheRegistry
place_of own (Asks (ask.Name text h)) = TheRegistry
place_of own (Asks (ask.Retire h)) = TheRegistry
place_of own (Asks (ask.Mark h)) = TheInbox h
place_of own (Asks (ask.Later n x)) = TheClock
place_of own (Asks ask.Now) = TheClock
place_of own Takes = TheInbox own
place_of own Ends = TheInbox own
place_of own Ticks = TheClock
place_of own (Fires h m) = TheInbox h

abbrev pub inbox_does : Op → InboxState → Option (What × InboxState)
inbox_does (Asks (ask.Put h m)) i = Some (put h m i)
inbox_does (Asks (ask.Mark h)) i = Some (mark h i)
inbox_does Takes i = take_first i.status i.waiting
inbox_does Ends i = end i.status i.waiting
inbox_does (Fires h m) i = Some (fire h m i)
inbox_does _ i = None

-- how the script begins under the next handle, where handles are left
abbrev pub made : {S : Type 0} → Way S → Registry → List ℕ → Option S
made way r name = if nat_lt (length r.listed) most_handles then way.begins name (next_handle r) else None

abbrev pub registry_does : {S : Type 0} → Way S → Op → Registry → Option (What × Registry)
registry_does way (Asks (ask.Look dest)) r = Some (does_look r dest)
registry_does way (Asks (ask.Launch name args)) r = Some (does_launch r name args (made way r name))
registry_does way (Asks (ask.Name text h)) r = Some (does_name r text h)
registry_does way (Asks (ask.Retire h)) r = Some (does_retire r h)
registry_does way _ r = None

abbrev pub clock_does : Handle → Op → Clock → Option (What × Clock)
clock_does own (Asks (ask.Later n x)) c = Some (did.Later n x, add c n own x)
clock_does own (Asks ask.Now) c = Some (did.Now c.now, c)
clock_does own Ticks c = tick c c.timers
clock_does own _ c = None

abbrev pub with_state : {X : Type 0} → (X → PlaceState) → Option (What × X) → Option (What × PlaceState)
with_state f None = None
with_state f (Some d) = Some (d.0, f d.1)

-- what the place answers to the agent own, and how it is then. None: the operation is not possible there now
abbrev pub does : {S : Type 0} → Way S → Handle → Op → PlaceState → Option (What × PlaceState)
does way own op (AtRegistry r) = with_state AtRegistry (registry_does way op r)
does way own op (AtInbox i) = with_state AtInbox (inbox_does op i)
does way own op (AtClock c) = with_state AtClock (clock_does own op c)
