-- What an agent does next, as the limits of a run see it. The limits are this project's own.
use Rattle.std.specs.Prelude.{ℕ, ◌≡◌, ◌==◌, ◌&&◌, nat_le, not, Bool, true, false, List, [], ◌∷◌, length, Option, Some, None, if◌then◌else◌}
use Rattle.sk_types.specs.declared.number.Handle.{Handle}
use Rattle.message.specs.Data.{weight, capped}
use Rattle.message.specs.Texts.{line_of, or_empty}
use Rattle.message.specs.Actors.{Way}
use Rattle.message.specs.Worlds.{World, act}
use Rattle.message.specs.declared.request.Held.{Held}
use Rattle.message.specs.declared.request.Message.{Message}
use Rattle.message.specs.declared.request.Next.{Next}
use Rattle.message.specs.declared.request.Next.TheVariants.{Idle, Ask}
use Rattle.message.specs.declared.request.Request.{Request}
use Rattle.message.specs.declared.request.Request.TheVariants as ask
use Rattle.message.specs.declared.record.What.{What}
use Rattle.message.specs.declared.record.What.TheVariants as did
use Rattle.message.specs.declared.place.InboxStatus.{InboxStatus}
use Rattle.message.specs.declared.place.InboxStatus.TheVariants.{Live, Closing, Gone}
use Rattle.message.specs.declared.place.InboxState.{InboxState}
use Rattle.message.specs.declared.place.Service.{Service}
use Rattle.message.specs.declared.place.Service.TheVariants.{Serving, Leaving}

-- What an act of agent h weighs in a run's limit of bytes: a Put its body, a Launch its arguments, a Take the line
-- that is written by it.
abbrev pub weight_of : Handle → What → ℕ
weight_of h (did.Put to m taken) = weight m.body
weight_of h (did.Launch name args found) = weight args
weight_of h (did.Take m left) = length (or_empty (line_of h (did.Take m left)))
weight_of h _ = 0

-- the clock goes on
abbrev pub is_tick : What → Bool
is_tick (did.Tick due) = true
is_tick _ = false

-- agent h has an action, of which this tells
pub record IsAhead {S : Type 0} (way : Way S) (w : World S) (h : Handle) (tick : Bool) (n : ℕ) : Type 0 where
  pub what : What
  pub after : World S
  pub acts : act way w h ≡ Some (what, after)
  pub tick_is : tick ≡ is_tick what
  pub weight_is : n ≡ capped (weight_of h what)

-- PART BY PART: the weight of what is done next, where there is an action

abbrev pub has_inbox : ℕ → Handle → Bool
has_inbox given h = not (h.0 == 0) && nat_le h.0 given

-- where the handle has an inbox
abbrev pub given_ahead : ℕ → Handle → ℕ → Option ℕ
given_ahead given h n = if has_inbox given h then Some n else None

abbrev pub asks_ahead : ℕ → Request → Option ℕ
asks_ahead given (ask.Put to m) = given_ahead given to (capped (weight m.body))
asks_ahead given (ask.Mark to) = given_ahead given to 0
asks_ahead given (ask.Launch name args) = Some (capped (weight args))
asks_ahead given (ask.Look dest) = Some 0
asks_ahead given (ask.Name text h) = Some 0
asks_ahead given (ask.Retire h) = Some 0
asks_ahead given (ask.Later n x) = Some 0
asks_ahead given ask.Now = Some 0

-- an idle service ends, or takes its first message
abbrev pub idle_ahead : Handle → InboxStatus → List Message → Option ℕ
idle_ahead h Closing ms = Some 0
idle_ahead h Gone ms = None
idle_ahead h Live [] = None
idle_ahead h Live (m ∷ ms) = Some (capped (weight_of h (did.Take m (length ms))))

-- an ended service looks up the caller of its first bounce, and puts the bounce where there is one
abbrev pub bounce_ahead : ℕ → Bool → List Held → Option ℕ
bounce_ahead given found [] = None
bounce_ahead given false (x ∷ xs) = Some 0
bounce_ahead given true (x ∷ xs) = given_ahead given x.source 0

abbrev pub next_ahead : ℕ → Handle → InboxState → Next → Option ℕ
next_ahead given h i Idle = idle_ahead h i.status i.waiting
next_ahead given h i (Ask r) = asks_ahead given r

abbrev pub service_ahead : {S : Type 0} → Way S → ℕ → Handle → InboxState → Service S → Option ℕ
service_ahead way given h i (Serving s) = next_ahead given h i (way.next s)
service_ahead way given h i (Leaving e) = bounce_ahead given e.found e.bounces
