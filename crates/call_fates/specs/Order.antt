-- The messages between two services, which keep their order (skynet_mq_push and skynet_mq_pop in skynet_mq.c), and scripts that are
-- launched (launcher.lua).
use Rattle.std.specs.Prelude.{ℕ, ◌≡◌, ◌<◌, ◌+◌, ◌==◌, ◌&&◌, Bool, true, List, [], ◌∷◌, ◌++◌, length, Option, Some, None, if◌then◌else◌}
use Rattle.std.specs.List.{filter}
use Rattle.message.specs.Actors.{Way}
use Rattle.message.specs.Registries.{at, most_handles, next_handle}
use Rattle.message.specs.Worlds.{World, act, after}
use Rattle.sk_types.specs.declared.number.Handle.{Handle}
use Rattle.message.specs.declared.datum.Datum.{Datum}
use Rattle.message.specs.declared.request.Message.{Message}
use Rattle.message.specs.declared.request.Next.TheVariants.{Ask}
use Rattle.message.specs.declared.request.Request.TheVariants as ask
use Rattle.message.specs.declared.record.What.{What}
use Rattle.message.specs.declared.record.What.TheVariants as did
use Rattle.message.specs.declared.place.InboxState.{InboxState}
use Rattle.message.specs.declared.place.Service.TheVariants.{Serving}
use Rattle.call_fates.specs.Reached.{IsOpening}

-- THE MESSAGES OF s, put to d, in the order of the acts

abbrev pub is_from : Handle → Message → Bool
is_from s m = m.source.0 == s.0

abbrev pub of : Handle → List Message → List Message
of s ms = filter (is_from s) ms

-- agent h put it to d, in its own name, and it was taken up
abbrev pub put_now : Handle → Handle → Handle → What → List Message
put_now s d h (did.Put to m true) = if (h.0 == s.0) && (to.0 == d.0) then of s (m ∷ []) else []
put_now s d h _ = []

-- d took it
abbrev pub taken_now : Handle → Handle → Handle → What → List Message
taken_now s d h (did.Take m left) = if h.0 == d.0 then of s (m ∷ []) else []
taken_now s d h _ = []

-- it was among the messages of d's End
abbrev pub left_now : Handle → Handle → Handle → What → List Message
left_now s d h (did.End ms) = if h.0 == d.0 then of s ms else []
left_now s d h _ = []

abbrev pub with_list : {S : Type 0} → Option (What × World S) → (What → List Message) → (World S → List Message) → List Message
with_list None f g = []
with_list (Some r) f g = f r.0 ++ g r.1

abbrev pub along : {S : Type 0} → Way S → (Handle → What → List Message) → List Handle → World S → List Message
along way f [] w = []
along way f (h ∷ hs) w = with_list (act way w h) (f h) (λ v. along way f hs v)

abbrev pub waiting_in : Handle → Option InboxState → List Message
waiting_in s None = []
waiting_in s (Some i) = of s i.waiting

-- The messages of s that d took are a prefix of those that s put to d and that were taken up, in that order. The rest
-- were taken by d's End, or wait in d's inbox.
abbrev pub InOrder : {S : Type 0} → Way S → (S → Type 0) → Type 0
InOrder {S} way sound = (s d : Handle) (hs : List Handle) (w w2 : World S) → 0 < s.0 → IsOpening way sound w → after way hs w ≡ Some w2
    → along way (put_now s d) hs w ≡ along way (taken_now s d) hs w ++ (along way (left_now s d) hs w ++ waiting_in s (at w2.inboxes d.0))

-- A LAUNCH

-- a Launch of a script that reads succeeds while handles are left
abbrev pub LaunchSucceeds : {S : Type 0} → Way S → Type 0
LaunchSucceeds {S} way = (w : World S) (h : Handle) (s new : S) (name : List ℕ) (args : List Datum) → at w.services h.0 ≡ Some (Serving s) → way.next s ≡ Ask (ask.Launch name args)
    → length w.registry.listed < most_handles → way.begins name (next_handle w.registry) ≡ Some new
    → (w2 : World S) × (act way w h ≡ Some (did.Launch name args (Some (next_handle w.registry)), w2)) × (length w2.services ≡ length w.services + 1)
