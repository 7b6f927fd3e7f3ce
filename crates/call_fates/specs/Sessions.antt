-- Sessions rise, so no call is made twice (skynet_context_newsession in skynet_server.c, without its wrap).
use Rattle.std.specs.Prelude.{ℕ, ◌≡◌, ◌<◌, ◌≤◌, Option, Some, None}
use Rattle.message.specs.Actors.{Way, drawn}
use Rattle.message.specs.Registries.{at}
use Rattle.message.specs.Worlds.{World}
use Rattle.sk_types.specs.declared.number.Handle.{Handle}
use Rattle.message.specs.declared.place.Service.{Service}
use Rattle.message.specs.declared.place.Service.TheVariants.{Serving, Leaving}
use Rattle.call_fates.specs.Calls.{Call}
use Rattle.call_fates.specs.Reached.{IsWorld}

-- the session n is below the one that is drawn now
abbrev pub IsBelow : ℕ → Option ℕ → Type 0
IsBelow n None = Unit {0}
IsBelow n (Some m) = n < m

-- the session that is drawn now is the last one at most
abbrev pub IsUpTo : ℕ → Option ℕ → Type 0
IsUpTo last None = Unit {0}
IsUpTo last (Some m) = m ≤ last

-- the service has drawn the session n before, or has ended
abbrev pub HasDrawn : {S : Type 0} → Way S → ℕ → Service S → Type 0
HasDrawn way n (Serving s) = (n ≤ way.asked s) × IsBelow n (drawn (way.next s))
HasDrawn way n (Leaving e) = Unit {0}

abbrev pub Draws : {S : Type 0} → Way S → Service S → Type 0
Draws way (Serving s) = IsUpTo (way.asked s) (drawn (way.next s))
Draws way (Leaving e) = Unit {0}

-- the caller has drawn the session of the call
abbrev pub IsDrawn : {S : Type 0} → Way S → Call → World S → Type 0
IsDrawn {S} way c w = (x : Service S) × (at w.services c.caller.0 ≡ Some x) × HasDrawn way c.session.0 x

-- a world in which no service is behind its sessions
pub record IsFresh {S : Type 0} (way : Way S) (sound : S → Type 0) (w : World S) : Type 0 where
  pub world : IsWorld way sound w
  pub draws : (h : Handle) (x : Service S) → at w.services h.0 ≡ Some x → Draws way x

-- the call was made so often
pub record IsMade {S : Type 0} (way : Way S) (c : Call) (w : World S) (times : ℕ) : Type 0 where
  pub once : times ≤ 1
  pub past : 0 < times → IsDrawn way c w
