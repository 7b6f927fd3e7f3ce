-- What a Launch and the clock's agent do, step by step (skynet_context_new in skynet_server.c, timer_shift in skynet_timer.c).
use Rattle.std.specs.Prelude.{ℕ, ◌≡◌, ◌<◌, ◌≤◌, List, [], ◌∷◌, ◌++◌, Option, Some, None, length}
use Rattle.sk_types.specs.declared.number.Handle.{Handle}
use Rattle.sk_types.specs.declared.number.Session.{Session}
use Rattle.message.specs.Messages.{init_message}
use Rattle.message.specs.Actors.{Way}
use Rattle.message.specs.Registries.{at, register, next_handle}
use Rattle.message.specs.Steps.{Serves, made}
use Rattle.message.specs.Worlds.{World, set_agent}
use Rattle.message.specs.declared.datum.Datum.{Datum}
use Rattle.message.specs.declared.request.Answer.{Answer}
use Rattle.message.specs.declared.place.InboxStatus.TheVariants.{Live}
use Rattle.message.specs.declared.place.Service.{Service}
use Rattle.message.specs.declared.place.Service.TheVariants.{Serving}
use Rattle.world_machine.specs.Serving.{MayGet, answered}

-- the machine with one service more, whose handle is listed and whose first message waits
abbrev pub brought : {S : Type 0} → World S → List Datum → S → World S
brought w args s = record { services = w.services ++ Serving s ∷ []; inboxes = w.inboxes ++ record { status = Live; waiting = init_message args ∷ [] } ∷ []; registry = register w.registry; clock = w.clock; due = w.due }

-- s is how the script begins under the next handle, where it does
abbrev pub BringsBy : {S : Type 0} → World S → List Datum → Option S → Option Handle → World S → Type 0
BringsBy w args None found w2 = (found ≡ None) × (w2 ≡ w)
BringsBy w args (Some s) found w2 = (found ≡ Some (next_handle w.registry)) × (w2 ≡ brought w args s)

-- a Launch of this script with these arguments answers found, and leaves the machine so before the answer is heard
abbrev pub Brings : {S : Type 0} → Way S → World S → List ℕ → List Datum → Option Handle → World S → Type 0
Brings way w name args found w2 = BringsBy w args (made way w.registry name) found w2

-- the service of handle h may get this answer
pub record MayHear {S : Type 0} (way : Way S) (w : World S) (h : Handle) (a : Answer) : Type 0 where
  pub given : 0 < h.0
  pub within : h.0 ≤ length w.services
  pub service : Service S
  pub there : at w.services h.0 ≡ Some service
  pub may : MayGet way service a

-- and has got it
pub record Hears {S : Type 0} (way : Way S) (w : World S) (h : Handle) (a : Answer) (w2 : World S) : Type 0 where
  pub service : Service S
  pub there : at w.services h.0 ≡ Some service
  pub after : w2 ≡ set_agent w h (Serves (answered way service a))

-- the agent that acts for the clock
abbrev pub clock_agent : Handle
clock_agent = record { 0 = 0 }

-- the first timer that is due is this handle's, with this session
abbrev pub FirstDue : List (Handle × Session) → Handle → Session → Type 0
FirstDue [] h x = ⊥
FirstDue (d ∷ ds) h x = (d.0 ≡ h) × (d.1 ≡ x)
