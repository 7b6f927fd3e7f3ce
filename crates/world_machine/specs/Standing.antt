-- Services of the machine, by what they do next (skynet_context_message_dispatch in skynet_server.c).
use Rattle.std.specs.Prelude.{◌≡◌, ◌<◌, ◌≤◌, Some, None, length}
use Rattle.sk_types.specs.declared.number.Handle.{Handle}
use Rattle.message.specs.Actors.{Way}
use Rattle.message.specs.Inboxes.{end}
use Rattle.message.specs.Registries.{at}
use Rattle.message.specs.Worlds.{World}
use Rattle.message.specs.declared.request.Request.{Request}
use Rattle.message.specs.declared.request.Request.TheVariants as ask
use Rattle.message.specs.declared.place.InboxState.{InboxState}
use Rattle.message.specs.declared.place.Service.{Service}
use Rattle.world_machine.specs.declared.served.Stage.{Stage}
use Rattle.world_machine.specs.Serving.{Stands}

-- the service of handle h does this next
pub record StandsAt {S : Type 0} (way : Way S) (w : World S) (h : Handle) (st : Stage) : Type 0 where
  pub given : 0 < h.0
  pub within : h.0 ≤ length w.services
  pub service : Service S
  pub there : at w.services h.0 ≡ Some service
  pub stands : Stands way service st

-- a request that brings no service
abbrev pub IsPlain : Request → Type 0
IsPlain (ask.Launch name args) = ⊥
IsPlain _ = Unit {0}

-- its inbox is not to be ended
abbrev pub StaysAt : {S : Type 0} → World S → Handle → Type 0
StaysAt w h = (i : InboxState) → at w.inboxes h.0 ≡ Some i → end i.status i.waiting ≡ None
