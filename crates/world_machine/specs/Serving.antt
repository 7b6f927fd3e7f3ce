-- What a service does next, and what an answer makes of it (dispatch_message in skynet_server.c).
use Rattle.std.specs.Prelude.{◌≡◌, true, false, List, [], ◌∷◌, ◌++◌, Some}
use Rattle.sk_types.specs.declared.number.Handle.{Handle}
use Rattle.message.specs.Messages.{requests}
use Rattle.message.specs.Ends.{rest}
use Rattle.message.specs.Actors.{Way, Fits}
use Rattle.message.specs.Steps.{Asks, service_ops, bounce_ops}
use Rattle.message.specs.declared.request.Message.{Message}
use Rattle.message.specs.declared.request.Answer.{Answer}
use Rattle.message.specs.declared.request.Answer.TheVariants.{Found}
use Rattle.message.specs.declared.request.Input.TheVariants.{Message as Comes, Answer as Answers}
use Rattle.message.specs.declared.request.Next.TheVariants.{Idle}
use Rattle.message.specs.declared.place.Service.{Service}
use Rattle.message.specs.declared.place.Service.TheVariants.{Serving, Leaving}
use Rattle.message.specs.declared.place.Ending.{Ending}
use Rattle.world_machine.specs.declared.served.Stage.{Stage}
use Rattle.world_machine.specs.declared.served.Stage.TheVariants as stage

abbrev pub IsIdle : {S : Type 0} → Way S → Service S → Type 0
IsIdle way (Serving s) = way.next s ≡ Idle
IsIdle way (Leaving e) = ⊥

abbrev pub IsLeaving : {S : Type 0} → Service S → Type 0
IsLeaving (Serving s) = ⊥
IsLeaving (Leaving e) = Unit {0}

-- what it does next
abbrev pub Stands : {S : Type 0} → Way S → Service S → Stage → Type 0
Stands way x stage.Idle = IsIdle way x
Stands way x stage.Over = service_ops way x ≡ []
Stands way x (stage.Asks r) = service_ops way x ≡ Asks r ∷ []

-- the answer is one that it may get
abbrev pub MayGet : {S : Type 0} → Way S → Service S → Answer → Type 0
MayGet way (Serving s) a = Fits (way.next s) (Answers a)
MayGet way (Leaving e) a = Unit {0}

abbrev pub ending_answered : Ending → Answer → Ending
ending_answered e (Found (Some h)) = record { own = e.own; found = true; bounces = e.bounces }
ending_answered e _ = record { own = e.own; found = false; bounces = rest e.bounces }

abbrev pub answered : {S : Type 0} → Way S → Service S → Answer → Service S
answered way (Serving s) a = Serving (way.fed s (Answers a))
answered way (Leaving e) a = Leaving (ending_answered e a)

-- an ended service with what it does next
abbrev pub BounceStands : Ending → Stage → Type 0
BounceStands e stage.Idle = ⊥
BounceStands e stage.Over = bounce_ops e.own e.found e.bounces ≡ []
BounceStands e (stage.Asks r) = bounce_ops e.own e.found e.bounces ≡ Asks r ∷ []

-- an idle service that took a message
abbrev pub taken : {S : Type 0} → Way S → Service S → Message → Service S
taken way (Serving s) m = Serving (way.fed s (Comes m))
taken way (Leaving e) m = Leaving e

-- and one that ended
abbrev pub ended : {S : Type 0} → Way S → Service S → List Message → Service S
ended way (Serving s) ms = Leaving (record { own = way.handle s; found = false; bounces = way.held s ++ requests ms })
ended way (Leaving e) ms = Leaving e

abbrev pub IsNamed : {S : Type 0} → Way S → Service S → Handle → Type 0
IsNamed way (Serving s) h = way.handle s ≡ h
IsNamed way (Leaving e) h = Unit {0}
