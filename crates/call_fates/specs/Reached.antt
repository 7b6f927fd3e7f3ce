-- Worlds that journals reach. They are this project's own.
use Rattle.std.specs.Prelude.{◌≡◌, length, Some}
use Rattle.message.specs.Actors.{Way, Begins}
use Rattle.message.specs.Registries.{at}
use Rattle.message.specs.Worlds.{World, opening}
use Rattle.sk_types.specs.declared.number.Handle.{Handle}
use Rattle.message.specs.declared.place.Service.{Service}
use Rattle.message.specs.declared.place.Service.TheVariants.{Serving, Leaving}

-- the first world of a run, with services that begin as their types say
pub record IsOpening {S : Type 0} (way : Way S) (sound : S → Type 0) (w : World S) : Type 0 where
  pub logger : S
  pub launcher : S
  pub start : S
  pub first : Begins way sound (record { 0 = 1 }) logger
  pub second : Begins way sound (record { 0 = 2 }) launcher
  pub third : Begins way sound (record { 0 = 3 }) start
  pub same : w ≡ opening logger launcher start

-- the service of handle h is in a state that can be reached, and has this handle
abbrev pub ServiceOk : {S : Type 0} → Way S → (S → Type 0) → Handle → Service S → Type 0
ServiceOk way sound h (Serving s) = sound s × (way.handle s ≡ h)
ServiceOk way sound h (Leaving e) = e.own ≡ h

-- each handle that was given has a service and an inbox
pub record IsWorld {S : Type 0} (way : Way S) (sound : S → Type 0) (w : World S) : Type 0 where
  pub services : (h : Handle) (x : Service S) → at w.services h.0 ≡ Some x → ServiceOk way sound h x
  pub listed : length w.registry.listed ≡ length w.services
  pub inboxes : length w.inboxes ≡ length w.services
