-- Services in states that can be reached. They are this project's own.
use Rattle.std.specs.Prelude.{◌≡◌}
use Rattle.sk_types.specs.declared.number.Handle.{Handle}
use Rattle.message.specs.Actors.{Way}
use Rattle.message.specs.declared.place.Service.{Service}
use Rattle.message.specs.declared.place.Service.TheVariants.{Serving, Leaving}

-- the service of handle h is in a state that can be reached, and has this handle
abbrev pub ServiceOk : {S : Type 0} → Way S → (S → Type 0) → Handle → Service S → Type 0
ServiceOk way sound h (Serving s) = sound s × (way.handle s ≡ h)
ServiceOk way sound h (Leaving e) = Unit {0}

-- what holds of the first holds of the second
abbrev pub KeepsOk : {S : Type 0} → Way S → (S → Type 0) → Service S → Service S → Type 0
KeepsOk way sound x y = (h : Handle) → ServiceOk way sound h x → ServiceOk way sound h y
