-- The services that are listed, and the launches that are pending, by the handles of the services.
use Rattle.std.specs.Prelude.{ℕ, ◌≡◌, ◌<◌, List, [], ◌∷◌, map}
use Rattle.sk_types.specs.declared.number.Handle.{Handle}
use Rattle.message.specs.declared.request.Held.{Held}
use Rattle.launcher.specs.declared.desk.Role.TheVariants.{Served, Pending}
use Rattle.launcher.specs.declared.desk.Service.{Service}
use Rattle.launcher.specs.declared.desk.Taken.{Taken}

abbrev pub services_in : List (Handle × List ℕ) → List Service
services_in es = map (λ e. record { handle = e.0; name = e.1 }) es

abbrev pub pending_in : List (Handle × Held) → List Taken
pending_in es = map (λ e. record { role = Pending e.0; held = e.1 }) es

-- all their handles are below this one
abbrev pub AllBelow : {X : Type 0} → Handle → List (Handle × X) → Type 0
AllBelow h [] = Unit {0}
AllBelow h (e ∷ es) = (e.0.0 < h.0) × AllBelow h es

-- the first of them is served, and is this request
abbrev pub StartsServed : Held → List Taken → Type 0
StartsServed x [] = ⊥
StartsServed x (t ∷ ts) = t ≡ record { role = Served; held = x }
