-- A Launch of a script that reads succeeds while handles are left.
use Rattle.std.proofs.Common.{ℕ, ◌≡◌, ◌<◌, ◌+◌, ◌-◌, ◌==◌, nat_lt, true, false, List, [], ◌∷◌, length, Some, None, if◌then◌else◌, refl, ap, ◌∙◌, arith, length-append, length-set}
use Rattle.std.proofs.lemmas.Bool.Decides.{nat_tests}
use Rattle.message.specs.Actors.{Way}
use Rattle.message.specs.Registries.{at, most_handles, next_handle, does_launch, register}
use Rattle.message.specs.Steps.{Asks, Serves, next_ops, made, with_state, does, AtRegistry, service_after}
use Rattle.message.specs.Worlds.{World, agent, agent_or_clock, serves, act, left_by, grow_by, set_agent, set_place}
use Rattle.message.proofs.Acts.{act_first}
use Rattle.sk_types.specs.declared.number.Handle.{Handle}
use Rattle.message.specs.declared.datum.Datum.{Datum}
use Rattle.message.specs.declared.request.Next.TheVariants.{Ask}
use Rattle.message.specs.declared.request.Request.TheVariants as ask
use Rattle.message.specs.declared.record.What.{What}
use Rattle.message.specs.declared.record.What.TheVariants as did
use Rattle.message.specs.declared.place.Place.TheVariants.{Registry as TheRegistry}
use Rattle.message.specs.declared.place.Service.{Service}
use Rattle.message.specs.declared.place.Service.TheVariants.{Serving}
use Rattle.call_fates.proofs.Lists.{at_is}

-- a service is the agent of its handle
pub service_is : {S : Type 0} (w : World S) (h : Handle) (x : Service S) → at w.services h.0 ≡ Some x → agent w h ≡ Some (Serves x)
service_is w h x e =
    let big : 0 < h.0 = (at_is w.services h.0 x e).0 in
    let ne : (h.0 == 0) ≡ false = grind (arith, nat_tests, big) in
    ap (agent_or_clock w.due (at w.services h.0)) ne ∙ ap serves e

lt_is : (a b : ℕ) → a < b → nat_lt a b ≡ true
lt_is a b l = grind (arith, nat_tests, l)

pub launch_succeeds : {S : Type 0} (way : Way S) (w : World S) (h : Handle) (s new : S) (name : List ℕ) (args : List Datum) → at w.services h.0 ≡ Some (Serving s) → way.next s ≡ Ask (ask.Launch name args)
    → length w.registry.listed < most_handles → way.begins name (next_handle w.registry) ≡ Some new
    → (w2 : World S) × (act way w h ≡ Some (did.Launch name args (Some (next_handle w.registry)), w2)) × (length w2.services ≡ length w.services + 1)
launch_succeeds {S = S} way w h s new name args there asks few begins =
    (left, act_first way w h (Serves (Serving s)) (Asks (ask.Launch name args)) [] (AtRegistry w.registry) (what, AtRegistry (register w.registry)) (service_is w h (Serving s) there) (ap next_ops asks) refl can, len) where
      what : What
      what = did.Launch name args (Some (next_handle w.registry))

      left : World S
      left = left_by way w h (Serves (Serving s)) TheRegistry (what, AtRegistry (register w.registry))

      made_is : made way w.registry name ≡ Some new
      made_is = ap (λ b. if b then way.begins name (next_handle w.registry) else None) (lt_is (length w.registry.listed) most_handles few) ∙ begins

      can : does way h (Asks (ask.Launch name args)) (AtRegistry w.registry) ≡ Some (what, AtRegistry (register w.registry))
      can = ap (λ q. with_state AtRegistry (Some (does_launch w.registry name args q))) made_is

      mid : World S
      mid = set_agent (set_place w TheRegistry (AtRegistry (register w.registry))) h (Serves (service_after way (Serving s) what))

      len : length left.services ≡ length w.services + 1
      len = ap (λ q. length (grow_by mid args q).services) begins ∙ (length-append mid.services (Serving new ∷ []) ∙ ap (λ n. n + 1) (length-set w.services (h.0 - 1) (service_after way (Serving s) what)))
