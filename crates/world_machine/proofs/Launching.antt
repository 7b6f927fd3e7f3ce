-- A Launch: the answer is heard once the new service stands.
use Rattle.std.proofs.Common.{◌≡◌, ℕ, zero, suc, ◌<◌, ◌≤◌, ◌+◌, ◌-◌, nat_lt, Bool, true, false, List, [], ◌∷◌, ◌++◌, length, Option, Some, None, slice_get, slice_set, if◌then◌else◌, refl, ap, sym, ◌∙◌, subst, arith, length-append}
use Rattle.std.specs.Prelude.{Result, Ok, Err, IfErr}
use Rattle.std.specs.Result.{IsErrAnd}
use Rattle.sk_types.specs.declared.number.Handle.{Handle}
use Rattle.message.specs.Actors.{Way, Fits}
use Rattle.message.specs.Registries.{Registry, at, set_at, next_handle, register, does_launch, most_handles}
use Rattle.message.specs.Steps.{Asks, Serves, service_ops, bounce_ops, service_after, place_of, made, AtRegistry}
use Rattle.message.specs.Worlds.{World, set_agent, grow_by, act, left_by}
use Rattle.message.proofs.Acts.{act_first}
use Rattle.message.specs.declared.datum.Datum.{Datum}
use Rattle.message.specs.declared.request.Held.{Held}
use Rattle.message.specs.declared.request.Request.TheVariants as ask
use Rattle.message.specs.declared.request.Answer.TheVariants.{Found}
use Rattle.message.specs.declared.request.Input.TheVariants.{Answer as Answers}
use Rattle.message.specs.declared.record.What.{What}
use Rattle.message.specs.declared.record.What.TheVariants as did
use Rattle.message.specs.declared.place.Service.{Service}
use Rattle.message.specs.declared.place.Service.TheVariants.{Serving, Leaving}
use Rattle.world_machine.specs.Serving.{MayGet, answered}
use Rattle.world_machine.specs.Standing.{StandsAt}
use Rattle.world_machine.specs.Failing.{IsSpent}
use Rattle.world_machine.specs.Machines.{DidThis}
use Rattle.world_machine.specs.Launching.{Brings, BringsBy, brought, MayHear, Hears}
use Rattle.world_machine.specs.declared.served.Stage.TheVariants as stage
use Rattle.world_machine.proofs.Asking.{next_is, agent_serves, at_given}

get_front : {X : Type 0} (xs ys : List X) (i : ℕ) → i < length xs → slice_get (xs ++ ys) i ≡ slice_get xs i
get_front [] ys i l = absurd (omega (arith, l))
get_front (x ∷ xs) ys zero l = refl
get_front (x ∷ xs) ys (suc i) l = get_front xs ys i (omega (arith, l))

set_front : {X : Type 0} (xs ys : List X) (i : ℕ) (x : X) → i < length xs → slice_set (xs ++ ys) i x ≡ slice_set xs i x ++ ys
set_front [] ys i x l = absurd (omega (arith, l))
set_front (z ∷ xs) ys zero x l = refl
set_front (z ∷ xs) ys (suc i) x l = ap (λ zs. z ∷ zs) (set_front xs ys i x (omega (arith, l)))

pub at_front : {X : Type 0} (xs ys : List X) (h : ℕ) → 0 < h → h ≤ length xs → at (xs ++ ys) h ≡ at xs h
at_front xs ys h given within =
    let inside : h - 1 < length xs = omega (arith, given, within) in
    at_given (xs ++ ys) h given ∙ (get_front xs ys (h - 1) inside ∙ sym (at_given xs h given))

-- an ended service launches nothing
no_launch : (own : Handle) (found : Bool) (xs : List Held) (name : List ℕ) (args : List Datum) → bounce_ops own found xs ≡ Asks (ask.Launch name args) ∷ [] → ⊥
no_launch own found [] name args e = absurd (cc)
no_launch own true (x ∷ xs) name args e = absurd (cc)
no_launch own false (x ∷ xs) name args e = absurd (cc)

pub launch_may : {S : Type 0} (way : Way S) (x : Service S) (name : List ℕ) (args : List Datum) (found : Option Handle) → service_ops way x ≡ Asks (ask.Launch name args) ∷ [] → MayGet way x (Found found)
launch_may way (Serving s) name args found e = subst (λ n. Fits n (Answers (Found found))) (sym (next_is (way.next s) (ask.Launch name args) e)) tt
launch_may way (Leaving e) name args found is = tt

launch_after : {S : Type 0} (way : Way S) (x : Service S) (name : List ℕ) (args : List Datum) (found : Option Handle) → service_ops way x ≡ Asks (ask.Launch name args) ∷ [] → service_after way x (did.Launch name args found) ≡ answered way x (Found found)
launch_after way (Serving s) name args found e = refl
launch_after way (Leaving e) name args found is = absurd (no_launch e.own e.found e.bounces name args is)

-- a script begins only where a handle is left
made_begins : {S : Type 0} (way : Way S) (r : Registry) (name : List ℕ) (s : S) (b : Bool) → (if b then way.begins name (next_handle r) else None) ≡ Some s → way.begins name (next_handle r) ≡ Some s
made_begins way r name s true e = e
made_begins way r name s false e = absurd (cc)

-- the services that were there are there yet
pub still_there : {S : Type 0} (way : Way S) (w w2 : World S) (h : Handle) (x : Service S) (name : List ℕ) (args : List Datum) (found : Option Handle)
    → 0 < h.0 → h.0 ≤ length w.services → at w.services h.0 ≡ Some x → Brings way w name args found w2 → (h.0 ≤ length w2.services) × (at w2.services h.0 ≡ Some x)
still_there {S = S} way w w2 h x name args found given within there b = go (made way w.registry name) b where
  go : (q : Option S) → BringsBy w args q found w2 → (h.0 ≤ length w2.services) × (at w2.services h.0 ≡ Some x)
  go None k = (subst (λ (v : World S). h.0 ≤ length v.services) (sym k.1) within, subst (λ (v : World S). at v.services h.0 ≡ Some x) (sym k.1) there)
  go (Some s) k =
      let more : length (w.services ++ Serving s ∷ []) ≡ length w.services + 1 = length-append w.services (Serving s ∷ []) in
      let long : h.0 ≤ length (w.services ++ Serving s ∷ []) = omega (arith, within, more) in
      (subst (λ (v : World S). h.0 ≤ length v.services) (sym k.1) long, subst (λ (v : World S). at v.services h.0 ≡ Some x) (sym k.1) (at_front w.services (Serving s ∷ []) h.0 given within ∙ there))

pub may_hear : {S : Type 0} (way : Way S) (w w2 : World S) (h : Handle) (name : List ℕ) (args : List Datum) (found : Option Handle)
    → StandsAt way w h (stage.Asks (ask.Launch name args)) → Brings way w name args found w2 → MayHear way w2 h (Found found)
may_hear way w w2 h name args found at_it b =
    let still = still_there way w w2 h at_it.service name args found at_it.given at_it.within at_it.there b in
    record { given = at_it.given; within = still.0; service = at_it.service; there = still.1; may = launch_may way at_it.service name args found at_it.stands }

pub launches_did : {S : Type 0} (way : Way S) (w w2 w3 : World S) (h : Handle) (name : List ℕ) (args : List Datum) (found : Option Handle)
    → StandsAt way w h (stage.Asks (ask.Launch name args)) → Brings way w name args found w2 → Hears way w2 h (Found found) w3 → DidThis way w h None w3 (did.Launch name args found)
launches_did {S = S} way w w2 w3 h name args found at_it b heard = go (made way w.registry name) refl b where
  x : Service S
  x = at_it.service

  same : heard.service ≡ at_it.service
  same =
      let still = still_there way w w2 h at_it.service name args found at_it.given at_it.within at_it.there b in
      let e : Some heard.service ≡ Some at_it.service = sym heard.there ∙ still.1 in
      cc

  left : w3 ≡ set_agent w2 h (Serves (answered way at_it.service (Found found)))
  left = heard.after ∙ ap (λ (y : Service S). set_agent w2 h (Serves (answered way y (Found found)))) same

  acts : act way w h ≡ Some ((does_launch w.registry name args (made way w.registry name)).0, left_by way w h (Serves at_it.service) (place_of h (Asks (ask.Launch name args))) ((does_launch w.registry name args (made way w.registry name)).0, AtRegistry (does_launch w.registry name args (made way w.registry name)).1))
  acts = act_first way w h (Serves at_it.service) (Asks (ask.Launch name args)) [] (AtRegistry w.registry)
      ((does_launch w.registry name args (made way w.registry name)).0, AtRegistry (does_launch w.registry name args (made way w.registry name)).1)
      (agent_serves w h at_it.service at_it.given at_it.there) at_it.stands refl refl

  go : (q : Option S) → made way w.registry name ≡ q → BringsBy w args q found w2 → DidThis way w h None w3 (did.Launch name args found)
  go None is k =
      let D = λ (z : Option S). act way w h ≡ Some ((does_launch w.registry name args z).0, left_by way w h (Serves at_it.service) (place_of h (Asks (ask.Launch name args))) ((does_launch w.registry name args z).0, AtRegistry (does_launch w.registry name args z).1)) in
      let did_it : act way w h ≡ Some (did.Launch name args None, set_agent w h (Serves (service_after way at_it.service (did.Launch name args None)))) = subst D is acts in
      let now : service_after way at_it.service (did.Launch name args None) ≡ answered way at_it.service (Found found) = launch_after way at_it.service name args None at_it.stands ∙ ap (λ z. answered way at_it.service (Found z)) (sym k.0) in
      let whole : set_agent w h (Serves (service_after way at_it.service (did.Launch name args None))) ≡ w3 = ap (λ y. set_agent w h (Serves y)) now ∙ (ap (λ v. set_agent v h (Serves (answered way at_it.service (Found found)))) (sym k.1) ∙ sym left) in
      (did_it ∙ (ap (λ v. Some (did.Launch name args None, v)) whole ∙ ap (λ z. Some (did.Launch name args z, w3)) (sym k.0)), refl)
  go (Some s) is k =
      let what : What = did.Launch name args (Some (next_handle w.registry)) in
      let D = λ (z : Option S). act way w h ≡ Some ((does_launch w.registry name args z).0, left_by way w h (Serves at_it.service) (place_of h (Asks (ask.Launch name args))) ((does_launch w.registry name args z).0, AtRegistry (does_launch w.registry name args z).1)) in
      let before : World S = record { services = set_at w.services h.0 (service_after way at_it.service (did.Launch name args (Some (next_handle w.registry)))); inboxes = w.inboxes; registry = register w.registry; clock = w.clock; due = w.due } in
      let did_it : act way w h ≡ Some (did.Launch name args (Some (next_handle w.registry)), grow_by before args (way.begins name (next_handle w.registry))) = subst D is acts in
      let begun : way.begins name (next_handle w.registry) ≡ Some s = made_begins way w.registry name s (nat_lt (length w.registry.listed) most_handles) is in
      let now : service_after way at_it.service (did.Launch name args (Some (next_handle w.registry))) ≡ answered way at_it.service (Found found) = launch_after way at_it.service name args (Some (next_handle w.registry)) at_it.stands ∙ ap (λ z. answered way at_it.service (Found z)) (sym k.0) in
      let inside : h.0 - 1 < length w.services = (let a = at_it.given in let c = at_it.within in omega (arith, a, c)) in
      let y = answered way at_it.service (Found found) in
      let lists : set_at w.services h.0 (service_after way at_it.service (did.Launch name args (Some (next_handle w.registry)))) ++ Serving s ∷ [] ≡ set_at (w.services ++ Serving s ∷ []) h.0 y
      = ap (λ z. set_at w.services h.0 z ++ Serving s ∷ []) now ∙ sym (set_front w.services (Serving s ∷ []) (h.0 - 1) y inside) in
      let G : List (Service S) → World S = λ l. record { services = l; inboxes = (brought w args s).inboxes; registry = register w.registry; clock = w.clock; due = w.due } in
      let grown : grow_by before args (Some s) ≡ set_agent (brought w args s) h (Serves y) = ap G lists in
      let whole : grow_by before args (way.begins name (next_handle w.registry)) ≡ w3 = ap (grow_by before args) begun ∙ (grown ∙ (ap (λ v. set_agent v h (Serves y)) (sym k.1) ∙ sym left)) in
      (did_it ∙ (ap (λ v. Some (did.Launch name args (Some (next_handle w.registry)), v)) whole ∙ ap (λ z. Some (did.Launch name args z, w3)) (sym k.0)), refl)

-- the service was launched, whatever comes of the answer
pub launches_acted : {S : Type 0} (way : Way S) (w w2 : World S) (h : Handle) (name : List ℕ) (args : List Datum) (found : Option Handle) (spent : Bool)
    → StandsAt way w h (stage.Asks (ask.Launch name args)) → Brings way w name args found w2 → spent ≡ true → IsSpent way w h None spent
launches_acted way w w2 h name args found spent at_it b met =
    let still = still_there way w w2 h at_it.service name args found at_it.given at_it.within at_it.there b in
    let w3 = set_agent w2 h (Serves (answered way at_it.service (Found found))) in
    let k = launches_did way w w2 w3 h name args found at_it b (record { service = at_it.service; there = still.1; after = refl }) in
    record { what = did.Launch name args found; after = w3; acts = k.0; line_is = k.1; met = met }

-- an error that is passed on
pub err_is : {T E : Type 0} (r : Result T E) (x : E) (P : E → Type 0) → IsErrAnd r (λ y. y ≡ x) → P x → IfErr r P
err_is (Ok t) x P e k = tt
err_is (Err y) x P e k = subst P (sym e) k
