-- What is done with a turn that is put back.
use Rattle.std.proofs.Common.{ℕ, ◌≡◌, ◌≢◌, ◌<◌, ◌==◌, Bool, true, false, List, [], ◌∷◌, Option, Some, None, slice_get, refl, ap, sym, ◌∙◌, subst, arith}
use Rattle.std.specs.Option.{option_map}
use Rattle.std.proofs.lemmas.Bool.Decides.{nat_tests}
use Rattle.message.specs.Actors.{Way}
use Rattle.message.specs.Registries.{at}
use Rattle.message.specs.Steps.{Asks, ops, next_ops, bounce_ops, service_ops}
use Rattle.message.specs.Worlds.{World, agent_or_clock, serves}
use Rattle.sk_types.specs.declared.number.Handle.{Handle}
use Rattle.message.specs.declared.request.Held.{Held}
use Rattle.message.specs.declared.request.Message.{Message}
use Rattle.message.specs.declared.request.Request.{Request}
use Rattle.message.specs.declared.request.Request.TheVariants as ask
use Rattle.message.specs.declared.request.Next.{Next}
use Rattle.message.specs.declared.request.Next.TheVariants.{Idle, Ask}
use Rattle.message.specs.declared.place.InboxStatus.{InboxStatus}
use Rattle.message.specs.declared.place.InboxStatus.TheVariants.{Live, Closing, Gone}
use Rattle.message.specs.declared.place.InboxState.{InboxState}
use Rattle.message.specs.declared.place.Ending.{Ending}
use Rattle.message.specs.declared.place.Service.{Service}
use Rattle.message.specs.declared.place.Service.TheVariants.{Serving, Leaving}
use Rattle.world_machine.specs.Serving.{IsIdle}
use Rattle.world_machine.specs.Phases.{op_phase, phase_of, phase}
use Rattle.world_machine.specs.declared.phase.Phase.TheVariants as phases
use Rattle.schedule_core.specs.declared.spot.Spot.TheVariants.{Home, Spent}
use Rattle.schedule_core.specs.declared.spot.Rest.{Rest}
use Rattle.schedule_core.specs.declared.spot.Rest.TheVariants as rest
use Rattle.schedule_core.specs.Turns.{Turns, laid}
use Rattle.schedule_core.specs.Steps.{ParksAt, ParksBy, IsPark}
use Rattle.schedule_core.specs.Cores.{rests, parked_by, parked}
use Rattle.schedule_core.proofs.Cells.{some_is}

-- the phase of a service
service_phase : {S : Type 0} (way : Way S) (w : World S) (h : Handle) (q : Option (Service S)) → 0 < h.0 → at w.services h.0 ≡ q → phase way w h ≡ option_map (λ a. phase_of (ops way a)) (serves q)
service_phase way w h q big e =
    let no_zero : (h.0 == 0) ≡ false = grind (arith, nat_tests) in
    ap (λ b. option_map (λ a. phase_of (ops way a)) (agent_or_clock w.due (at w.services h.0) b)) no_zero ∙ ap (λ z. option_map (λ a. phase_of (ops way a)) (serves z)) e

asks_somewhere : (r : Request) → op_phase (Asks r) ≢ phases.Idle
asks_somewhere (ask.Put to m) e = cc
asks_somewhere (ask.Mark to) e = cc
asks_somewhere (ask.Look d) e = cc
asks_somewhere (ask.Launch text args) e = cc
asks_somewhere (ask.Name text to) e = cc
asks_somewhere (ask.Retire to) e = cc
asks_somewhere (ask.Later n x) e = cc
asks_somewhere ask.Now e = cc

-- IDLE SERVICES

pub idle_phase : {S : Type 0} (way : Way S) (w : World S) (h : Handle) (x : Service S) → 0 < h.0 → at w.services h.0 ≡ Some x → IsIdle way x → phase way w h ≡ Some phases.Idle
idle_phase way w h (Leaving e) big there idle = absurd idle
idle_phase way w h (Serving s) big there idle = service_phase way w h (Some (Serving s)) big there ∙ ap (λ n. Some (phase_of (next_ops n))) idle

next_idle : (n : Next) → phase_of (next_ops n) ≡ phases.Idle → n ≡ Idle
next_idle Idle e = refl
next_idle (Ask r) e = absurd (asks_somewhere r e)

no_bounce : (own : Handle) (found : Bool) (xs : List Held) → phase_of (bounce_ops own found xs) ≢ phases.Idle
no_bounce own false [] e = cc
no_bounce own true [] e = cc
no_bounce own false (x ∷ xs) e = cc
no_bounce own true (x ∷ xs) e = cc

idle_by : {S : Type 0} (way : Way S) (x : Service S) → phase_of (service_ops way x) ≡ phases.Idle → IsIdle way x
idle_by way (Serving s) e = next_idle (way.next s) e
idle_by way (Leaving b) e = absurd (no_bounce b.own b.found b.bounces e)

pub phase_idle : {S : Type 0} (way : Way S) (w : World S) (h : Handle) → 0 < h.0 → phase way w h ≡ Some phases.Idle → (x : Service S) × (at w.services h.0 ≡ Some x) × IsIdle way x
phase_idle {S = S} way w h big e = go (at w.services h.0) refl where
  go : (q : Option (Service S)) → at w.services h.0 ≡ q → (x : Service S) × (at w.services h.0 ≡ Some x) × IsIdle way x
  go None k = let none : None ≡ Some phases.Idle = sym (service_phase way w h None big k) ∙ e in absurd (cc)
  go (Some x) k =
      let some : Some (phase_of (service_ops way x)) ≡ Some phases.Idle = sym (service_phase way w h (Some x) big k) ∙ e in
      let same : phase_of (service_ops way x) ≡ phases.Idle = cc in
      (x, k, idle_by way x same)

-- WHERE A TURN GOES

asks_idle : (r : Request) → Ask r ≢ Idle
asks_idle r e = cc

some_left : (x : Held) (xs : List Held) → x ∷ xs ≢ []
some_left x xs e = cc

no_service : {S : Type 0} (x : Service S) → None ≢ Some x
no_service x e = cc

no_inbox : (i : InboxState) → None ≢ Some i
no_inbox i e = cc

module _ {S : Type 0} (way : Way S) (t : Turns) (k : ℕ) (own : Handle) where
  abbrev RestSays : InboxStatus → List Message → Option Rest → Type 0
  RestSays s ms None = (t2 : Turns) → ParksAt t k own s ms t2 → ⊥
  RestSays s ms (Some rest.Home) = ParksAt t k own s ms (laid t k own Home)
  RestSays s ms (Some rest.Hand) = ParksAt t k own s ms t
  RestSays s ms (Some rest.Spent) = ⊥

  rest_says : (s : InboxStatus) (ms : List Message) → RestSays s ms (rests s ms)
  rest_says Live [] = refl
  rest_says Live (m ∷ ms) = refl
  rest_says Closing ms = λ t2 p. p
  rest_says Gone ms = λ t2 p. p

  abbrev Says : Service S → InboxState → Option Rest → Type 0
  Says x i None = (t2 : Turns) → ParksBy way x i t k own t2 → ⊥
  Says x i (Some rest.Home) = ParksBy way x i t k own (laid t k own Home)
  Says x i (Some rest.Hand) = ParksBy way x i t k own t
  Says x i (Some rest.Spent) = ParksBy way x i t k own (laid t k own Spent)

  idle_says : (s : S) (i : InboxState) (q : Option Rest) → way.next s ≡ Idle → RestSays i.status i.waiting q → Says (Serving s) i q
  idle_says s i None e r = λ t2 p. r t2 p.1
  idle_says s i (Some rest.Home) e r = (e, r)
  idle_says s i (Some rest.Hand) e r = (e, r)
  idle_says s i (Some rest.Spent) e r = absurd r

  asks_none : (r : Request) (i : InboxState) → parked_by (Some (op_phase (Asks r))) i ≡ None
  asks_none (ask.Put to m) i = refl
  asks_none (ask.Mark to) i = refl
  asks_none (ask.Look d) i = refl
  asks_none (ask.Launch text args) i = refl
  asks_none (ask.Name text to) i = refl
  asks_none (ask.Retire to) i = refl
  asks_none (ask.Later n x) i = refl
  asks_none ask.Now i = refl

  serving_says : (s : S) (i : InboxState) (n : Next) → way.next s ≡ n → Says (Serving s) i (parked_by (Some (phase_of (next_ops n))) i)
  serving_says s i Idle e = idle_says s i (rests i.status i.waiting) e (rest_says i.status i.waiting)
  serving_says s i (Ask r) e = subst (Says (Serving s) i) (sym (asks_none r i)) (λ t2 p. asks_idle r (sym e ∙ p.0))

  leaving_says : (e : Ending) (i : InboxState) (found : Bool) (xs : List Held) → e.bounces ≡ xs → Says (Leaving e) i (parked_by (Some (phase_of (bounce_ops e.own found xs))) i)
  leaving_says e i false [] k = (k, refl)
  leaving_says e i true [] k = (k, refl)
  leaving_says e i false (x ∷ xs) k = λ t2 p. some_left x xs (sym k ∙ p.0)
  leaving_says e i true (x ∷ xs) k = λ t2 p. some_left x xs (sym k ∙ p.0)

  says : (x : Service S) (i : InboxState) → Says x i (parked_by (Some (phase_of (service_ops way x))) i)
  says (Serving s) i = serving_says s i (way.next s) refl
  says (Leaving e) i = leaving_says e i e.found e.bounces refl

  -- the step, or that there is none
  abbrev pub Parking : World S → Option Rest → Type 0
  Parking w None = (t2 : Turns) → IsPark way w t k own t2 → ⊥
  Parking w (Some rest.Home) = IsPark way w t k own (laid t k own Home)
  Parking w (Some rest.Hand) = IsPark way w t k own t
  Parking w (Some rest.Spent) = IsPark way w t k own (laid t k own Spent)

  done : (w : World S) (x : Service S) (i : InboxState) (q : Option Rest) → slice_get t.hands k ≡ Some (Some own) → at w.services own.0 ≡ Some x → at w.inboxes own.0 ≡ Some i → Says x i q → Parking w q
  done w x i None has there found p = λ t2 y.
      let one : y.service ≡ x = some_is y.service x (at w.services own.0) y.there there in
      let two : y.inbox ≡ i = some_is y.inbox i (at w.inboxes own.0) y.found found in
      p t2 (subst (λ (z : InboxState). ParksBy way x z t k own t2) two (subst (λ (z : Service S). ParksBy way z y.inbox t k own t2) one y.parks))
  done w x i (Some rest.Home) has there found p = record { has = has; service = x; there = there; inbox = i; found = found; parks = p }
  done w x i (Some rest.Hand) has there found p = record { has = has; service = x; there = there; inbox = i; found = found; parks = p }
  done w x i (Some rest.Spent) has there found p = record { has = has; service = x; there = there; inbox = i; found = found; parks = p }

  pub parking : (w : World S) → 0 < own.0 → slice_get t.hands k ≡ Some (Some own) → Parking w (parked (phase way w own) (at w.inboxes own.0))
  parking w big has = by_inbox (at w.inboxes own.0) refl where
    by_service : (i : InboxState) → at w.inboxes own.0 ≡ Some i → (q : Option (Service S)) → at w.services own.0 ≡ q → Parking w (parked_by (option_map (λ a. phase_of (ops way a)) (serves q)) i)
    by_service i found None there = λ t2 y. no_service y.service (sym there ∙ y.there)
    by_service i found (Some x) there = done w x i (parked_by (Some (phase_of (service_ops way x))) i) has there found (says x i)

    by_inbox : (q : Option InboxState) → at w.inboxes own.0 ≡ q → Parking w (parked (phase way w own) q)
    by_inbox None found = λ t2 y. no_inbox y.inbox (sym found ∙ y.found)
    by_inbox (Some i) found = subst (λ z. Parking w (parked_by z i)) (sym (service_phase way w own (at w.services own.0) big refl)) (by_service i found (at w.services own.0) refl)
