-- What an act was, and what it left of the services, the inboxes and the registry.
use Rattle.std.proofs.Common.{◌⊎◌, inl, inr, ℕ, ◌≡◌, ◌≢◌, ◌==◌, Bool, true, false, List, Option, Some, None, refl, ap, sym, ◌∙◌, subst}
use Rattle.message.specs.Actors.{Way}
use Rattle.message.specs.Registries.{Registry, at, set_at}
use Rattle.message.specs.Steps.{Op, Agent, Serves, Times, IsOne, ops, op_of, service_after, agent_after, place_of, PlaceState, AtRegistry, AtInbox, AtClock, inbox_does, registry_does, clock_does, does}
use Rattle.message.specs.Worlds.{World, agent, agent_or_clock, place, inbox_state, set_place, set_agent, grow, grow_by, left_by, act}
use Rattle.message.proofs.Acts.{act_inv}
use Rattle.sk_types.specs.declared.number.Handle.{Handle}
use Rattle.message.specs.declared.datum.Datum.{Datum}
use Rattle.message.specs.declared.record.What.{What}
use Rattle.message.specs.declared.record.What.TheVariants as did
use Rattle.message.specs.declared.place.Place.{Place}
use Rattle.message.specs.declared.place.Place.TheVariants.{Registry as TheRegistry, Inbox as TheInbox, Clock as TheClock}
use Rattle.message.specs.declared.place.InboxState.{InboxState}
use Rattle.message.specs.declared.place.Service.{Service}
use Rattle.call_fates.proofs.Forms.{IsDone, does_done, with_inv}

-- the services after what the agent did, without the one that it may have launched
abbrev pub services_after : {S : Type 0} → Way S → World S → Handle → Agent S → What → List (Service S)
services_after way w h (Serves x) what = set_at w.services h.0 (service_after way x what)
services_after way w h (Times due) what = w.services

-- it was done at an inbox
pub record AtOne {S : Type 0} (w : World S) (h : Handle) (op : Op) (what : What) (inboxes : List InboxState) : Type 0 where
  pub to : Handle
  pub before : InboxState
  pub after : InboxState
  pub place : place_of h op ≡ TheInbox to
  pub there : at w.inboxes to.0 ≡ Some before
  pub does : inbox_does op before ≡ Some (what, after)
  pub set : inboxes ≡ set_at w.inboxes to.0 after

-- or elsewhere
pub record AtNone {S : Type 0} (w : World S) (h : Handle) (op : Op) (inboxes : List InboxState) : Type 0 where
  pub other : (to : Handle) → place_of h op ≢ TheInbox to
  pub kept : inboxes ≡ w.inboxes

abbrev pub Registers : {S : Type 0} → Way S → World S → Handle → Op → What → Registry → Type 0
Registers way w h op what r = ((place_of h op ≡ TheRegistry) × (registry_does way op w.registry ≡ Some (what, r))) ⊎ ((place_of h op ≢ TheRegistry) × (r ≡ w.registry))

-- a service was launched
pub record Launches {S : Type 0} (way : Way S) (what : What) (mid w2 : World S) : Type 0 where
  pub text : List ℕ
  pub args : List Datum
  pub own : Handle
  pub state : S
  pub is : what ≡ did.Launch text args (Some own)
  pub begins : way.begins text own ≡ Some state
  pub grown : w2 ≡ grow_by mid args (Some state)

abbrev pub Grows : {S : Type 0} → Way S → What → World S → World S → Type 0
Grows way what mid w2 = ((w2 ≡ mid) × ((text : List ℕ) (args : List Datum) (own : Handle) → what ≡ did.Launch text args (Some own) → way.begins text own ≡ None)) ⊎ Launches way what mid w2

pub record Acted {S : Type 0} (way : Way S) (w : World S) (h : Handle) (r : What × World S) : Type 0 where
  pub who : Agent S
  pub there : agent w h ≡ Some who
  pub may : IsOne (op_of r.0) (ops way who)
  pub done : IsDone (op_of r.0) r.0
  -- the world before a launched service was added
  pub mid : World S
  pub services : mid.services ≡ services_after way w h who r.0
  pub inboxes : AtOne w h (op_of r.0) r.0 mid.inboxes ⊎ AtNone w h (op_of r.0) mid.inboxes
  pub registry : Registers way w h (op_of r.0) r.0 mid.registry
  pub grows : Grows way r.0 mid r.1

placed_services : {S : Type 0} (w : World S) (p : Place) (s : PlaceState) → (set_place w p s).services ≡ w.services
placed_services w TheRegistry (AtRegistry r) = refl
placed_services w TheRegistry (AtInbox i) = refl
placed_services w TheRegistry (AtClock c) = refl
placed_services w (TheInbox h) (AtRegistry r) = refl
placed_services w (TheInbox h) (AtInbox i) = refl
placed_services w (TheInbox h) (AtClock c) = refl
placed_services w TheClock (AtRegistry r) = refl
placed_services w TheClock (AtInbox i) = refl
placed_services w TheClock (AtClock c) = refl

set_services : {S : Type 0} (way : Way S) (w v : World S) (h : Handle) (a : Agent S) (what : What) → v.services ≡ w.services → (set_agent v h (agent_after way a what)).services ≡ services_after way w h a what
set_services way w v h (Serves x) what e = ap (λ z. set_at z h.0 (service_after way x what)) e
set_services way w v h (Times due) what e = e

set_inboxes : {S : Type 0} (v : World S) (h : Handle) (a : Agent S) → (set_agent v h a).inboxes ≡ v.inboxes
set_inboxes v h (Serves x) = refl
set_inboxes v h (Times due) = refl

set_registry : {S : Type 0} (v : World S) (h : Handle) (a : Agent S) → (set_agent v h a).registry ≡ v.registry
set_registry v h (Serves x) = refl
set_registry v h (Times due) = refl

inbox_is : {S : Type 0} (w : World S) (to : Handle) (s : PlaceState) (q : Option InboxState) → at w.inboxes to.0 ≡ q → inbox_state q ≡ Some s → (i : InboxState) × (at w.inboxes to.0 ≡ Some i) × (s ≡ AtInbox i)
inbox_is w to s None e f = absurd (cc)
inbox_is w to s (Some i) e f = let same : AtInbox i ≡ s = cc in (i, e, sym same)

no_inbox : (to : Handle) → TheRegistry ≢ TheInbox to
no_inbox to e = cc

no_inbox2 : (to : Handle) → TheClock ≢ TheInbox to
no_inbox2 to e = cc

-- by the place
left_inboxes : {S : Type 0} (way : Way S) (w : World S) (h : Handle) (a : Agent S) (op : Op) (p : Place) (s : PlaceState) (d : What × PlaceState) → place_of h op ≡ p → place w p ≡ Some s → does way h op s ≡ Some d
    → AtOne w h op d.0 (set_agent (set_place w p d.1) h a).inboxes ⊎ AtNone w h op (set_agent (set_place w p d.1) h a).inboxes
left_inboxes way w h a op TheRegistry s d e there can =
    let same : s ≡ AtRegistry w.registry = cc in
    let x = with_inv AtRegistry (registry_does way op w.registry) d (ap (does way h op) (sym same) ∙ can) in
    inr (record { other = λ to k. no_inbox to (sym e ∙ k); kept = ap (λ (z : What × PlaceState). (set_agent (set_place w TheRegistry z.1) h a).inboxes) (sym x.2) ∙ set_inboxes (set_place w TheRegistry (AtRegistry x.0.1)) h a })
left_inboxes way w h a op TheClock s d e there can =
    let same : s ≡ AtClock w.clock = cc in
    let x = with_inv AtClock (clock_does h op w.clock) d (ap (does way h op) (sym same) ∙ can) in
    inr (record { other = λ to k. no_inbox2 to (sym e ∙ k); kept = ap (λ (z : What × PlaceState). (set_agent (set_place w TheClock z.1) h a).inboxes) (sym x.2) ∙ set_inboxes (set_place w TheClock (AtClock x.0.1)) h a })
left_inboxes way w h a op (TheInbox to) s d e there can =
    let i = inbox_is w to s (at w.inboxes to.0) refl there in
    let x = with_inv AtInbox (inbox_does op i.0) d (ap (does way h op) (sym i.2) ∙ can) in
    let what_is : x.0.0 ≡ d.0 = ap (λ (z : What × PlaceState). z.0) x.2 in
    inl (record {
      to = to;
      before = i.0;
      after = x.0.1;
      place = e;
      there = i.1;
      does = x.1 ∙ ap (λ z. Some (z, x.0.1)) what_is;
      set = ap (λ (z : What × PlaceState). (set_agent (set_place w (TheInbox to) z.1) h a).inboxes) (sym x.2) ∙ set_inboxes (set_place w (TheInbox to) (AtInbox x.0.1)) h a;
    })

no_registry : (to : Handle) → TheInbox to ≢ TheRegistry
no_registry to e = cc

no_registry2 : TheClock ≢ TheRegistry
no_registry2 e = cc

left_registry : {S : Type 0} (way : Way S) (w : World S) (h : Handle) (a : Agent S) (op : Op) (p : Place) (s : PlaceState) (d : What × PlaceState) → place_of h op ≡ p → place w p ≡ Some s → does way h op s ≡ Some d
    → Registers way w h op d.0 (set_agent (set_place w p d.1) h a).registry
left_registry way w h a op TheRegistry s d e there can =
    let same : s ≡ AtRegistry w.registry = cc in
    let x = with_inv AtRegistry (registry_does way op w.registry) d (ap (does way h op) (sym same) ∙ can) in
    let what_is : x.0.0 ≡ d.0 = ap (λ (z : What × PlaceState). z.0) x.2 in
    let r_is : (set_agent (set_place w TheRegistry d.1) h a).registry ≡ x.0.1 = ap (λ (z : What × PlaceState). (set_agent (set_place w TheRegistry z.1) h a).registry) (sym x.2) ∙ set_registry (set_place w TheRegistry (AtRegistry x.0.1)) h a in
    inl (e, x.1 ∙ (ap (λ z. Some (z, x.0.1)) what_is ∙ ap (λ z. Some (d.0, z)) (sym r_is)))
left_registry way w h a op TheClock s d e there can =
    let same : s ≡ AtClock w.clock = cc in
    let x = with_inv AtClock (clock_does h op w.clock) d (ap (does way h op) (sym same) ∙ can) in
    inr (λ k. no_registry2 (sym e ∙ k), ap (λ (z : What × PlaceState). (set_agent (set_place w TheClock z.1) h a).registry) (sym x.2) ∙ set_registry (set_place w TheClock (AtClock x.0.1)) h a)
left_registry way w h a op (TheInbox to) s d e there can =
    let i = inbox_is w to s (at w.inboxes to.0) refl there in
    let x = with_inv AtInbox (inbox_does op i.0) d (ap (does way h op) (sym i.2) ∙ can) in
    inr (λ k. no_registry to (sym e ∙ k), ap (λ (z : What × PlaceState). (set_agent (set_place w (TheInbox to) z.1) h a).registry) (sym x.2) ∙ set_registry (set_place w (TheInbox to) (AtInbox x.0.1)) h a)

grown : {S : Type 0} (way : Way S) (mid : World S) (what : What) → Grows way what mid (grow way mid what)
grown {S = S} way mid (did.Launch text args (Some own)) = go (way.begins text own) refl where
  go : (q : Option S) → way.begins text own ≡ q → Grows way (did.Launch text args (Some own)) mid (grow_by mid args (way.begins text own))
  go None e = inl (ap (λ q. grow_by mid args q) e, λ t b o k. none t b o k) where
    none : (t : List ℕ) (b : List Datum) (o : Handle) → did.Launch text args (Some own) ≡ did.Launch t b (Some o) → way.begins t o ≡ None
    none t b o k =
        let one : text ≡ t = cc in
        let two : own ≡ o = cc in
        ap (λ z. way.begins z o) (sym one) ∙ (ap (way.begins text) (sym two) ∙ e)
  go (Some s) e = inr (record { text = text; args = args; own = own; state = s; is = refl; begins = e; grown = ap (λ q. grow_by mid args q) e })
grown way mid (did.Launch text args None) = inl (refl, λ t b o k. absurd (cc))
grown way mid (did.Look d f) = inl (refl, λ t b o k. absurd (cc))
grown way mid (did.Put to m b) = inl (refl, λ t a o k. absurd (cc))
grown way mid (did.Name text to b) = inl (refl, λ t a o k. absurd (cc))
grown way mid (did.Retire to b) = inl (refl, λ t a o k. absurd (cc))
grown way mid (did.Mark to) = inl (refl, λ t b o k. absurd (cc))
grown way mid (did.Later n x) = inl (refl, λ t b o k. absurd (cc))
grown way mid (did.Now n) = inl (refl, λ t b o k. absurd (cc))
grown way mid (did.Take m l) = inl (refl, λ t b o k. absurd (cc))
grown way mid (did.End ms) = inl (refl, λ t b o k. absurd (cc))
grown way mid (did.Tick due) = inl (refl, λ t b o k. absurd (cc))
grown way mid (did.Fire to m b) = inl (refl, λ t a o k. absurd (cc))

acted_by : {S : Type 0} (way : Way S) (w : World S) (h : Handle) (who : Agent S) (op : Op) (state : PlaceState) (d : What × PlaceState) → agent w h ≡ Some who → IsOne op (ops way who) → place w (place_of h op) ≡ Some state → does way h op state ≡ Some d
    → op ≡ op_of d.0 → Acted way w h (d.0, left_by way w h who (place_of h op) d)
acted_by way w h who op state d there may found can is = record {
  who = who;
  there = there;
  may = subst (λ o. IsOne o (ops way who)) is may;
  done = subst (λ o. IsDone o d.0) is (does_done way h op state d can);
  mid = set_agent (set_place w (place_of h op) d.1) h (agent_after way who d.0);
  services = set_services way w (set_place w (place_of h op) d.1) h who d.0 (placed_services w (place_of h op) d.1);
  inboxes = subst (λ o. AtOne w h o d.0 (set_agent (set_place w (place_of h op) d.1) h (agent_after way who d.0)).inboxes ⊎ AtNone w h o (set_agent (set_place w (place_of h op) d.1) h (agent_after way who d.0)).inboxes) is
      (left_inboxes way w h (agent_after way who d.0) op (place_of h op) state d refl found can);
  registry = subst (λ o. Registers way w h o d.0 (set_agent (set_place w (place_of h op) d.1) h (agent_after way who d.0)).registry) is
      (left_registry way w h (agent_after way who d.0) op (place_of h op) state d refl found can);
  grows = grown way (set_agent (set_place w (place_of h op) d.1) h (agent_after way who d.0)) d.0;
}

pub acted : {S : Type 0} (way : Way S) (w : World S) (h : Handle) (r : What × World S) → act way w h ≡ Some r → Acted way w h r
acted way w h r e =
    let x = act_inv way w h r e in
    let is : x.op ≡ op_of x.did.0 = sym ((does_done way h x.op x.state x.did x.can).same) in
    subst (Acted way w h) (sym x.same) (acted_by way w h x.who x.op x.state x.did x.there x.may x.found x.can is)

-- an agent other than that of the clock is the service of its handle
pub agent_is : {S : Type 0} (w : World S) (h : Handle) (x : Service S) → agent w h ≡ Some (Serves x) → at w.services h.0 ≡ Some x
agent_is {S = S} w h x e = go (h.0 == 0) (at w.services h.0) e where
  go : (b : Bool) → (q : Option (Service S)) → agent_or_clock w.due q b ≡ Some (Serves x) → q ≡ Some x
  go true q k = absurd (cc)
  go false None k = absurd (cc)
  go false (Some y) k = cc
