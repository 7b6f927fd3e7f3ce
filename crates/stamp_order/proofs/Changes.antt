-- What an act changes of the world's agents and places.
use Rattle.std.proofs.Common.{◌≡◌, ◌≢◌, ◌<◌, ◌==◌, Bool, true, false, length, Option, Some, None, refl, ap, sym, ◌∙◌, subst, arith, length-set}
use Rattle.std.proofs.lemmas.Bool.Decides.{nat_tests}
use Rattle.message.specs.Actors.{Way}
use Rattle.message.specs.Registries.{at}
use Rattle.message.specs.Steps.{Op, Agent, Serves, Times, agent_after, PlaceState, AtRegistry, AtInbox, AtClock, inbox_does, registry_does, clock_does, does}
use Rattle.message.specs.Worlds.{World, agent, agent_or_clock, serves, set_agent, place, inbox_state, set_place}
use Rattle.sk_types.specs.declared.number.Handle.{Handle}
use Rattle.message.specs.declared.record.What.{What}
use Rattle.message.specs.declared.place.Place.{Place}
use Rattle.message.specs.declared.place.Place.TheVariants.{Registry as TheRegistry, Inbox as TheInbox, Clock as TheClock}
use Rattle.message.specs.declared.place.InboxState.{InboxState}
use Rattle.message.specs.declared.place.Service.{Service}
use Rattle.stamp_order.specs.Records.{same_place}
use Rattle.stamp_order.proofs.Lists.{num_is, num_differ, num_apart, at_is, at_other, at_here}
use Rattle.stamp_order.proofs.Registers.{with_inv}

-- AGENTS

-- agent 0 has the due timers, each other is a service
abbrev pub IsOfHandle : {S : Type 0} → Handle → Agent S → Type 0
IsOfHandle h (Serves x) = 0 < h.0
IsOfHandle h (Times due) = h.0 ≡ 0

pub agent_kind : {S : Type 0} (w : World S) (h : Handle) (a : Agent S) → agent w h ≡ Some a → IsOfHandle h a
agent_kind {S = S} w h a e = go (h.0 == 0) refl (at w.services h.0) a e where
  go : (b : Bool) → (h.0 == 0) ≡ b → (q : Option (Service S)) → (c : Agent S) → agent_or_clock w.due q b ≡ Some c → IsOfHandle h c
  go true t q (Serves x) k = absurd (cc)
  go true t q (Times due) k = num_is h.0 0 t
  go false t None c k = absurd (cc)
  go false t (Some y) (Serves x) k = grind (arith, nat_tests)
  go false t (Some y) (Times due) k = absurd (cc)

pub kind_after : {S : Type 0} (way : Way S) (h : Handle) (a : Agent S) (what : What) → IsOfHandle h a → IsOfHandle h (agent_after way a what)
kind_after way h (Serves x) what k = k
kind_after way h (Times due) what k = k

-- a service's agent is what stands under its handle
pub service_agent : {S : Type 0} (w : World S) (h : Handle) → 0 < h.0 → agent w h ≡ serves (at w.services h.0)
service_agent w h big = let ne : (h.0 == 0) ≡ false = grind (arith, nat_tests) in ap (agent_or_clock w.due (at w.services h.0)) ne

serves_inv : {S : Type 0} (q : Option (Service S)) (x : Service S) → serves q ≡ Some (Serves x) → q ≡ Some x
serves_inv None x e = absurd (cc)
serves_inv (Some y) x e = let same : Serves y ≡ Serves x = cc in let k : y ≡ x = cc in ap Some k

pub serves_some : {S : Type 0} (q : Option (Service S)) (a : Agent S) → serves q ≡ Some a → (x : Service S) × (q ≡ Some x)
serves_some None a e = absurd (cc)
serves_some (Some y) a e = (y, refl)

-- it is as it was set
set_agent_here : {S : Type 0} (v : World S) (h : Handle) (a b : Agent S) → agent v h ≡ Some a → IsOfHandle h b → agent (set_agent v h b) h ≡ Some b
set_agent_here v h a (Serves y) e k =
    let x = serves_some (at v.services h.0) a (sym (service_agent v h k) ∙ e) in
    service_agent (set_agent v h (Serves y)) h k ∙ ap serves (at_here v.services h.0 y x.0 x.1)
set_agent_here v h a (Times due) e k = let t : (h.0 == 0) ≡ true = grind (arith, nat_tests) in ap (agent_or_clock due (at v.services h.0)) t

-- the others are as they were
set_agent_other : {S : Type 0} (v : World S) (h g : Handle) (b : Agent S) → IsOfHandle h b → (g.0 == h.0) ≡ false → agent (set_agent v h b) g ≡ agent v g
set_agent_other v h g (Serves y) k ne = ap (λ q. agent_or_clock v.due q (g.0 == 0)) (at_other v.services h.0 g.0 y k ne)
set_agent_other v h g (Times due) k ne =
    let apart : g.0 ≢ h.0 = num_differ g.0 h.0 ne in
    let t : (g.0 == 0) ≡ false = num_apart g.0 0 (λ e. apart (e ∙ sym k)) in
    ap (agent_or_clock due (at v.services g.0)) t ∙ sym (ap (agent_or_clock v.due (at v.services g.0)) t)

-- a place's change is none of an agent
placed_agent : {S : Type 0} (w : World S) (p : Place) (q : PlaceState) (g : Handle) → agent (set_place w p q) g ≡ agent w g
placed_agent w TheRegistry (AtRegistry r) g = refl
placed_agent w TheRegistry (AtInbox i) g = refl
placed_agent w TheRegistry (AtClock c) g = refl
placed_agent w (TheInbox h) (AtRegistry r) g = refl
placed_agent w (TheInbox h) (AtInbox i) g = refl
placed_agent w (TheInbox h) (AtClock c) g = refl
placed_agent w TheClock (AtRegistry r) g = refl
placed_agent w TheClock (AtInbox i) g = refl
placed_agent w TheClock (AtClock c) g = refl

-- PLACES

-- an agent's change is none of a place
agent_placed : {S : Type 0} (v : World S) (h : Handle) (b : Agent S) (p : Place) → place (set_agent v h b) p ≡ place v p
agent_placed v h (Serves x) TheRegistry = refl
agent_placed v h (Serves x) (TheInbox g) = refl
agent_placed v h (Serves x) TheClock = refl
agent_placed v h (Times due) TheRegistry = refl
agent_placed v h (Times due) (TheInbox g) = refl
agent_placed v h (Times due) TheClock = refl

-- the state is one that the place may have
abbrev pub IsOfPlace : Place → PlaceState → Type 0
IsOfPlace TheRegistry (AtRegistry r) = Unit {0}
IsOfPlace (TheInbox h) (AtInbox i) = Unit {0}
IsOfPlace TheClock (AtClock c) = Unit {0}
IsOfPlace _ _ = ⊥

pub inbox_is : (q : Option InboxState) (s : PlaceState) → inbox_state q ≡ Some s → (i : InboxState) × (q ≡ Some i) × (s ≡ AtInbox i)
inbox_is None s e = absurd (cc)
inbox_is (Some i) s e = let same : AtInbox i ≡ s = cc in (i, refl, sym same)

pub kind_done : {S : Type 0} (way : Way S) (w : World S) (own : Handle) (op : Op) (p : Place) (s : PlaceState) (d : What × PlaceState) → place w p ≡ Some s → does way own op s ≡ Some d → IsOfPlace p d.1
kind_done way w own op TheRegistry s d there can =
    let same : s ≡ AtRegistry w.registry = cc in
    let x = with_inv AtRegistry (registry_does way op w.registry) d (ap (does way own op) (sym same) ∙ can) in
    subst (λ (z : What × PlaceState). IsOfPlace TheRegistry z.1) x.2 tt
kind_done way w own op TheClock s d there can =
    let same : s ≡ AtClock w.clock = cc in
    let x = with_inv AtClock (clock_does own op w.clock) d (ap (does way own op) (sym same) ∙ can) in
    subst (λ (z : What × PlaceState). IsOfPlace TheClock z.1) x.2 tt
kind_done way w own op (TheInbox to) s d there can =
    let i = inbox_is (at w.inboxes to.0) s there in
    let x = with_inv AtInbox (inbox_does op i.0) d (ap (does way own op) (sym i.2) ∙ can) in
    subst (λ (z : What × PlaceState). IsOfPlace (TheInbox to) z.1) x.2 tt

-- it is as it was set
set_place_here : {S : Type 0} (w : World S) (p : Place) (s q : PlaceState) → place w p ≡ Some s → IsOfPlace p q → place (set_place w p q) p ≡ Some q
set_place_here w TheRegistry s (AtRegistry r) there k = refl
set_place_here w TheRegistry s (AtInbox i) there k = absurd k
set_place_here w TheRegistry s (AtClock c) there k = absurd k
set_place_here w (TheInbox h) s (AtRegistry r) there k = absurd k
set_place_here w (TheInbox h) s (AtInbox i) there k = let was = inbox_is (at w.inboxes h.0) s there in ap inbox_state (at_here w.inboxes h.0 i was.0 was.1)
set_place_here w (TheInbox h) s (AtClock c) there k = absurd k
set_place_here w TheClock s (AtRegistry r) there k = absurd k
set_place_here w TheClock s (AtInbox i) there k = absurd k
set_place_here w TheClock s (AtClock c) there k = refl

-- the others are as they were
set_place_other : {S : Type 0} (w : World S) (p : Place) (s q : PlaceState) (p2 : Place) → place w p ≡ Some s → IsOfPlace p q → same_place p2 p ≡ false → place (set_place w p q) p2 ≡ place w p2
set_place_other w TheRegistry s (AtRegistry r) TheRegistry there k ne = absurd (cc)
set_place_other w TheRegistry s (AtRegistry r) (TheInbox g) there k ne = refl
set_place_other w TheRegistry s (AtRegistry r) TheClock there k ne = refl
set_place_other w TheRegistry s (AtInbox i) p2 there k ne = absurd k
set_place_other w TheRegistry s (AtClock c) p2 there k ne = absurd k
set_place_other w (TheInbox h) s (AtRegistry r) p2 there k ne = absurd k
set_place_other w (TheInbox h) s (AtInbox i) TheRegistry there k ne = refl
set_place_other w (TheInbox h) s (AtInbox i) (TheInbox g) there k ne =
    let was = inbox_is (at w.inboxes h.0) s there in
    ap inbox_state (at_other w.inboxes h.0 g.0 i (at_is w.inboxes h.0 was.0 was.1).0 ne)
set_place_other w (TheInbox h) s (AtInbox i) TheClock there k ne = refl
set_place_other w (TheInbox h) s (AtClock c) p2 there k ne = absurd k
set_place_other w TheClock s (AtRegistry r) p2 there k ne = absurd k
set_place_other w TheClock s (AtInbox i) p2 there k ne = absurd k
set_place_other w TheClock s (AtClock c) TheRegistry there k ne = refl
set_place_other w TheClock s (AtClock c) (TheInbox g) there k ne = refl
set_place_other w TheClock s (AtClock c) TheClock there k ne = absurd (cc)

-- HOW MANY

pub set_services_length : {S : Type 0} (v : World S) (h : Handle) (b : Agent S) → length (set_agent v h b).services ≡ length v.services
set_services_length v h (Serves x) = length-set v.services _ x
set_services_length v h (Times due) = refl

pub set_agent_inboxes : {S : Type 0} (v : World S) (h : Handle) (b : Agent S) → (set_agent v h b).inboxes ≡ v.inboxes
set_agent_inboxes v h (Serves x) = refl
set_agent_inboxes v h (Times due) = refl

pub set_agent_registry : {S : Type 0} (v : World S) (h : Handle) (b : Agent S) → (set_agent v h b).registry ≡ v.registry
set_agent_registry v h (Serves x) = refl
set_agent_registry v h (Times due) = refl

pub placed_services : {S : Type 0} (w : World S) (p : Place) (q : PlaceState) → (set_place w p q).services ≡ w.services
placed_services w TheRegistry (AtRegistry r) = refl
placed_services w TheRegistry (AtInbox i) = refl
placed_services w TheRegistry (AtClock c) = refl
placed_services w (TheInbox h) (AtRegistry r) = refl
placed_services w (TheInbox h) (AtInbox i) = refl
placed_services w (TheInbox h) (AtClock c) = refl
placed_services w TheClock (AtRegistry r) = refl
placed_services w TheClock (AtInbox i) = refl
placed_services w TheClock (AtClock c) = refl

pub placed_inboxes_length : {S : Type 0} (w : World S) (p : Place) (q : PlaceState) → length (set_place w p q).inboxes ≡ length w.inboxes
placed_inboxes_length w TheRegistry (AtRegistry r) = refl
placed_inboxes_length w TheRegistry (AtInbox i) = refl
placed_inboxes_length w TheRegistry (AtClock c) = refl
placed_inboxes_length w (TheInbox h) (AtRegistry r) = refl
placed_inboxes_length w (TheInbox h) (AtInbox i) = length-set w.inboxes _ i
placed_inboxes_length w (TheInbox h) (AtClock c) = refl
placed_inboxes_length w TheClock (AtRegistry r) = refl
placed_inboxes_length w TheClock (AtInbox i) = refl
placed_inboxes_length w TheClock (AtClock c) = refl

-- BEFORE A BIRTH

-- the world after an act, without the service that it may have launched
abbrev pub changed : {S : Type 0} → Way S → World S → Handle → Agent S → Place → What → PlaceState → World S
changed way w h a p what q = set_agent (set_place w p q) h (agent_after way a what)

pub changed_agent : {S : Type 0} (way : Way S) (w : World S) (h : Handle) (a : Agent S) (p : Place) (what : What) (q : PlaceState) → agent w h ≡ Some a → agent (changed way w h a p what q) h ≡ Some (agent_after way a what)
changed_agent way w h a p what q there =
    set_agent_here (set_place w p q) h a (agent_after way a what) (placed_agent w p q h ∙ there) (kind_after way h a what (agent_kind w h a there))

pub unchanged_agent : {S : Type 0} (way : Way S) (w : World S) (h g : Handle) (a : Agent S) (p : Place) (what : What) (q : PlaceState) → agent w h ≡ Some a → (g.0 == h.0) ≡ false → agent (changed way w h a p what q) g ≡ agent w g
unchanged_agent way w h g a p what q there ne =
    set_agent_other (set_place w p q) h g (agent_after way a what) (kind_after way h a what (agent_kind w h a there)) ne ∙ placed_agent w p q g

pub changed_place : {S : Type 0} (way : Way S) (w : World S) (h : Handle) (a : Agent S) (p : Place) (what : What) (s q : PlaceState) → place w p ≡ Some s → IsOfPlace p q → place (changed way w h a p what q) p ≡ Some q
changed_place way w h a p what s q there k = agent_placed (set_place w p q) h (agent_after way a what) p ∙ set_place_here w p s q there k

pub unchanged_place : {S : Type 0} (way : Way S) (w : World S) (h : Handle) (a : Agent S) (p p2 : Place) (what : What) (s q : PlaceState) → place w p ≡ Some s → IsOfPlace p q → same_place p2 p ≡ false → place (changed way w h a p what q) p2 ≡ place w p2
unchanged_place way w h a p p2 what s q there k ne = agent_placed (set_place w p q) h (agent_after way a what) p2 ∙ set_place_other w p s q p2 there k ne
