-- What an act leaves: its agent and its place go on, a Launch adds a service and its inbox, and all else stays.
use Rattle.std.proofs.Common.{◌⊎◌, inl, inr, ◌≡◌, ◌≢◌, ℕ, ◌<◌, ◌≤◌, ◌+◌, ◌==◌, Bool, true, false, List, [], ◌∷◌, length, Some, None, refl, ap, sym, ◌∙◌, subst, arith, length-append}
use Rattle.std.proofs.lemmas.Option.{slice_get_past}
use Rattle.message.specs.Actors.{Way}
use Rattle.message.specs.Registries.{Registry, at}
use Rattle.message.specs.Steps.{Agent, Serves, Times, op_of, agent_after, PlaceState, AtRegistry, AtInbox, AtClock, place_of, does}
use Rattle.message.specs.Worlds.{World, agent, agent_or_clock, serves, place, inbox_state, set_place, grow, grow_by, left_by}
use Rattle.sk_types.specs.declared.number.Handle.{Handle}
use Rattle.message.specs.declared.datum.Datum.{Datum}
use Rattle.message.specs.declared.record.What.{What}
use Rattle.message.specs.declared.record.What.TheVariants as did
use Rattle.message.specs.declared.place.Place.{Place}
use Rattle.message.specs.declared.place.Place.TheVariants.{Registry as TheRegistry, Inbox as TheInbox, Clock as TheClock}
use Rattle.message.specs.declared.place.Service.TheVariants.{Serving}
use Rattle.stamp_order.specs.Records.{same_place, new_inbox, IsWhole}
use Rattle.stamp_order.proofs.Lists.{num_is, num_differ, handle_is, at_of, at_push, at_last, at_within}
use Rattle.stamp_order.proofs.Registers.{Gives, Gave, Registered, registered}
use Rattle.stamp_order.proofs.Changes.{IsOfHandle, agent_kind, serves_some, service_agent, IsOfPlace, kind_done, inbox_is, set_services_length, set_agent_inboxes, set_agent_registry, placed_services, placed_inboxes_length, changed, changed_agent, unchanged_agent, changed_place, unchanged_place}

-- THE FORMS

pub record NewAgent {S : Type 0} (way : Way S) (w : World S) (p : Place) (what : What) (g : Handle) (w2 : World S) : Type 0 where
  pub name : List ℕ
  pub args : List Datum
  pub state : S
  pub at_registry : p ≡ TheRegistry
  pub is : what ≡ did.Launch name args (Some g)
  pub begins : way.begins name g ≡ Some state
  pub before : agent w g ≡ None
  pub after : agent w2 g ≡ Some (Serves (Serving state))

pub record NewInbox {S : Type 0} (way : Way S) (w : World S) (p : Place) (what : What) (p2 : Place) (w2 : World S) : Type 0 where
  pub name : List ℕ
  pub args : List Datum
  pub handle : Handle
  pub state : S
  pub at_registry : p ≡ TheRegistry
  pub where_is : p2 ≡ TheInbox handle
  pub is : what ≡ did.Launch name args (Some handle)
  pub begins : way.begins name handle ≡ Some state
  pub before : place w p2 ≡ None
  pub after : place w2 p2 ≡ Some (AtInbox (new_inbox args))

-- the world after agent h, which was a, did this at p, which is then q
pub record Outcome {S : Type 0} (way : Way S) (w : World S) (h : Handle) (a : Agent S) (p : Place) (what : What) (q : PlaceState) (w2 : World S) : Type 0 where
  pub whole : IsWhole w2
  pub acted : agent w2 h ≡ Some (agent_after way a what)
  pub done : place w2 p ≡ Some q
  pub agents : (g : Handle) → (g.0 == h.0) ≡ false → (agent w2 g ≡ agent w g) ⊎ NewAgent way w p what g w2
  pub places : (p2 : Place) → same_place p2 p ≡ false → (place w2 p2 ≡ place w p2) ⊎ NewInbox way w p what p2 w2
  pub born_agent : (name : List ℕ) (args : List Datum) (g : Handle) (s : S) → what ≡ did.Launch name args (Some g) → way.begins name g ≡ Some s → agent w2 g ≡ Some (Serves (Serving s))
  pub born_inbox : (name : List ℕ) (args : List Datum) (g : Handle) (s : S) → what ≡ did.Launch name args (Some g) → way.begins name g ≡ Some s → place w2 (TheInbox g) ≡ Some (AtInbox (new_inbox args))

-- WHAT WAS DONE

-- a Launch at the registry
pub record Bears {S : Type 0} (way : Way S) (w : World S) (p : Place) (what : What) (q : PlaceState) : Type 0 where
  pub at_registry : p ≡ TheRegistry
  pub registry : Registry
  pub is : q ≡ AtRegistry registry
  pub gave : Gave way w.registry what registry

-- or none
pub record BearsNone {S : Type 0} (w : World S) (p : Place) (what : What) (q : PlaceState) : Type 0 where
  pub none : (name : List ℕ) (args : List Datum) (h : Handle) → what ≢ did.Launch name args (Some h)
  pub same : length (set_place w p q).registry.listed ≡ length w.registry.listed

elsewhere : (own : Handle) (what : What) (p : Place) → p ≡ place_of own (op_of what) → p ≢ TheRegistry → (name : List ℕ) (args : List Datum) (h : Handle) → what ≢ did.Launch name args (Some h)
elsewhere own what p e ne name args h is = ne (e ∙ ap (λ z. place_of own (op_of z)) is)

inbox_registry : {S : Type 0} (w : World S) (h : Handle) (q : PlaceState) → (set_place w (TheInbox h) q).registry ≡ w.registry
inbox_registry w h (AtRegistry r) = refl
inbox_registry w h (AtInbox i) = refl
inbox_registry w h (AtClock c) = refl

clock_registry : {S : Type 0} (w : World S) (q : PlaceState) → (set_place w TheClock q).registry ≡ w.registry
clock_registry w (AtRegistry r) = refl
clock_registry w (AtInbox i) = refl
clock_registry w (AtClock c) = refl

not_inbox : (h : Handle) → TheInbox h ≢ TheRegistry
not_inbox h e = cc

not_clock : TheClock ≢ TheRegistry
not_clock e = cc

bears : {S : Type 0} (way : Way S) (w : World S) (own : Handle) (p : Place) (what : What) (s q : PlaceState) → p ≡ place_of own (op_of what) → place w p ≡ Some s → does way own (op_of what) s ≡ Some (what, q) → Bears way w p what q ⊎ BearsNone w p what q
bears {S = S} way w own TheRegistry what s q is there can = go (registered way own (op_of what) w.registry what q (ap (does way own (op_of what)) (sym same) ∙ can)) where
  same : s ≡ AtRegistry w.registry
  same = cc

  go : Registered way w.registry what q → Bears way w TheRegistry what q ⊎ BearsNone w TheRegistry what q
  go g = by g.gives where
    by : Gives way w.registry (what, g.after) → Bears way w TheRegistry what q ⊎ BearsNone w TheRegistry what q
    by (inl x) = inl (record { at_registry = refl; registry = g.after; is = g.is; gave = x })
    by (inr x) = inr (record { none = x.none; same = ap (λ z. length (set_place w TheRegistry z).registry.listed) g.is ∙ x.same })
bears way w own (TheInbox to) what s q is there can = inr (record { none = elsewhere own what (TheInbox to) is (not_inbox to); same = ap (λ (r : Registry). length r.listed) (inbox_registry w to q) })
bears way w own TheClock what s q is there can = inr (record { none = elsewhere own what TheClock is not_clock; same = ap (λ (r : Registry). length r.listed) (clock_registry w q) })

-- NO LAUNCH

no_growth : {S : Type 0} (way : Way S) (v : World S) (what : What) → ((name : List ℕ) (args : List Datum) (h : Handle) → what ≢ did.Launch name args (Some h)) → grow way v what ≡ v
no_growth way v (did.Launch text args (Some own)) none = absurd (none text args own refl)
no_growth way v (did.Launch text args None) none = refl
no_growth way v (did.Look d f) none = refl
no_growth way v (did.Put to m b) none = refl
no_growth way v (did.Name text to b) none = refl
no_growth way v (did.Retire to b) none = refl
no_growth way v (did.Mark to) none = refl
no_growth way v (did.Later n x) none = refl
no_growth way v (did.Now n) none = refl
no_growth way v (did.Take m l) none = refl
no_growth way v (did.End ms) none = refl
no_growth way v (did.Tick due) none = refl
no_growth way v (did.Fire to m b) none = refl

-- A LAUNCH

growth : {S : Type 0} (way : Way S) (v : World S) (what : What) (name : List ℕ) (args : List Datum) (h : Handle) (s : S) → what ≡ did.Launch name args (Some h) → way.begins name h ≡ Some s → grow way v what ≡ grow_by v args (Some s)
growth way v what name args h s is begins = ap (grow way v) is ∙ ap (grow_by v args) begins

grown_agent : {S : Type 0} (v : World S) (args : List Datum) (s : S) (g : Handle) → g.0 ≢ length v.services + 1 → agent (grow_by v args (Some s)) g ≡ agent v g
grown_agent v args s g ne = ap (λ q. agent_or_clock v.due q (g.0 == 0)) (at_push v.services g.0 (Serving s) ne)

new_agent : {S : Type 0} (v : World S) (args : List Datum) (s : S) (g : Handle) → g.0 ≡ length v.services + 1 → agent (grow_by v args (Some s)) g ≡ Some (Serves (Serving s))
new_agent v args s g e = let big : 0 < g.0 = omega (arith, e) in service_agent (grow_by v args (Some s)) g big ∙ ap serves (at_last v.services g.0 (Serving s) e)

grown_inbox : {S : Type 0} (v : World S) (args : List Datum) (s : S) (g : Handle) → g.0 ≢ length v.inboxes + 1 → place (grow_by v args (Some s)) (TheInbox g) ≡ place v (TheInbox g)
grown_inbox v args s g ne = ap inbox_state (at_push v.inboxes g.0 (new_inbox args) ne)

new_place : {S : Type 0} (v : World S) (args : List Datum) (s : S) (g : Handle) → g.0 ≡ length v.inboxes + 1 → place (grow_by v args (Some s)) (TheInbox g) ≡ Some (AtInbox (new_inbox args))
new_place v args s g e = ap inbox_state (at_last v.inboxes g.0 (new_inbox args) e)

-- who is there has a handle that was given
pub agent_given : {S : Type 0} (w : World S) (h : Handle) (a : Agent S) → IsWhole w → agent w h ≡ Some a → h.0 ≤ length w.registry.listed
agent_given {S = S} w h a whole there = go a (agent_kind w h a there) there where
  go : (b : Agent S) → IsOfHandle h b → agent w h ≡ Some b → h.0 ≤ length w.registry.listed
  go (Serves x) k e = let y = serves_some (at w.services h.0) (Serves x) (sym (service_agent w h k) ∙ e) in let l = at_within w.services h.0 y.0 y.1 in omega (arith, l, whole.services)
  go (Times due) k e = omega (arith, k)

pub inbox_given : {S : Type 0} (w : World S) (h : Handle) (q : PlaceState) → IsWhole w → place w (TheInbox h) ≡ Some q → h.0 ≤ length w.registry.listed
inbox_given w h q whole there = let i = inbox_is (at w.inboxes h.0) q there in let l = at_within w.inboxes h.0 i.0 i.1 in omega (arith, l, whole.inboxes)

at_past : {X : Type 0} (xs : List X) (h : ℕ) → h ≡ length xs + 1 → at xs h ≡ None
at_past xs h e = let big : 0 < h = omega (arith, e) in at_of xs h big ∙ slice_get_past xs _ (omega (arith, e))

-- THE OUTCOME

module _ {S : Type 0} (way : Way S) (w : World S) (h : Handle) (a : Agent S) (p : Place) (what : What) (s q : PlaceState)
    (whole : IsWhole w) (there : agent w h ≡ Some a) (found : place w p ≡ Some s) (kind : IsOfPlace p q) where
  abbrev mid : World S
  mid = changed way w h a p what q

  plain : BearsNone w p what q → Outcome way w h a p what q mid
  plain x = record {
    whole = record {
      services = set_services_length (set_place w p q) h (agent_after way a what) ∙ (ap length (placed_services w p q) ∙ (whole.services ∙ sym listed));
      inboxes = ap length (set_agent_inboxes (set_place w p q) h (agent_after way a what)) ∙ (placed_inboxes_length w p q ∙ (whole.inboxes ∙ sym listed));
    };
    acted = changed_agent way w h a p what q there;
    done = changed_place way w h a p what s q found kind;
    agents = λ g ne. inl (unchanged_agent way w h g a p what q there ne);
    places = λ p2 ne. inl (unchanged_place way w h a p p2 what s q found kind ne);
    born_agent = λ name args g t e b. absurd (x.none name args g e);
    born_inbox = λ name args g t e b. absurd (x.none name args g e);
  } where
    listed : length mid.registry.listed ≡ length w.registry.listed
    listed = ap (λ (r : Registry). length r.listed) (set_agent_registry (set_place w p q) h (agent_after way a what)) ∙ x.same

  module _ (x : Bears way w p what q) where
    -- the handle that was given
    given : Handle
    given = x.gave.handle

    next : x.gave.handle.0 ≡ length w.registry.listed + 1
    next = x.gave.next

    services_before : length mid.services ≡ length w.registry.listed
    services_before = set_services_length (set_place w p q) h (agent_after way a what) ∙ (ap length (placed_services w p q) ∙ whole.services)

    inboxes_before : length mid.inboxes ≡ length w.registry.listed
    inboxes_before = ap length (set_agent_inboxes (set_place w p q) h (agent_after way a what)) ∙ (placed_inboxes_length w p q ∙ whole.inboxes)

    listed_after : length mid.registry.listed ≡ length w.registry.listed + 1
    listed_after = ap (λ (r : Registry). length r.listed) (set_agent_registry (set_place w p q) h (agent_after way a what)) ∙ (ap (λ z. length (set_place w z q).registry.listed) x.at_registry ∙ (ap (λ z. length (set_place w TheRegistry z).registry.listed) x.is ∙ x.gave.more))

    abbrev grown : World S
    grown = grow_by mid x.gave.args (Some x.gave.state)

    is_next : (g : Handle) → g.0 ≡ length w.registry.listed + 1 → g ≡ x.gave.handle
    is_next g e = handle_is g x.gave.handle (e ∙ sym next)

    past_services : (g : Handle) → g.0 ≢ length w.registry.listed + 1 → g.0 ≢ length mid.services + 1
    past_services g ne e = ne (omega (arith, e, services_before))

    past_inboxes : (g : Handle) → g.0 ≢ length w.registry.listed + 1 → g.0 ≢ length mid.inboxes + 1
    past_inboxes g ne e = ne (omega (arith, e, inboxes_before))

    not_next : h.0 ≢ length w.registry.listed + 1
    not_next e = let l = agent_given w h a whole there in omega (arith, l, e)

    is_agent : (g : Handle) → g ≡ x.gave.handle → agent grown g ≡ Some (Serves (Serving x.gave.state))
    is_agent g e = new_agent mid x.gave.args x.gave.state g (omega (arith, ap (λ (z : Handle). z.0) e, next, services_before))

    is_inbox : (g : Handle) → g ≡ x.gave.handle → place grown (TheInbox g) ≡ Some (AtInbox (new_inbox x.gave.args))
    is_inbox g e = new_place mid x.gave.args x.gave.state g (omega (arith, ap (λ (z : Handle). z.0) e, next, inboxes_before))

    agent_before : (g : Handle) → g ≡ x.gave.handle → agent w g ≡ None
    agent_before g e =
        let n : g.0 ≡ length w.services + 1 = omega (arith, ap (λ (z : Handle). z.0) e, next, whole.services) in
        service_agent w g (omega (arith, n)) ∙ ap serves (at_past w.services g.0 n)

    inbox_before : (g : Handle) → g ≡ x.gave.handle → place w (TheInbox g) ≡ None
    inbox_before g e =
        let n : g.0 ≡ length w.inboxes + 1 = omega (arith, ap (λ (z : Handle). z.0) e, next, whole.inboxes) in
        ap inbox_state (at_past w.inboxes g.0 n)

    agents_then : (g : Handle) → (g.0 == h.0) ≡ false → (agent grown g ≡ agent w g) ⊎ NewAgent way w p what g grown
    agents_then g ne = go (g.0 == length w.registry.listed + 1) refl where
      go : (b : Bool) → (g.0 == length w.registry.listed + 1) ≡ b → (agent grown g ≡ agent w g) ⊎ NewAgent way w p what g grown
      go true t =
          let same = is_next g (num_is g.0 _ t) in
          inr (record {
            name = x.gave.name;
            args = x.gave.args;
            state = x.gave.state;
            at_registry = x.at_registry;
            is = x.gave.is ∙ ap (λ z. did.Launch x.gave.name x.gave.args (Some z)) (sym same);
            begins = ap (way.begins x.gave.name) same ∙ x.gave.begins;
            before = agent_before g same;
            after = is_agent g same;
          })
      go false t = inl (grown_agent mid x.gave.args x.gave.state g (past_services g (num_differ g.0 _ t)) ∙ unchanged_agent way w h g a p what q there ne)

    places_then : (p2 : Place) → same_place p2 p ≡ false → (place grown p2 ≡ place w p2) ⊎ NewInbox way w p what p2 grown
    places_then TheRegistry ne = absurd (cc (ne, ap (same_place TheRegistry) x.at_registry))
    places_then TheClock ne = inl (unchanged_place way w h a p TheClock what s q found kind ne)
    places_then (TheInbox g) ne = go (g.0 == length w.registry.listed + 1) refl where
      go : (b : Bool) → (g.0 == length w.registry.listed + 1) ≡ b → (place grown (TheInbox g) ≡ place w (TheInbox g)) ⊎ NewInbox way w p what (TheInbox g) grown
      go true t =
          let same = is_next g (num_is g.0 _ t) in
          inr (record {
            name = x.gave.name;
            args = x.gave.args;
            handle = x.gave.handle;
            state = x.gave.state;
            at_registry = x.at_registry;
            where_is = ap TheInbox same;
            is = x.gave.is;
            begins = x.gave.begins;
            before = inbox_before g same;
            after = is_inbox g same;
          })
      go false t = inl (grown_inbox mid x.gave.args x.gave.state g (past_inboxes g (num_differ g.0 _ t)) ∙ unchanged_place way w h a p (TheInbox g) what s q found kind ne)

    done_then : (r : Place) → r ≡ TheRegistry → place mid r ≡ Some q → place grown r ≡ Some q
    done_then TheRegistry e k = k
    done_then (TheInbox g) e k = absurd (not_inbox g e)
    done_then TheClock e k = absurd (not_clock e)

    bearing : Outcome way w h a p what q grown
    bearing = record {
      whole = record {
        services = length-append mid.services (Serving x.gave.state ∷ []) ∙ omega (arith, services_before, listed_after);
        inboxes = length-append mid.inboxes (new_inbox x.gave.args ∷ []) ∙ omega (arith, inboxes_before, listed_after);
      };
      acted = grown_agent mid x.gave.args x.gave.state h (past_services h not_next) ∙ changed_agent way w h a p what q there;
      done = done_then p x.at_registry (changed_place way w h a p what s q found kind);
      agents = agents_then;
      places = places_then;
      born_agent = λ name args g t e b. born_agent_is name args g t e b;
      born_inbox = λ name args g t e b. born_inbox_is name args g t e b;
    } where
      born_agent_is : (name : List ℕ) (args : List Datum) (g : Handle) (t : S) → what ≡ did.Launch name args (Some g) → way.begins name g ≡ Some t → agent grown g ≡ Some (Serves (Serving t))
      born_agent_is name args g t e b =
          let two : did.Launch name args (Some g) ≡ did.Launch x.gave.name x.gave.args (Some x.gave.handle) = sym e ∙ x.gave.is in
          let same : g ≡ x.gave.handle = cc in
          let named : name ≡ x.gave.name = cc in
          let b2 : way.begins x.gave.name x.gave.handle ≡ Some t = ap (λ z. way.begins z x.gave.handle) (sym named) ∙ (ap (way.begins name) (sym same) ∙ b) in
          let state : x.gave.state ≡ t = cc (b2, x.gave.begins) in
          is_agent g same ∙ ap (λ z. Some (Serves (Serving z))) state

      born_inbox_is : (name : List ℕ) (args : List Datum) (g : Handle) (t : S) → what ≡ did.Launch name args (Some g) → way.begins name g ≡ Some t → place grown (TheInbox g) ≡ Some (AtInbox (new_inbox args))
      born_inbox_is name args g t e b =
          let two : did.Launch name args (Some g) ≡ did.Launch x.gave.name x.gave.args (Some x.gave.handle) = sym e ∙ x.gave.is in
          let same : g ≡ x.gave.handle = cc in
          let given_args : x.gave.args ≡ args = cc in
          is_inbox g same ∙ ap (λ z. Some (AtInbox (new_inbox z))) given_args

  either : Bears way w p what q ⊎ BearsNone w p what q → Outcome way w h a p what q (left_by way w h a p (what, q))
  either (inl x) = subst (Outcome way w h a p what q) (sym (growth way mid what x.gave.name x.gave.args x.gave.handle x.gave.state x.gave.is x.gave.begins)) (bearing x)
  either (inr x) = subst (Outcome way w h a p what q) (sym (no_growth way mid what x.none)) (plain x)

pub outcome : {S : Type 0} (way : Way S) (w : World S) (h : Handle) (a : Agent S) (p : Place) (what : What) (s q : PlaceState) → IsWhole w → agent w h ≡ Some a → place w p ≡ Some s
    → p ≡ place_of h (op_of what) → does way h (op_of what) s ≡ Some (what, q) → Outcome way w h a p what q (left_by way w h a p (what, q))
outcome way w h a p what s q whole there found is can =
    either way w h a p what s q whole there found (kind_done way w h (op_of what) p s (what, q) found can) (bears way w h p what s q is found can)
