-- A list whose part for each agent and for each place is right is a run.
use Rattle.std.proofs.Common.{◌⊎◌, inl, inr, ◌≡◌, ℕ, ◌<◌, ◌==◌, Bool, true, false, List, [], ◌∷◌, length, Some, None, refl, ap, sym, ◌∙◌, subst, arith}
use Rattle.std.specs.List.{filter}
use Rattle.message.specs.Actors.{Way}
use Rattle.message.specs.Steps.{Agent, Serves, IsOne, ops, op_of, agent_after, PlaceState, AtRegistry, AtInbox, place_of, does}
use Rattle.message.specs.Worlds.{World, agent, place, act, after, go_on, left_by}
use Rattle.message.specs.Records.{Rises, AgentRuns, PlaceRuns, agent_runs}
use Rattle.message.proofs.Possible.{acts_if}
use Rattle.sk_types.specs.declared.number.Handle.{Handle}
use Rattle.message.specs.declared.datum.Datum.{Datum}
use Rattle.message.specs.declared.record.Entry.{Entry}
use Rattle.message.specs.declared.record.What.TheVariants as did
use Rattle.message.specs.declared.place.Place.{Place}
use Rattle.message.specs.declared.place.Place.TheVariants.{Registry as TheRegistry, Inbox as TheInbox}
use Rattle.message.specs.declared.place.Service.TheVariants.{Serving}
use Rattle.stamp_order.specs.Records.{is_by, is_at, same_place, IsAmong, IsLaunch, LaunchedAgent, LaunchedInbox, AgentBegins, PlaceBegins, AreRight, BeginWell, Climbs, journal, new_inbox, state_after, place_runs, IsLeft, IsWhole}
use Rattle.stamp_order.proofs.Lists.{num_same, num_is, num_turn, handle_is, place_same, place_is, place_turn, filter_yes, filter_no, among_part, among_split, among_later, among_head, part_grows, part_some, climbs_least, rises_part}
use Rattle.stamp_order.proofs.Order.{parts}
use Rattle.stamp_order.proofs.Registers.{fresh}
use Rattle.stamp_order.proofs.Births.{Outcome, NewAgent, NewInbox, outcome, agent_given, inbox_given}

-- the list is the rest of a run from the world
pub record IsRest {S : Type 0} (way : Way S) (w : World S) (es : List Entry) : Type 0 where
  pub whole : IsWhole w
  pub right : AreRight way w (parts es)
  pub begin_well : BeginWell way w (parts es)

-- a launched handle is a new one
launched_later : {S : Type 0} (way : Way S) (w : World S) (es : List Entry) (e : Entry) (h : Handle) (s : S) (args : List Datum) → IsRest way w es → IsLaunch way (parts es) e h s args → length w.registry.listed < h.0
launched_later way w es e h s args rest l =
    fresh way w.registry (filter (is_at TheRegistry) es) e l.name args h (rest.right.places TheRegistry (AtRegistry w.registry) (inl refl)) l.recorded l.gives

-- WHO ACTS FIRST IS THERE

module _ {S : Type 0} (way : Way S) (w : World S) (e : Entry) (es : List Entry) (n : ℕ) (rest : IsRest way w (e ∷ es)) (climbs : Climbs n (e ∷ es)) where
  -- an entry of what a Launch made is not the first
  not_first : (q : Entry → Bool) (l : Entry) (g : Handle) (s : S) (args : List Datum) → q e ≡ true → IsLaunch way (parts (e ∷ es)) l g s args → Rises l.stamp.0 (filter q (e ∷ es)) → ⊥
  not_first q l g s args t launch rises =
      let above : Rises l.stamp.0 (e ∷ filter q es) = subst (Rises l.stamp.0) (filter_yes q e es t) rises in
      omega (arith, above.0, climbs_least n e es l climbs (among_part (is_at TheRegistry) l (e ∷ es) launch.recorded))

  agent_there : (a : Agent S) × (agent w e.agent ≡ Some a)
  agent_there = go (rest.begin_well.agents e.agent (part_some (is_by e.agent) e es (num_same e.agent.0))) where
    go : ((a : Agent S) × AgentBegins way w (parts (e ∷ es)) e.agent a) → (a : Agent S) × (agent w e.agent ≡ Some a)
    go (a, inl there) = (a, there)
    go (a, inr l) = absurd (not_first (is_by e.agent) l.launch e.agent l.state l.args (num_same e.agent.0) l.is_launch (rest.begin_well.later_agent l.launch e.agent l.state l.args l.is_launch))

  place_there : (q : PlaceState) × (place w e.place ≡ Some q)
  place_there = go (rest.begin_well.places e.place (part_some (is_at e.place) e es (place_same e.place))) where
    go : ((q : PlaceState) × PlaceBegins way w (parts (e ∷ es)) e.place q) → (q : PlaceState) × (place w e.place ≡ Some q)
    go (q, inl there) = (q, there)
    go (q, inr l) =
        let rises = rest.begin_well.later_inbox l.launch l.handle l.state l.args l.is_launch in
        absurd (not_first (is_at e.place) l.launch l.handle l.state l.args (place_same e.place) l.is_launch (subst (λ p. Rises l.launch.stamp.0 (filter (is_at p) (e ∷ es))) (sym l.where_is) rises))

-- THE STEP

-- the first entry's agent and place, before and after
pub record First {S : Type 0} (way : Way S) (w : World S) (e : Entry) (es : List Entry) : Type 0 where
  pub who : Agent S
  pub there : agent w e.agent ≡ Some who
  pub state : PlaceState
  pub found : place w e.place ≡ Some state
  pub state2 : PlaceState
  pub where_done : e.place ≡ place_of e.agent (op_of e.what)
  pub may : IsOne (op_of e.what) (ops way who)
  pub can : does way e.agent (op_of e.what) state ≡ Some (e.what, state2)
  pub agent_rest : AgentRuns way e.agent (agent_after way who e.what) (filter (is_by e.agent) es)
  pub place_rest : PlaceRuns way e.place state2 (filter (is_at e.place) es)

first_of : {S : Type 0} (way : Way S) (w : World S) (e : Entry) (es : List Entry) (n : ℕ) → IsRest way w (e ∷ es) → Climbs n (e ∷ es) → First way w e es
first_of {S = S} way w e es n rest climbs = go (agent_there way w e es n rest climbs) (place_there way w e es n rest climbs) where
  go : ((a : Agent S) × (agent w e.agent ≡ Some a)) → ((q : PlaceState) × (place w e.place ≡ Some q)) → First way w e es
  go (a, there) (q, found) =
      let mine : AgentRuns way e.agent a (e ∷ filter (is_by e.agent) es) = subst (AgentRuns way e.agent a) (filter_yes (is_by e.agent) e es (num_same e.agent.0)) (rest.right.agents e.agent a (inl there)) in
      let theirs : PlaceRuns way e.place q (e ∷ filter (is_at e.place) es) = subst (PlaceRuns way e.place q) (filter_yes (is_at e.place) e es (place_same e.place)) (rest.right.places e.place q (inl found)) in
      record { who = a; there = there; state = q; found = found; state2 = theirs.0; where_done = mine.1; may = mine.2; can = theirs.2; agent_rest = mine.3; place_rest = theirs.3 }

module _ {S : Type 0} (way : Way S) (w w2 : World S) (e : Entry) (es : List Entry) (rest : IsRest way w (e ∷ es)) (first : First way w e es)
    (out : Outcome way w e.agent first.who e.place e.what first.state2 w2) where
  -- LAUNCHES

  later_launch : (l : Entry) (g : Handle) (s : S) (args : List Datum) → IsLaunch way (parts es) l g s args → IsLaunch way (parts (e ∷ es)) l g s args
  later_launch l g s args x = record { recorded = among_later (is_at TheRegistry) l e es x.recorded; name = x.name; gives = x.gives; begins = x.begins }

  this_launch : (name : List ℕ) (g : Handle) (s : S) (args : List Datum) → e.place ≡ TheRegistry → e.what ≡ did.Launch name args (Some g) → way.begins name g ≡ Some s → IsLaunch way (parts (e ∷ es)) e g s args
  this_launch name g s args at_registry gives begins =
      let t : is_at TheRegistry e ≡ true = ap (λ p. same_place p TheRegistry) at_registry in
      record { recorded = among_head (is_at TheRegistry) e es t; name = name; gives = gives; begins = begins }

  -- a Launch of all is the first entry or a later one
  launch_split : (l : Entry) (g : Handle) (s : S) (args : List Datum) → IsLaunch way (parts (e ∷ es)) l g s args → (l ≡ e) ⊎ IsLaunch way (parts es) l g s args
  launch_split l g s args x = go (among_split (is_at TheRegistry) l e es x.recorded) where
    go : ((l ≡ e) ⊎ IsAmong l (filter (is_at TheRegistry) es)) → (l ≡ e) ⊎ IsLaunch way (parts es) l g s args
    go (inl p) = inl p
    go (inr i) = inr (record { recorded = i; name = x.name; gives = x.gives; begins = x.begins })

  -- AGENTS

  -- nobody launches the agent that acted
  not_launched : (g : Handle) (a : Agent S) → g ≡ e.agent → LaunchedAgent way (parts (e ∷ es)) g a → ⊥
  not_launched g a same l =
      let later = launched_later way w (e ∷ es) l.launch g l.state l.args rest l.is_launch in
      omega (arith, later, agent_given w e.agent first.who rest.whole first.there, ap (λ (z : Handle). z.0) same)

  more_launched : (g : Handle) (a : Agent S) → LaunchedAgent way (parts es) g a → LaunchedAgent way (parts (e ∷ es)) g a
  more_launched g a l = record { launch = l.launch; state = l.state; args = l.args; is_launch = later_launch l.launch g l.state l.args l.is_launch; same = l.same }

  -- the agent that acted began as it was
  acting_was : (g : Handle) (a : Agent S) → g ≡ e.agent → AgentBegins way w (parts (e ∷ es)) g a → a ≡ first.who
  acting_was g a same (inl there) = let k : Some a ≡ Some first.who = sym there ∙ (ap (agent w) same ∙ first.there) in cc
  acting_was g a same (inr l) = absurd (not_launched g a same l)

  acting_is : (g : Handle) (a : Agent S) → g ≡ e.agent → AgentBegins way w2 (parts es) g a → a ≡ agent_after way first.who e.what
  acting_is g a same (inl there) = let k : Some a ≡ Some (agent_after way first.who e.what) = sym there ∙ (ap (agent w2) same ∙ out.acted) in cc
  acting_is g a same (inr l) = absurd (not_launched g a same (more_launched g a l))

  -- the others begin as they did
  agent_back : (g : Handle) (a : Agent S) → (g.0 == e.agent.0) ≡ false → AgentBegins way w2 (parts es) g a → AgentBegins way w (parts (e ∷ es)) g a
  agent_back g a ne (inr l) = inr (more_launched g a l)
  agent_back g a ne (inl there) = go (out.agents g ne) where
    go : ((agent w2 g ≡ agent w g) ⊎ NewAgent way w e.place e.what g w2) → AgentBegins way w (parts (e ∷ es)) g a
    go (inl same) = inl (sym same ∙ there)
    go (inr x) =
        let k : Some a ≡ Some (Serves (Serving x.state)) = sym there ∙ x.after in
        let is : a ≡ Serves (Serving x.state) = cc in
        inr (record { launch = e; state = x.state; args = x.args; is_launch = this_launch x.name g x.state x.args x.at_registry x.is x.begins; same = is })

  agent_on : (g : Handle) (a : Agent S) → (g.0 == e.agent.0) ≡ false → AgentBegins way w (parts (e ∷ es)) g a → AgentBegins way w2 (parts es) g a
  agent_on g a ne (inl there) = go (out.agents g ne) where
    go : ((agent w2 g ≡ agent w g) ⊎ NewAgent way w e.place e.what g w2) → AgentBegins way w2 (parts es) g a
    go (inl same) = inl (same ∙ there)
    go (inr x) = let k : None ≡ Some a = sym x.before ∙ there in absurd (cc)
  agent_on g a ne (inr l) = go (launch_split l.launch g l.state l.args l.is_launch) where
    go : ((l.launch ≡ e) ⊎ IsLaunch way (parts es) l.launch g l.state l.args) → AgentBegins way w2 (parts es) g a
    go (inl p) = inl (out.born_agent l.is_launch.name l.args g l.state (sym (ap (λ (z : Entry). z.what) p) ∙ l.is_launch.gives) l.is_launch.begins ∙ ap Some (sym l.same))
    go (inr x) = inr (record { launch = l.launch; state = l.state; args = l.args; is_launch = x; same = l.same })

  other_part : (g : Handle) → (g.0 == e.agent.0) ≡ false → filter (is_by g) (e ∷ es) ≡ filter (is_by g) es
  other_part g ne = filter_no (is_by g) e es (num_turn g.0 e.agent.0 ne)

  -- PLACES

  not_launched_place : (p : Place) (q : PlaceState) → p ≡ e.place → LaunchedInbox way (parts (e ∷ es)) p q → ⊥
  not_launched_place p q same l =
      let later = launched_later way w (e ∷ es) l.launch l.handle l.state l.args rest l.is_launch in
      let found : place w (TheInbox l.handle) ≡ Some first.state = ap (place w) (sym l.where_is ∙ same) ∙ first.found in
      omega (arith, later, inbox_given w l.handle first.state rest.whole found)

  more_launched_places : (p : Place) (q : PlaceState) → LaunchedInbox way (parts es) p q → LaunchedInbox way (parts (e ∷ es)) p q
  more_launched_places p q l = record { launch = l.launch; handle = l.handle; state = l.state; args = l.args; is_launch = later_launch l.launch l.handle l.state l.args l.is_launch; where_is = l.where_is; same = l.same }

  place_was : (p : Place) (q : PlaceState) → p ≡ e.place → PlaceBegins way w (parts (e ∷ es)) p q → q ≡ first.state
  place_was p q same (inl there) = let k : Some q ≡ Some first.state = sym there ∙ (ap (place w) same ∙ first.found) in cc
  place_was p q same (inr l) = absurd (not_launched_place p q same l)

  place_is_now : (p : Place) (q : PlaceState) → p ≡ e.place → PlaceBegins way w2 (parts es) p q → q ≡ first.state2
  place_is_now p q same (inl there) = let k : Some q ≡ Some first.state2 = sym there ∙ (ap (place w2) same ∙ out.done) in cc
  place_is_now p q same (inr l) = absurd (not_launched_place p q same (more_launched_places p q l))

  place_back : (p : Place) (q : PlaceState) → same_place p e.place ≡ false → PlaceBegins way w2 (parts es) p q → PlaceBegins way w (parts (e ∷ es)) p q
  place_back p q ne (inr l) = inr (more_launched_places p q l)
  place_back p q ne (inl there) = go (out.places p ne) where
    go : ((place w2 p ≡ place w p) ⊎ NewInbox way w e.place e.what p w2) → PlaceBegins way w (parts (e ∷ es)) p q
    go (inl same) = inl (sym same ∙ there)
    go (inr x) =
        let k : Some q ≡ Some (AtInbox (new_inbox x.args)) = sym there ∙ x.after in
        let is : q ≡ AtInbox (new_inbox x.args) = cc in
        inr (record { launch = e; handle = x.handle; state = x.state; args = x.args; is_launch = this_launch x.name x.handle x.state x.args x.at_registry x.is x.begins; where_is = x.where_is; same = is })

  place_on : (p : Place) (q : PlaceState) → same_place p e.place ≡ false → PlaceBegins way w (parts (e ∷ es)) p q → PlaceBegins way w2 (parts es) p q
  place_on p q ne (inl there) = go (out.places p ne) where
    go : ((place w2 p ≡ place w p) ⊎ NewInbox way w e.place e.what p w2) → PlaceBegins way w2 (parts es) p q
    go (inl same) = inl (same ∙ there)
    go (inr x) = let k : None ≡ Some q = sym x.before ∙ there in absurd (cc)
  place_on p q ne (inr l) = go (launch_split l.launch l.handle l.state l.args l.is_launch) where
    go : ((l.launch ≡ e) ⊎ IsLaunch way (parts es) l.launch l.handle l.state l.args) → PlaceBegins way w2 (parts es) p q
    go (inl eq) =
        let born : place w2 (TheInbox l.handle) ≡ Some (AtInbox (new_inbox l.args)) = out.born_inbox l.is_launch.name l.args l.handle l.state (sym (ap (λ (z : Entry). z.what) eq) ∙ l.is_launch.gives) l.is_launch.begins in
        inl (ap (place w2) l.where_is ∙ (born ∙ ap Some (sym l.same)))
    go (inr x) = inr (record { launch = l.launch; handle = l.handle; state = l.state; args = l.args; is_launch = x; where_is = l.where_is; same = l.same })

  other_place_part : (p : Place) → same_place p e.place ≡ false → filter (is_at p) (e ∷ es) ≡ filter (is_at p) es
  other_place_part p ne = filter_no (is_at p) e es (place_turn p e.place ne)

  -- THE REST OF THE RUN

  right_rest : AreRight way w2 (parts es)
  right_rest = record {
    agents = λ g a b. agents_right g a b (g.0 == e.agent.0) refl;
    places = λ p q b. places_right p q b (same_place p e.place) refl;
  } where
    agents_right : (g : Handle) (a : Agent S) → AgentBegins way w2 (parts es) g a → (b : Bool) → (g.0 == e.agent.0) ≡ b → AgentRuns way g a (filter (is_by g) es)
    agents_right g a begins true t =
        let same : g ≡ e.agent = handle_is g e.agent (num_is g.0 e.agent.0 t) in
        let F : Handle → Agent S → Type 0 = λ k c. AgentRuns way k c (filter (is_by k) es) in
        subst (F g) (sym (acting_is g a same begins)) (subst (λ k. F k (agent_after way first.who e.what)) (sym same) first.agent_rest)
    agents_right g a begins false t = subst (AgentRuns way g a) (other_part g t) (rest.right.agents g a (agent_back g a t begins))

    places_right : (p : Place) (q : PlaceState) → PlaceBegins way w2 (parts es) p q → (b : Bool) → same_place p e.place ≡ b → PlaceRuns way p q (filter (is_at p) es)
    places_right p q begins true t =
        let same : p ≡ e.place = place_is p e.place t in
        let F : Place → PlaceState → Type 0 = λ k c. PlaceRuns way k c (filter (is_at k) es) in
        subst (F p) (sym (place_is_now p q same begins)) (subst (λ k. F k first.state2) (sym same) first.place_rest)
    places_right p q begins false t = subst (PlaceRuns way p q) (other_place_part p t) (rest.right.places p q (place_back p q t begins))

  well_rest : BeginWell way w2 (parts es)
  well_rest = record {
    agents = λ g some. agents_well g (rest.begin_well.agents g (part_grows (is_by g) e es some)) (g.0 == e.agent.0) refl;
    places = λ p some. places_well p (rest.begin_well.places p (part_grows (is_at p) e es some)) (same_place p e.place) refl;
    later_agent = λ l g s args x. rises_part (is_by g) l.stamp.0 e es (rest.begin_well.later_agent l g s args (later_launch l g s args x));
    later_inbox = λ l g s args x. rises_part (is_at (TheInbox g)) l.stamp.0 e es (rest.begin_well.later_inbox l g s args (later_launch l g s args x));
  } where
    agents_well : (g : Handle) → ((a : Agent S) × AgentBegins way w (parts (e ∷ es)) g a) → (b : Bool) → (g.0 == e.agent.0) ≡ b → (a : Agent S) × AgentBegins way w2 (parts es) g a
    agents_well g begun true t = (agent_after way first.who e.what, inl (ap (agent w2) (handle_is g e.agent (num_is g.0 e.agent.0 t)) ∙ out.acted))
    agents_well g begun false t = (begun.0, agent_on g begun.0 t begun.1)

    places_well : (p : Place) → ((q : PlaceState) × PlaceBegins way w (parts (e ∷ es)) p q) → (b : Bool) → same_place p e.place ≡ b → (q : PlaceState) × PlaceBegins way w2 (parts es) p q
    places_well p begun true t = (first.state2, inl (ap (place w2) (place_is p e.place t) ∙ out.done))
    places_well p begun false t = (begun.0, place_on p begun.0 t begun.1)

  pub rest_after : IsRest way w2 es
  rest_after = record { whole = out.whole; right = right_rest; begin_well = well_rest }

  -- where the rest leaves the world after the act, all leave the world
  pub left_after : (w3 : World S) → IsLeft way w2 (parts es) w3 → IsLeft way w (parts (e ∷ es)) w3
  left_after w3 left = record {
    agents = λ g a b. agents_left g a b (g.0 == e.agent.0) refl;
    places = λ p q b. places_left p q b (same_place p e.place) refl;
    no_other_agent = λ g a there. agents_only g (left.no_other_agent g a there) (g.0 == e.agent.0) refl;
    no_other_place = λ p q there. places_only p (left.no_other_place p q there) (same_place p e.place) refl;
  } where
    agents_left : (g : Handle) (a : Agent S) → AgentBegins way w (parts (e ∷ es)) g a → (b : Bool) → (g.0 == e.agent.0) ≡ b → agent w3 g ≡ Some (agent_runs way a (filter (is_by g) (e ∷ es)))
    agents_left g a begins true t =
        let same : g ≡ e.agent = handle_is g e.agent (num_is g.0 e.agent.0 t) in
        let then_is : agent w3 e.agent ≡ Some (agent_runs way (agent_after way first.who e.what) (filter (is_by e.agent) es)) = left.agents e.agent (agent_after way first.who e.what) (inl out.acted) in
        let whole_part : agent_runs way first.who (filter (is_by e.agent) (e ∷ es)) ≡ agent_runs way (agent_after way first.who e.what) (filter (is_by e.agent) es) = ap (agent_runs way first.who) (filter_yes (is_by e.agent) e es (num_same e.agent.0)) in
        let F : Handle → Agent S → Type 0 = λ k c. agent w3 k ≡ Some (agent_runs way c (filter (is_by k) (e ∷ es))) in
        subst (F g) (sym (acting_was g a same begins)) (subst (λ k. F k first.who) (sym same) (then_is ∙ ap Some (sym whole_part)))
    agents_left g a begins false t = left.agents g a (agent_on g a t begins) ∙ ap (λ l. Some (agent_runs way a l)) (sym (other_part g t))

    places_left : (p : Place) (q : PlaceState) → PlaceBegins way w (parts (e ∷ es)) p q → (b : Bool) → same_place p e.place ≡ b → place w3 p ≡ Some (place_runs way q (filter (is_at p) (e ∷ es)))
    places_left p q begins true t =
        let same : p ≡ e.place = place_is p e.place t in
        let then_is : place w3 e.place ≡ Some (place_runs way first.state2 (filter (is_at e.place) es)) = left.places e.place first.state2 (inl out.done) in
        let cut : place_runs way first.state (filter (is_at e.place) (e ∷ es)) ≡ place_runs way first.state (e ∷ filter (is_at e.place) es) = ap (place_runs way first.state) (filter_yes (is_at e.place) e es (place_same e.place)) in
        let one : state_after first.state (does way e.agent (op_of e.what) first.state) ≡ first.state2 = ap (state_after first.state) first.can in
        let whole_part : place_runs way first.state (filter (is_at e.place) (e ∷ es)) ≡ place_runs way first.state2 (filter (is_at e.place) es) = cut ∙ ap (λ z. place_runs way z (filter (is_at e.place) es)) one in
        let F : Place → PlaceState → Type 0 = λ k c. place w3 k ≡ Some (place_runs way c (filter (is_at k) (e ∷ es))) in
        subst (F p) (sym (place_was p q same begins)) (subst (λ k. F k first.state) (sym same) (then_is ∙ ap Some (sym whole_part)))
    places_left p q begins false t = left.places p q (place_on p q t begins) ∙ ap (λ l. Some (place_runs way q l)) (sym (other_place_part p t))

    agents_only : (g : Handle) → ((a : Agent S) × AgentBegins way w2 (parts es) g a) → (b : Bool) → (g.0 == e.agent.0) ≡ b → (a : Agent S) × AgentBegins way w (parts (e ∷ es)) g a
    agents_only g begun true t = (first.who, inl (ap (agent w) (handle_is g e.agent (num_is g.0 e.agent.0 t)) ∙ first.there))
    agents_only g begun false t = (begun.0, agent_back g begun.0 t begun.1)

    places_only : (p : Place) → ((q : PlaceState) × PlaceBegins way w2 (parts es) p q) → (b : Bool) → same_place p e.place ≡ b → (q : PlaceState) × PlaceBegins way w (parts (e ∷ es)) p q
    places_only p begun true t = (first.state, inl (ap (place w) (place_is p e.place t) ∙ first.found))
    places_only p begun false t = (begun.0, place_back p begun.0 t begun.1)

-- THE RUN

-- all of the list is a run
pub record IsWoven {S : Type 0} (way : Way S) (w : World S) (es : List Entry) : Type 0 where
  pub world : World S
  pub after : after way (journal es) w ≡ Some world
  pub left : IsLeft way w (parts es) world

none_left : {S : Type 0} (way : Way S) (w : World S) → IsLeft way w (parts []) w
none_left {S = S} way w = record {
  agents = agents_left;
  places = places_left;
  no_other_agent = λ h a there. (a, inl there);
  no_other_place = λ p q there. (q, inl there);
} where
  agents_left : (h : Handle) (a : Agent S) → AgentBegins way w (parts []) h a → agent w h ≡ Some a
  agents_left h a (inl there) = there
  agents_left h a (inr l) = absurd l.is_launch.recorded

  places_left : (p : Place) (q : PlaceState) → PlaceBegins way w (parts []) p q → place w p ≡ Some q
  places_left p q (inl there) = there
  places_left p q (inr l) = absurd l.is_launch.recorded

pub weave : {S : Type 0} (way : Way S) (w : World S) (es : List Entry) (n : ℕ) → IsRest way w es → Climbs n es → IsWoven way w es
weave way w [] n rest climbs = record { world = w; after = refl; left = none_left way w }
weave {S = S} way w (e ∷ es) n rest climbs = go (λ w2 rest2. weave way w2 es e.stamp.0 rest2 climbs.1) (first_of way w e es n rest climbs) where
  go : ((w2 : World S) → IsRest way w2 es → IsWoven way w2 es) → First way w e es → IsWoven way w (e ∷ es)
  go later first =
      let w2 : World S = left_by way w e.agent first.who e.place (e.what, first.state2) in
      let out : Outcome way w e.agent first.who e.place e.what first.state2 w2 = outcome way w e.agent first.who e.place e.what first.state first.state2 rest.whole first.there first.found first.where_done first.can in
      let more : IsWoven way w2 es = later w2 (rest_after way w w2 e es rest first out) in
      let found : place w (place_of e.agent (op_of e.what)) ≡ Some first.state = ap (place w) (sym first.where_done) ∙ first.found in
      let acts : act way w e.agent ≡ Some (e.what, left_by way w e.agent first.who (place_of e.agent (op_of e.what)) (e.what, first.state2)) = acts_if way w e.agent first.who (op_of e.what) first.state (e.what, first.state2) first.there first.may found first.can in
      let here : act way w e.agent ≡ Some (e.what, w2) = acts ∙ ap (λ p. Some (e.what, left_by way w e.agent first.who p (e.what, first.state2))) (sym first.where_done) in
      record {
        world = more.world;
        after = ap (λ r. go_on r (λ w3. after way (journal es) w3)) here ∙ more.after;
        left = left_after way w w2 e es rest first out more.world more.left;
      }
