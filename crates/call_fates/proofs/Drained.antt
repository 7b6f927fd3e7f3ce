-- A drained world: its services are idle or over, and nothing waits.
use Rattle.std.proofs.Common.{◌⊎◌, inl, inr, ℕ, zero, suc, ◌≡◌, ◌≢◌, ◌<◌, ◌==◌, ◌&&◌, Bool, true, false, List, [], ◌∷◌, length, Some, None, refl, ap, sym, ◌∙◌, subst, arith}
use Rattle.std.proofs.lemmas.Bool.Decides.{nat_tests}
use Rattle.std.proofs.lemmas.List.Sums.{sum_by-cons}
use Rattle.std.specs.Prelude.{Contains}
use Rattle.std.specs.List.{sum_by}
use Rattle.message.specs.Messages.{bounce}
use Rattle.message.specs.Ends.{first}
use Rattle.message.specs.Actors.{Way, IsLawful, MayReach}
use Rattle.message.specs.Registries.{at, does_look, does_launch, does_name, does_retire}
use Rattle.message.specs.Clocks.{add}
use Rattle.message.specs.Inboxes.{put, mark}
use Rattle.message.specs.Steps.{Op, Asks, Takes, Ends, Serves, IsOne, next_ops, service_ops, bounce_ops, place_of, does, PlaceState, AtRegistry, AtInbox, AtClock, made}
use Rattle.message.specs.Worlds.{World, agent, agent_or_clock, place, inbox_state, act}
use Rattle.message.proofs.Possible.{acts_if}
use Rattle.sk_types.specs.declared.number.Handle.{Handle}
use Rattle.sk_types.specs.declared.number.Session.{Session}
use Rattle.message.specs.declared.request.Message.{Message}
use Rattle.message.specs.declared.request.Held.{Held}
use Rattle.message.specs.declared.request.Dest.TheVariants.{Number}
use Rattle.message.specs.declared.request.Next.{Next}
use Rattle.message.specs.declared.request.Next.TheVariants.{Idle, Ask}
use Rattle.message.specs.declared.request.Request.{Request}
use Rattle.message.specs.declared.request.Request.TheVariants as ask
use Rattle.message.specs.declared.record.What.{What}
use Rattle.message.specs.declared.record.What.TheVariants as did
use Rattle.message.specs.declared.place.InboxState.{InboxState}
use Rattle.message.specs.declared.place.InboxStatus.{InboxStatus}
use Rattle.message.specs.declared.place.InboxStatus.TheVariants.{Live, Closing, Gone}
use Rattle.message.specs.declared.place.Ending.{Ending}
use Rattle.message.specs.declared.place.Service.{Service}
use Rattle.message.specs.declared.place.Service.TheVariants.{Serving, Leaving}
use Rattle.call_fates.specs.Calls.{Call, total, one, one_of, all_of, is_callee, asks, replies, asks_in, replies_in, holds, sends, waiting, held, on_its_way}
use Rattle.call_fates.specs.Reached.{IsWorld}
use Rattle.call_fates.specs.Drained.{IsOver, IsHeld}
use Rattle.call_fates.proofs.Sessions.{and_first, and_second, same_nat}
use Rattle.call_fates.proofs.Lists.{handle_is, at_is, at_some, at_within, total_some}
use Rattle.call_fates.proofs.Flow.{sends_none}
use Rattle.call_fates.proofs.Given.{IsGiven}
use Rattle.call_fates.proofs.Homes.{is_live, is_gone}
use Rattle.call_fates.proofs.Orderly.{IsOrderly, IsOff}

-- a service acts under its handle
agent_here : {S : Type 0} (w : World S) (h : Handle) (y : Service S) → at w.services h.0 ≡ Some y → agent w h ≡ Some (Serves y)
agent_here w h y e = go (h.0 == 0) refl where
  above : 0 < h.0
  above = (at_is w.services h.0 y e).0

  go : (b : Bool) → (h.0 == 0) ≡ b → agent_or_clock w.due (at w.services h.0) (h.0 == 0) ≡ Some (Serves y)
  go true k = let z : h.0 ≡ 0 = grind (arith, nat_tests) in absurd (omega (arith, above, z))
  go false k = ap (agent_or_clock w.due (at w.services h.0)) k ∙ ap (λ q. agent_or_clock w.due q false) e

nothing : {X : Type 0} (x : X) → None ≡ Some x → ⊥
nothing x e = cc

-- an agent acts where it may and where its place answers
abbrev pub IsPossible : {S : Type 0} → Way S → World S → Handle → Op → Type 0
IsPossible way w h op = (p : PlaceState) × (d : What × PlaceState) × (place w (place_of h op) ≡ Some p) × (does way h op p ≡ Some d)

-- a Put and a Mark are possible at an inbox that there is
abbrev Aims : ℕ → Request → Type 0
Aims n (ask.Put to m) = IsGiven n to
Aims n (ask.Mark to) = IsGiven n to
Aims n _ = Unit {0}

module _ {S : Type 0} (way : Way S) (sound : S → Type 0) (lawful : IsLawful way sound) (w : World S) (ok : IsWorld way sound w) (tidy : IsOrderly way w) (still : (h : Handle) → act way w h ≡ None) where
  cannot : (h : Handle) (y : Service S) (op : Op) → at w.services h.0 ≡ Some y → IsOne op (service_ops way y) → IsPossible way w h op → ⊥
  cannot h y op here may can = nothing _ (sym (still h) ∙ acts_if way w h (Serves y) op can.0 can.1 (agent_here w h y here) may can.2 can.3)

  inbox_at : (g : Handle) → IsGiven (length w.services) g → (i : InboxState) × (at w.inboxes g.0 ≡ Some i)
  inbox_at g given = let l = given.within in at_some w.inboxes g.0 given.above (omega (arith, l, ok.inboxes))

  possible : (h : Handle) (q : Request) → Aims (length w.services) q → IsPossible way w h (Asks q)
  possible h (ask.Look d) aims = (AtRegistry w.registry, ((does_look w.registry d).0, AtRegistry (does_look w.registry d).1), refl, refl)
  possible h (ask.Put to m) aims = let i = inbox_at to aims in (AtInbox i.0, ((put to m i.0).0, AtInbox (put to m i.0).1), ap inbox_state i.1, refl)
  possible h (ask.Launch text args) aims = (AtRegistry w.registry, ((does_launch w.registry text args (made way w.registry text)).0, AtRegistry (does_launch w.registry text args (made way w.registry text)).1), refl, refl)
  possible h (ask.Name text to) aims = (AtRegistry w.registry, ((does_name w.registry text to).0, AtRegistry (does_name w.registry text to).1), refl, refl)
  possible h (ask.Retire to) aims = (AtRegistry w.registry, ((does_retire w.registry to).0, AtRegistry (does_retire w.registry to).1), refl, refl)
  possible h (ask.Mark to) aims = let i = inbox_at to aims in (AtInbox i.0, ((mark to i.0).0, AtInbox (mark to i.0).1), ap inbox_state i.1, refl)
  possible h (ask.Later n x) aims = (AtClock w.clock, (did.Later n x, AtClock (add w.clock n h x)), refl, refl)
  possible h ask.Now aims = (AtClock w.clock, (did.Now w.clock.now, AtClock w.clock), refl, refl)

  -- SERVICES

  given_here : (h : Handle) (y : Service S) → at w.services h.0 ≡ Some y → IsGiven (length w.services) h
  given_here h y e = record { above = (at_is w.services h.0 y e).0; within = at_within w.services h.0 y e }

  -- a service asks nothing that is not possible
  aims_well : (h : Handle) (s : S) → at w.services h.0 ≡ Some (Serving s) → (q : Request) → way.next s ≡ Ask q → Aims (length w.services) q
  aims_well h s here (ask.Put to m) e = go (subst (MayReach way s) e (lawful.told s (ok.services h (Serving s) here).0).reaches) where
    go : (to.0 ≡ 1) ⊎ (to.0 ≡ 2) ⊎ (to ≡ way.handle s) ⊎ Contains (way.known s) to → IsGiven (length w.services) to
    go (inl k) = let t = tidy.launcher in record { above = omega (arith, k); within = omega (arith, k, t) }
    go (inr (inl k)) = let t = tidy.launcher in record { above = omega (arith, k); within = omega (arith, k, t) }
    go (inr (inr (inl k))) = subst (IsGiven (length w.services)) (sym (k ∙ (ok.services h (Serving s) here).1)) (given_here h (Serving s) here)
    go (inr (inr (inr k))) = (tidy.speaks h (Serving s) here).known to k
  aims_well h s here (ask.Mark to) e = (tidy.speaks h (Serving s) here).marked to e
  aims_well h s here (ask.Look d) e = tt
  aims_well h s here (ask.Launch text args) e = tt
  aims_well h s here (ask.Name text to) e = tt
  aims_well h s here (ask.Retire to) e = tt
  aims_well h s here (ask.Later n x) e = tt
  aims_well h s here ask.Now e = tt

  -- a service that serves is idle
  pub is_idle : (h : Handle) (s : S) → at w.services h.0 ≡ Some (Serving s) → way.next s ≡ Idle
  is_idle h s here = go (way.next s) refl where
    go : (n : Next) → way.next s ≡ n → way.next s ≡ Idle
    go Idle e = e
    go (Ask q) e = absurd (cannot h (Serving s) (Asks q) here (subst (λ n. IsOne (Asks q) (next_ops n)) (sym e) (inl refl)) (possible h q (aims_well h s here q e)))

  -- one that has ended is over
  pub is_over : (h : Handle) (e : Ending) → at w.services h.0 ≡ Some (Leaving e) → e.bounces ≡ []
  is_over h e here = go e.bounces refl e.found refl where
    go : (xs : List Held) → e.bounces ≡ xs → (b : Bool) → e.found ≡ b → e.bounces ≡ []
    go [] k b f = k
    go (x ∷ xs) k false f =
        let may : IsOne (Asks (ask.Look (Number x.source.0))) (bounce_ops e.own false (x ∷ xs)) = inl refl in
        absurd (cannot h (Leaving e) (Asks (ask.Look (Number x.source.0))) here (subst (λ b. IsOne (Asks (ask.Look (Number x.source.0))) (bounce_ops e.own b e.bounces)) (sym f) (subst (λ z. IsOne (Asks (ask.Look (Number x.source.0))) (bounce_ops e.own false z)) (sym k) may)) (possible h (ask.Look (Number x.source.0)) tt))
    go (x ∷ xs) k true f =
        let may : IsOne (Asks (ask.Put x.source (bounce e.own x))) (bounce_ops e.own true (x ∷ xs)) = inl refl in
        let given : IsGiven (length w.services) x.source = (tidy.speaks h (Leaving e) here).caller x f (ap first k) in
        absurd (cannot h (Leaving e) (Asks (ask.Put x.source (bounce e.own x))) here (subst (λ b. IsOne (Asks (ask.Put x.source (bounce e.own x))) (bounce_ops e.own b e.bounces)) (sym f) (subst (λ z. IsOne (Asks (ask.Put x.source (bounce e.own x))) (bounce_ops e.own true z)) (sym k) may)) (possible h (ask.Put x.source (bounce e.own x)) given))

  pub over_here : (h : Handle) (e : Ending) → at w.services h.0 ≡ Some (Leaving e) → IsOver w h
  over_here h e here = record { ending = e; ended = here; told = is_over h e here }

  -- INBOXES

  end_possible : (h : Handle) (s : InboxStatus) (ms : List Message) → at w.inboxes h.0 ≡ Some (record { status = s; waiting = ms }) → s ≡ Closing → IsPossible way w h Ends
  end_possible h Closing ms there e = (AtInbox (record { status = Closing; waiting = ms }), (did.End ms, AtInbox (record { status = Gone; waiting = [] })), ap inbox_state there, refl)
  end_possible h Live ms there e = absurd (cc)
  end_possible h Gone ms there e = absurd (cc)

  take_possible : (h : Handle) (m : Message) (ms : List Message) → at w.inboxes h.0 ≡ Some (record { status = Live; waiting = m ∷ ms }) → IsPossible way w h Takes
  take_possible h m ms there = (AtInbox (record { status = Live; waiting = m ∷ ms }), (did.Take m (length ms), AtInbox (record { status = Live; waiting = ms })), ap inbox_state there, refl)

  idle_may : (h : Handle) (s : S) → at w.services h.0 ≡ Some (Serving s) → IsOne Ends (service_ops way (Serving s)) × IsOne Takes (service_ops way (Serving s))
  idle_may h s here = (subst (λ n. IsOne Ends (next_ops n)) (sym (is_idle h s here)) (inl refl), subst (λ n. IsOne Takes (next_ops n)) (sym (is_idle h s here)) (inr (inl refl)))

  -- a service that serves has a live inbox, in which nothing waits
  serving_inbox : (h : Handle) (s : S) (t : InboxStatus) (ms : List Message) → at w.services h.0 ≡ Some (Serving s) → at w.inboxes h.0 ≡ Some (record { status = t; waiting = ms }) → is_gone t ≡ false → (is_live t ≡ true) × (ms ≡ [])
  serving_inbox h s Gone ms here there home = absurd (cc)
  serving_inbox h s Closing ms here there home = absurd (cannot h (Serving s) Ends here (idle_may h s here).0 (end_possible h Closing ms there refl))
  serving_inbox h s Live [] here there home = (refl, refl)
  serving_inbox h s Live (m ∷ ms) here there home = absurd (cannot h (Serving s) Takes here (idle_may h s here).1 (take_possible h m ms there))

  pub is_empty : (h : Handle) (y : Service S) (i : InboxState) → at w.services h.0 ≡ Some y → at w.inboxes h.0 ≡ Some i → i.waiting ≡ []
  is_empty h (Serving s) i here there = (serving_inbox h s i.status i.waiting here there (tidy.homes h (Serving s) i here there)).1
  is_empty h (Leaving e) i here there = (tidy.homes h (Leaving e) i here there).1

  empty_at : (h : ℕ) (i : InboxState) → at w.inboxes h ≡ Some i → i.waiting ≡ []
  empty_at h i there =
      let within = at_within w.inboxes h i there in
      let y = at_some w.services h (at_is w.inboxes h i there).0 (omega (arith, within, ok.inboxes)) in
      is_empty (record { 0 = h }) y.0 i y.1 there

  -- CALLS

  no_sum : {X : Type 0} (f : ℕ → X → ℕ) (xs : List X) → ((h : ℕ) (x : X) → at xs h ≡ Some x → f h x ≡ 0) → total f 1 xs ≡ 0
  no_sum f xs zeros = go (total f 1 xs) refl where
    go : (n : ℕ) → total f 1 xs ≡ n → total f 1 xs ≡ 0
    go zero e = e
    go (suc n) e = let p = total_some f xs (omega (arith, e)) in let z = zeros p.0 p.1 p.2 in let q = p.3 in absurd (omega (arith, q, z))

  pub none_waits : (c : Call) → waiting c w ≡ 0
  none_waits c = no_sum (asks_in c) w.inboxes (λ h i there. ap (sum_by (asks c h)) (empty_at h i there))

  no_look : (s : S) → way.next s ≡ Idle → (q : Request) → way.next s ≢ Ask q
  no_look s e q k = absurd (apart (sym e ∙ k)) where
    apart : Idle ≡ Ask q → ⊥
    apart z = cc

  none_sent : (c : Call) (h : ℕ) (y : Service S) → at w.services h ≡ Some y → sends way c h y ≡ 0
  none_sent c h (Leaving e) here = ap (all_of c h) (is_over (record { 0 = h }) e here)
  none_sent c h (Serving s) here =
      let H : Handle = record { 0 = h } in
      let idle = is_idle H s here in
      let told = lawful.told s (ok.services H (Serving s) here).0 in
      ap (one_of c h) (sends_none way s (way.reply s) told.replying (λ d. no_look s idle (ask.Look d)) (λ to m. no_look s idle (ask.Put to m)))

  pub none_under_way : (c : Call) → on_its_way way c w ≡ 0
  none_under_way c =
      let one = no_sum (sends way c) w.services (none_sent c) in
      let two = no_sum (replies_in c) w.inboxes (λ h i there. ap (sum_by (replies c h)) (empty_at h i there)) in
      omega (arith, one, two)

  -- a service that is listed no more is over
  pub off_is_over : (h : Handle) (y : Service S) → at w.services h.0 ≡ Some y → at w.registry.listed h.0 ≡ Some false → IsOver w h
  off_is_over h y here e = go (tidy.off h e) where
    closed : (z : Service S) (i : InboxState) → at w.services h.0 ≡ Some z → at w.inboxes h.0 ≡ Some i → is_live i.status ≡ false → IsOver w h
    closed (Leaving a) i k there l = over_here h a k
    closed (Serving s) i k there l = absurd (cc ((serving_inbox h s i.status i.waiting k there (tidy.homes h (Serving s) i k there)).0, l))

    go : IsOff way w h → IsOver w h
    go (inl p) = closed y p.0 here p.1 p.2
    go (inr p) = absurd (no_look p.1 (is_idle p.0 p.1 p.2) (ask.Mark h) p.3)

-- WHO HOLDS THE REQUEST

-- the request of the call, held by its callee
abbrev pub IsOf : Call → ℕ → Held → Type 0
IsOf c h x = (is_callee c.callee h ≡ true) × (x ≡ record { source = c.caller; session = c.session })

pub one_is : (c : Call) (h : ℕ) (x : Held) → 0 < one c h x → IsOf c h x
one_is c h x p = go (is_callee c.callee h && ((x.source.0 == c.caller.0) && (x.session.0 == c.session.0))) refl where
  go : (b : Bool) → (is_callee c.callee h && ((x.source.0 == c.caller.0) && (x.session.0 == c.session.0))) ≡ b → IsOf c h x
  go false e = let z : one c h x ≡ 0 = rw e refl in absurd (omega (arith, p, z))
  go true e = (and_first (is_callee c.callee h) _ e, held_is) where
    both : ((x.source.0 == c.caller.0) && (x.session.0 == c.session.0)) ≡ true
    both = and_second (is_callee c.callee h) _ e

    source : x.source ≡ c.caller
    source = handle_is x.source c.caller (same_nat x.source.0 c.caller.0 (and_first (x.source.0 == c.caller.0) _ both))

    session_is : (a b : Session) → a.0 ≡ b.0 → a ≡ b
    session_is a b k = let F : ℕ → Session = λ n. record { 0 = n } in ap F k

    session : x.session ≡ c.session
    session = session_is x.session c.session (same_nat x.session.0 c.session.0 (and_second (x.source.0 == c.caller.0) _ both))

    held_is : x ≡ record { source = c.caller; session = c.session }
    held_is =
        let F : Handle → Held = λ a. record { source = a; session = x.session } in
        let G : Session → Held = λ a. record { source = c.caller; session = a } in
        ap F source ∙ ap G session

pub sum_in : {X : Type 0} (f : X → ℕ) (xs : List X) → 0 < sum_by f xs → (x : X) × Contains xs x × (0 < f x)
sum_in f [] p = absurd (omega (arith, p))
sum_in {X = X} f (x ∷ xs) p = go (sum_in f xs) (f x) refl where
  go : (0 < sum_by f xs → (y : X) × Contains xs y × (0 < f y)) → (n : ℕ) → f x ≡ n → (y : X) × Contains (x ∷ xs) y × (0 < f y)
  go rec (suc n) e = (x, (zero, omega arith, refl), omega (arith, e))
  go rec zero e =
      let more = rec (omega (arith, p, e, sum_by-cons f x xs)) in
      let k = more.1 in
      (more.0, (suc k.0, (let l = k.1 in omega (arith, l)), k.2), more.2)

pub held_is_held : {S : Type 0} (way : Way S) (c : Call) (w : World S) → held way c w ≡ 1 → IsHeld way c w
held_is_held {S = S} way c w once = go (total_some (holds way c) w.services (omega (arith, once))) where
  at_service : (h : ℕ) (y : Service S) → at w.services h ≡ Some y → 0 < holds way c h y → IsHeld way c w
  at_service h (Leaving e) here p = absurd (omega (arith, p))
  at_service h (Serving s) here p =
      let m = sum_in (one c h) (way.held s) p in
      let is = one_is c h m.0 m.2 in
      record { once = once; callee = record { 0 = h }; called = is.0; state = s; serves = here; holds = subst (Contains (way.held s)) is.1 m.1 }

  go : (h : ℕ) × (y : Service S) × (at w.services h ≡ Some y) × (0 < holds way c h y) → IsHeld way c w
  go p = at_service p.0 p.1 p.2 p.3
