-- Each timer is that of a handle that was given.
use Rattle.std.proofs.Common.{inl, inr, ℕ, ◌≡◌, ◌≢◌, ◌≤◌, ◌+◌, ◌-◌, ◌==◌, nat_lt, nat_le, Bool, true, false, not, cond, List, [], ◌∷◌, ◌++◌, map, length, Option, Some, None, if◌then◌else◌, refl, ap, sym, ◌∙◌, subst, arith, length-append, length-set}
use Rattle.std.specs.List.{filter}
use Rattle.message.specs.Messages.{init_message, timer_message}
use Rattle.message.specs.Actors.{Way}
use Rattle.message.specs.Registries.{at}
use Rattle.message.specs.Clocks.{Clock, add, tick, ticked, due_at, last_tick}
use Rattle.message.specs.Steps.{Op, Asks, Takes, Ends, Ticks, Fires, Agent, Serves, Times, IsOne, ops, op_of, place_of, agent_after, due_after, PlaceState, AtRegistry, AtInbox, AtClock, registry_does, inbox_does, clock_does, does}
use Rattle.message.specs.Worlds.{World, agent, agent_or_clock, place, inbox_state, set_place, set_agent, grow, grow_by, act}
use Rattle.message.proofs.Acts.{IsAct, act_inv}
use Rattle.sk_types.specs.declared.number.Handle.{Handle}
use Rattle.sk_types.specs.declared.number.Session.{Session}
use Rattle.message.specs.declared.request.Message.{Message}
use Rattle.message.specs.declared.request.Request.TheVariants as ask
use Rattle.message.specs.declared.record.What.{What}
use Rattle.message.specs.declared.record.What.TheVariants as did
use Rattle.message.specs.declared.place.Timer.{Timer}
use Rattle.message.specs.declared.place.Place.{Place}
use Rattle.message.specs.declared.place.Place.TheVariants.{Registry as TheRegistry, Inbox as TheInbox, Clock as TheClock}
use Rattle.message.specs.declared.place.InboxStatus.TheVariants.{Live}
use Rattle.message.specs.declared.place.InboxState.{InboxState}
use Rattle.message.specs.declared.place.Service.{Service}
use Rattle.call_fates.proofs.Lists.{at_is, at_within}
use Rattle.call_fates.proofs.Forms.{with_inv, does_done}
use Rattle.call_fates.proofs.Inverts.{agent_is}
use Rattle.schedule_core.specs.Levels.{Within, TimersIn, DueIn, HasTimers}

timers_more : (n m : ℕ) → n ≤ m → (ts : List Timer) → TimersIn n ts → TimersIn m ts
timers_more n m le [] all = tt
timers_more n m le (t ∷ ts) all = let l = all.0.1 in ((all.0.0, omega (arith, l, le)), timers_more n m le ts all.1)

due_more : (n m : ℕ) → n ≤ m → (ds : List (Handle × Session)) → DueIn n ds → DueIn m ds
due_more n m le [] all = tt
due_more n m le (d ∷ ds) all = let l = all.0.1 in ((all.0.0, omega (arith, l, le)), due_more n m le ds all.1)

timers_last : (n : ℕ) (ts : List Timer) (t : Timer) → TimersIn n ts → Within n t.handle → TimersIn n (ts ++ t ∷ [])
timers_last n [] t all one = (one, tt)
timers_last n (x ∷ ts) t all one = (all.0, timers_last n ts t all.1 one)

timers_filter : (n : ℕ) (p : Timer → Bool) (ts : List Timer) → TimersIn n ts → TimersIn n (filter p ts)
timers_filter n p [] all = tt
timers_filter n p (t ∷ ts) all = go (p t) (timers_filter n p ts all.1) where
  go : (b : Bool) → TimersIn n (filter p ts) → TimersIn n (cond b (t ∷ filter p ts) (filter p ts))
  go true rec = (all.0, rec)
  go false rec = rec

due_both : (n : ℕ) (ds es : List (Handle × Session)) → DueIn n ds → DueIn n es → DueIn n (ds ++ es)
due_both n [] es all more = more
due_both n (d ∷ ds) es all more = (all.0, due_both n ds es all.1 more)

fall_due : (n : ℕ) (ts : List Timer) → TimersIn n ts → DueIn n (map (λ (t : Timer). (t.handle, t.session)) ts)
fall_due n [] all = tt
fall_due n (t ∷ ts) all = (all.0, fall_due n ts all.1)

-- THE CLOCK

tick_in : (n : ℕ) (c : Clock) (d : What × Clock) → TimersIn n c.timers → tick c c.timers ≡ Some d → TimersIn n d.1.timers
tick_in n c d all e = go c.timers e where
  inner : (b : Bool) → (if b then Some (did.Tick (due_at (c.now + 1) c.timers), ticked c) else None) ≡ Some d → TimersIn n d.1.timers
  inner true f =
      let same : (did.Tick (due_at (c.now + 1) c.timers), ticked c) ≡ d = cc in
      subst (λ (z : What × Clock). TimersIn n z.1.timers) same (timers_filter n (λ (t : Timer). not (nat_le t.at (c.now + 1))) c.timers all)
  inner false f = absurd (cc)

  go : (ts : List Timer) → tick c ts ≡ Some d → TimersIn n d.1.timers
  go [] f = absurd (cc)
  go (t ∷ ts) f = inner (nat_lt c.now last_tick) f

-- a timer that is added is that of the agent
clock_in : (n : ℕ) (own : Handle) (op : Op) (c : Clock) (d : What × Clock) → ((k : ℕ) (x : Session) → op ≡ Asks (ask.Later k x) → Within n own) → TimersIn n c.timers → clock_does own op c ≡ Some d → TimersIn n d.1.timers
clock_in n own (Asks (ask.Later k x)) c d is all e =
    let same : (did.Later k x, add c k own x) ≡ d = cc in
    subst (λ (z : What × Clock). TimersIn n z.1.timers) same (timers_last n c.timers (record { at = c.now + k; handle = own; session = x }) all (is k x refl))
clock_in n own (Asks ask.Now) c d is all e =
    let same : (did.Now c.now, c) ≡ d = cc in
    subst (λ (z : What × Clock). TimersIn n z.1.timers) same all
clock_in n own Ticks c d is all e = tick_in n c d all e
clock_in n own (Asks (ask.Look to)) c d is all e = absurd (cc)
clock_in n own (Asks (ask.Put to m)) c d is all e = absurd (cc)
clock_in n own (Asks (ask.Launch text args)) c d is all e = absurd (cc)
clock_in n own (Asks (ask.Name text to)) c d is all e = absurd (cc)
clock_in n own (Asks (ask.Retire to)) c d is all e = absurd (cc)
clock_in n own (Asks (ask.Mark to)) c d is all e = absurd (cc)
clock_in n own Takes c d is all e = absurd (cc)
clock_in n own Ends c d is all e = absurd (cc)
clock_in n own (Fires to m) c d is all e = absurd (cc)

-- what becomes due
tick_due : (n : ℕ) (c : Clock) (d : What × Clock) → TimersIn n c.timers → tick c c.timers ≡ Some d → (more : List (Handle × Session)) → d.0 ≡ did.Tick more → DueIn n more
tick_due n c d all e more is = go c.timers e where
  inner : (b : Bool) → (if b then Some (did.Tick (due_at (c.now + 1) c.timers), ticked c) else None) ≡ Some d → DueIn n more
  inner true f =
      let same : (did.Tick (due_at (c.now + 1) c.timers), ticked c) ≡ d = cc in
      let one : did.Tick (due_at (c.now + 1) c.timers) ≡ did.Tick more = ap (λ (z : What × Clock). z.0) same ∙ is in
      let two : due_at (c.now + 1) c.timers ≡ more = cc in
      subst (DueIn n) two (fall_due n (filter (λ (t : Timer). nat_le t.at (c.now + 1)) c.timers) (timers_filter n (λ (t : Timer). nat_le t.at (c.now + 1)) c.timers all))
  inner false f = absurd (cc)

  go : (ts : List Timer) → tick c ts ≡ Some d → DueIn n more
  go [] f = absurd (cc)
  go (t ∷ ts) f = inner (nat_lt c.now last_tick) f

-- THE WORLD

set_clock : {S : Type 0} (v : World S) (h : Handle) (a : Agent S) → (set_agent v h a).clock ≡ v.clock
set_clock v h (Serves x) = refl
set_clock v h (Times due) = refl

set_inboxes : {S : Type 0} (v : World S) (h : Handle) (a : Agent S) → (set_agent v h a).inboxes ≡ v.inboxes
set_inboxes v h (Serves x) = refl
set_inboxes v h (Times due) = refl

place_due : {S : Type 0} (w : World S) (p : Place) (s : PlaceState) → (set_place w p s).due ≡ w.due
place_due w TheRegistry (AtRegistry r) = refl
place_due w TheRegistry (AtInbox i) = refl
place_due w TheRegistry (AtClock c) = refl
place_due w (TheInbox h) (AtRegistry r) = refl
place_due w (TheInbox h) (AtInbox i) = refl
place_due w (TheInbox h) (AtClock c) = refl
place_due w TheClock (AtRegistry r) = refl
place_due w TheClock (AtInbox i) = refl
place_due w TheClock (AtClock c) = refl

place_inboxes : {S : Type 0} (w : World S) (p : Place) (s : PlaceState) → length (set_place w p s).inboxes ≡ length w.inboxes
place_inboxes w TheRegistry (AtRegistry r) = refl
place_inboxes w TheRegistry (AtInbox i) = refl
place_inboxes w TheRegistry (AtClock c) = refl
place_inboxes w (TheInbox h) (AtRegistry r) = refl
place_inboxes w (TheInbox h) (AtInbox i) = length-set w.inboxes (h.0 - 1) i
place_inboxes w (TheInbox h) (AtClock c) = refl
place_inboxes w TheClock (AtRegistry r) = refl
place_inboxes w TheClock (AtInbox i) = refl
place_inboxes w TheClock (AtClock c) = refl

-- the place was the clock, or the clock stays
place_clock : {S : Type 0} (n : ℕ) (way : Way S) (w : World S) (h : Handle) (op : Op) (p : Place) (s : PlaceState) (d : What × PlaceState) → place w p ≡ Some s → does way h op s ≡ Some d
    → ((k : ℕ) (x : Session) → op ≡ Asks (ask.Later k x) → Within n h) → TimersIn n w.clock.timers → TimersIn n (set_place w p d.1).clock.timers
place_clock n way w h op TheRegistry s d there can is all =
    let same : s ≡ AtRegistry w.registry = cc in
    let x = with_inv AtRegistry (registry_does way op w.registry) d (ap (does way h op) (sym same) ∙ can) in
    subst (λ (z : What × PlaceState). TimersIn n (set_place w TheRegistry z.1).clock.timers) x.2 all
place_clock n way w h op TheClock s d there can is all =
    let same : s ≡ AtClock w.clock = cc in
    let x = with_inv AtClock (clock_does h op w.clock) d (ap (does way h op) (sym same) ∙ can) in
    subst (λ (z : What × PlaceState). TimersIn n (set_place w TheClock z.1).clock.timers) x.2 (clock_in n h op w.clock x.0 is all x.1)
place_clock {S = S} n way w h op (TheInbox to) s d there can is all = go (at w.inboxes to.0) there where
  go : (q : Option InboxState) → inbox_state q ≡ Some s → TimersIn n (set_place w (TheInbox to) d.1).clock.timers
  go None f = absurd (cc)
  go (Some i) f =
      let same : s ≡ AtInbox i = cc in
      let x = with_inv AtInbox (inbox_does op i) d (ap (does way h op) (sym same) ∙ can) in
      subst (λ (z : What × PlaceState). TimersIn n (set_place w (TheInbox to) z.1).clock.timers) x.2 all

not_ticks : (k : ℕ) (x : Session) → Asks (ask.Later k x) ≢ Ticks
not_ticks k x e = cc

not_fires : (k : ℕ) (x : Session) (to : Handle) (m : Message) → Asks (ask.Later k x) ≢ Fires to m
not_fires k x to m e = cc

times_after : (n : ℕ) (due : List (Handle × Session)) (what : What) → DueIn n due → ((more : List (Handle × Session)) → what ≡ did.Tick more → DueIn n more) → DueIn n (due_after due what)
times_after n due (did.Tick more) all ticks = due_both n due more all (ticks more refl)
times_after n [] _ all ticks = tt
times_after n (d ∷ ds) _ all ticks = all.1

is_due : {S : Type 0} (w : World S) (h : Handle) (due : List (Handle × Session)) → agent w h ≡ Some (Times due) → w.due ≡ due
is_due {S = S} w h due e = go (h.0 == 0) (at w.services h.0) e where
  go : (b : Bool) → (q : Option (Service S)) → agent_or_clock w.due q b ≡ Some (Times due) → w.due ≡ due
  go true q f = cc
  go false None f = absurd (cc)
  go false (Some x) f = absurd (cc)

module _ {S : Type 0} (way : Way S) (w : World S) (h : Handle) (timers : HasTimers w) (even : length w.services ≡ length w.inboxes) where
  abbrev n : ℕ
  n = length w.inboxes

  -- what the clock gave was due
  gave : (op : Op) (s : PlaceState) (d : What × PlaceState) → place w (place_of h op) ≡ Some s → does way h op s ≡ Some d → (more : List (Handle × Session)) → d.0 ≡ did.Tick more → DueIn n more
  gave op s d there can more is =
      let tick_is : op ≡ Ticks = sym ((does_done way h op s d can).same) ∙ ap op_of is in
      let there2 : Some (AtClock w.clock) ≡ Some s = sym (ap (λ o. place w (place_of h o)) tick_is) ∙ there in
      let same : AtClock w.clock ≡ s = cc in
      let can2 : does way h Ticks (AtClock w.clock) ≡ Some d = ap (does way h Ticks) same ∙ (ap (λ o. does way h o s) (sym tick_is) ∙ can) in
      let x = with_inv AtClock (tick w.clock w.clock.timers) d can2 in
      tick_due n w.clock x.0 timers.waiting x.1 more (ap (λ (z : What × PlaceState). z.0) x.2 ∙ is)

  due_in : (who : Agent S) (op : Op) (s : PlaceState) (d : What × PlaceState) → agent w h ≡ Some who → place w (place_of h op) ≡ Some s → does way h op s ≡ Some d → DueIn n (set_agent (set_place w (place_of h op) d.1) h (agent_after way who d.0)).due
  due_in (Serves x) op s d is there can = subst (DueIn n) (sym (place_due w (place_of h op) d.1)) timers.due
  due_in (Times due) op s d is there can = times_after n due d.0 (subst (DueIn n) (is_due w h due is) timers.due) (gave op s d there can)

  -- who asks for a timer is a service
  asks_later : (who : Agent S) (op : Op) → agent w h ≡ Some who → IsOne op (ops way who) → (k : ℕ) (x : Session) → op ≡ Asks (ask.Later k x) → Within n h
  asks_later (Serves y) op is one k x e =
      let here = agent_is w h y is in
      let l : h.0 ≤ length w.services = at_within w.services h.0 y here in
      ((at_is w.services h.0 y here).0, omega (arith, l, even))
  asks_later (Times []) op is (inl f) k x e = absurd (not_ticks k x (sym e ∙ f))
  asks_later (Times []) op is (inr f) k x e = absurd f
  asks_later (Times (d ∷ ds)) op is (inl f) k x e = absurd (not_fires k x d.0 (timer_message d.1) (sym e ∙ f))
  asks_later (Times (d ∷ ds)) op is (inr f) k x e = absurd f

  grown : (v : World S) (what : What) → TimersIn n v.clock.timers → DueIn n v.due → length v.inboxes ≡ n → HasTimers (grow way v what)
  grown v (did.Launch text args (Some own)) ts ds len = go (way.begins text own) where
    go : (q : Option S) → HasTimers (grow_by v args q)
    go None = record { waiting = subst (λ k. TimersIn k v.clock.timers) (sym len) ts; due = subst (λ k. DueIn k v.due) (sym len) ds }
    go (Some s) =
        let longer : length (v.inboxes ++ record { status = Live; waiting = init_message args ∷ [] } ∷ []) ≡ length v.inboxes + 1 = length-append v.inboxes (record { status = Live; waiting = init_message args ∷ [] } ∷ []) in
        record {
          waiting = timers_more n (length (v.inboxes ++ record { status = Live; waiting = init_message args ∷ [] } ∷ [])) (omega (arith, longer, len)) v.clock.timers ts;
          due = due_more n (length (v.inboxes ++ record { status = Live; waiting = init_message args ∷ [] } ∷ [])) (omega (arith, longer, len)) v.due ds;
        }
  grown v _ ts ds len = record { waiting = subst (λ k. TimersIn k v.clock.timers) (sym len) ts; due = subst (λ k. DueIn k v.due) (sym len) ds }

  kept : (r : What × World S) → IsAct way w h r → HasTimers r.1
  kept r x =
      let v : World S = set_agent (set_place w (place_of h x.op) x.did.1) h (agent_after way x.who x.did.0) in
      let ts : TimersIn n v.clock.timers = subst (λ (z : Clock). TimersIn n z.timers) (sym (set_clock (set_place w (place_of h x.op) x.did.1) h (agent_after way x.who x.did.0)))
      (place_clock n way w h x.op (place_of h x.op) x.state x.did x.found x.can (asks_later x.who x.op x.there x.may) timers.waiting) in
      let ds : DueIn n v.due = due_in x.who x.op x.state x.did x.there x.found x.can in
      let len : length v.inboxes ≡ n = ap length (set_inboxes (set_place w (place_of h x.op) x.did.1) h (agent_after way x.who x.did.0)) ∙ place_inboxes w (place_of h x.op) x.did.1 in
      subst (λ (z : What × World S). HasTimers z.1) (sym x.same) (grown v x.did.0 ts ds len)

pub act_timers : {S : Type 0} (way : Way S) (w : World S) (h : Handle) (what : What) (w2 : World S) → HasTimers w → length w.services ≡ length w.inboxes → act way w h ≡ Some (what, w2) → HasTimers w2
act_timers way w h what w2 timers even e = kept way w h timers even (what, w2) (act_inv way w h (what, w2) e)
