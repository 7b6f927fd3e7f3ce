-- What an agent does next, and what it weighs.
use Rattle.std.specs.Prelude.{IfNone, IfSome}
use Rattle.std.proofs.Common.{◌≡◌, ℕ, ◌<◌, ◌≤◌, ◌+◌, ◌-◌, ◌==◌, nat_lt, Bool, true, false, List, [], ◌∷◌, length, Option, Some, None, zero, suc, slice_get, get_or, map, if◌then◌else◌, refl, ap, sym, ◌∙◌, subst, arith}
use Rattle.std.proofs.lemmas.Bool.Decides.{nat_tests}
use Rattle.std.proofs.lemmas.Option.{slice_get_past}
use Rattle.sk_types.specs.declared.number.Handle.{Handle}
use Rattle.sk_types.specs.declared.number.Session.{Session}
use Rattle.message.specs.Data.{weight, capped}
use Rattle.message.specs.Messages.{bounce, timer_message}
use Rattle.message.specs.Actors.{Way}
use Rattle.message.specs.Inboxes.{put, fire, mark, take_first, end}
use Rattle.message.specs.Registries.{at, does_launch, does_look, does_name, does_retire}
use Rattle.message.specs.Clocks.{Clock, add, tick, ticked, due_at, last_tick}
use Rattle.message.specs.Steps.{Op, Asks, Takes, Ends, Ticks, Fires, Agent, Serves, Times, ops, next_ops, bounce_ops, made, PlaceState, AtRegistry, AtInbox, AtClock, does, place_of, with_state}
use Rattle.message.specs.Worlds.{World, agent, act, agent_or_clock, serves, place, inbox_state, answer_at, left_by, over, service_over}
use Rattle.message.proofs.Acts.{act_first, act_second, act_none, act_neither, act_nothing, act_nobody}
use Rattle.message.specs.declared.datum.Datum.{Datum}
use Rattle.message.specs.declared.request.Dest.TheVariants.{Number}
use Rattle.message.specs.declared.request.Held.{Held}
use Rattle.message.specs.declared.request.Message.{Message}
use Rattle.message.specs.declared.request.Next.{Next}
use Rattle.message.specs.declared.request.Next.TheVariants.{Idle, Ask}
use Rattle.message.specs.declared.request.Request.{Request}
use Rattle.message.specs.declared.request.Request.TheVariants as ask
use Rattle.message.specs.declared.record.What.{What}
use Rattle.message.specs.declared.record.What.TheVariants as did
use Rattle.message.specs.declared.place.Timer.{Timer}
use Rattle.message.specs.declared.place.InboxStatus.{InboxStatus}
use Rattle.message.specs.declared.place.InboxStatus.TheVariants.{Live, Closing, Gone}
use Rattle.message.specs.declared.place.InboxState.{InboxState}
use Rattle.message.specs.declared.place.Service.{Service}
use Rattle.message.specs.declared.place.Service.TheVariants.{Serving, Leaving}
use Rattle.world_machine.specs.Foreseen.{weight_of, is_tick, IsAhead, has_inbox, given_ahead, asks_ahead, idle_ahead, bounce_ahead, next_ahead, service_ahead}
use Rattle.world_machine.specs.Spots.{Spots, with_spots}
use Rattle.world_machine.specs.Launching.{FirstDue, clock_agent}
use Rattle.world_machine.proofs.Asking.{at_given, agent_serves, seen}
use Rattle.world_machine.proofs.Idling.{inbox_there}
use Rattle.world_machine.proofs.Lists.{map_len}
use Rattle.world_machine.proofs.Clocking.{ticks_can}

-- the inbox of a handle that was given
inside : {X : Type 0} (xs : List X) (i : ℕ) → i < length xs → (x : X) × (slice_get xs i ≡ Some x)
inside [] i l = absurd (omega (arith, l))
inside (x ∷ xs) zero l = (x, refl)
inside (x ∷ xs) (suc i) l = inside xs i (omega (arith, l))

there_is : {X : Type 0} (xs : List X) (h : Handle) → has_inbox (length xs) h ≡ true → (x : X) × (at xs h.0 ≡ Some x)
there_is xs h e =
    let given : 0 < h.0 = grind (arith, nat_tests, e) in
    let within : h.0 ≤ length xs = grind (arith, nat_tests, e) in
    let here = inside xs (h.0 - 1) (omega (arith, given, within)) in
    (here.0, at_given xs h.0 given ∙ here.1)

there_not : {X : Type 0} (xs : List X) (h : Handle) → has_inbox (length xs) h ≡ false → at xs h.0 ≡ None
there_not {X = X} xs h e = go (h.0 == 0) refl where
  go : (b : Bool) → (h.0 == 0) ≡ b → at xs h.0 ≡ None
  go true eq = rw eq refl
  go false eq =
      let past : length xs ≤ h.0 - 1 = grind (arith, nat_tests, e, eq) in
      rw eq (slice_get_past xs (h.0 - 1) past)

-- none, and no action; or an action of this weight, which is no tick
pub data Tells {S : Type 0} (way : Way S) (w : World S) (h : Handle) : Option ℕ → Type 0 where
  acts_not : act way w h ≡ None → Tells way w h None
  acts_so : (n : ℕ) → IsAhead way w h false n → Tells way w h (Some n)

module _ {S : Type 0} (way : Way S) (w : World S) (h : Handle) where
  -- the only thing that the agent may do is done
  only : (a : Agent S) (op : Op) (p : PlaceState) (d : What × PlaceState) (n : ℕ) → agent w h ≡ Some a → ops way a ≡ op ∷ [] → place w (place_of h op) ≡ Some p → does way h op p ≡ Some d → is_tick d.0 ≡ false → n ≡ capped (weight_of h d.0) → Tells way w h (Some n)
  only a op p d n there may found can no_tick is = acts_so n (record { what = d.0; after = left_by way w h a (place_of h op) d; acts = act_first way w h a op [] p d there may found can; tick_is = sym no_tick; weight_is = is })

  puts : (a : Agent S) (to : Handle) (m : Message) (b : Bool) → has_inbox (length w.inboxes) to ≡ b → agent w h ≡ Some a → ops way a ≡ Asks (ask.Put to m) ∷ [] → Tells way w h (if b then Some (capped (weight m.body)) else None)
  puts a to m true has there may =
      let i = there_is w.inboxes to has in
      only a (Asks (ask.Put to m)) (AtInbox i.0) ((put to m i.0).0, AtInbox (put to m i.0).1) (capped (weight m.body)) there may (ap inbox_state i.1) refl refl refl
  puts a to m false has there may = acts_not (act_none way w h a (Asks (ask.Put to m)) there may (ap (λ q. answer_at way h (Asks (ask.Put to m)) (inbox_state q)) (there_not w.inboxes to has)))

  marks : (a : Agent S) (to : Handle) (b : Bool) → has_inbox (length w.inboxes) to ≡ b → agent w h ≡ Some a → ops way a ≡ Asks (ask.Mark to) ∷ [] → Tells way w h (if b then Some 0 else None)
  marks a to true has there may =
      let i = there_is w.inboxes to has in
      only a (Asks (ask.Mark to)) (AtInbox i.0) ((mark to i.0).0, AtInbox (mark to i.0).1) 0 there may (ap inbox_state i.1) refl refl refl
  marks a to false has there may = acts_not (act_none way w h a (Asks (ask.Mark to)) there may (ap (λ q. answer_at way h (Asks (ask.Mark to)) (inbox_state q)) (there_not w.inboxes to has)))

  launches : (a : Agent S) (name : List ℕ) (args : List Datum) (q : Option S) → made way w.registry name ≡ q → agent w h ≡ Some a → ops way a ≡ Asks (ask.Launch name args) ∷ [] → Tells way w h (Some (capped (weight args)))
  launches a name args None is there may =
      only a (Asks (ask.Launch name args)) (AtRegistry w.registry) (did.Launch name args None, AtRegistry w.registry) (capped (weight args)) there may refl (ap (λ q. with_state AtRegistry (Some (does_launch w.registry name args q))) is) refl refl
  launches a name args (Some s) is there may =
      only a (Asks (ask.Launch name args)) (AtRegistry w.registry) ((does_launch w.registry name args (Some s)).0, AtRegistry (does_launch w.registry name args (Some s)).1) (capped (weight args)) there may refl (ap (λ q. with_state AtRegistry (Some (does_launch w.registry name args q))) is) refl refl

  pub asks : (a : Agent S) (r : Request) → agent w h ≡ Some a → ops way a ≡ Asks r ∷ [] → Tells way w h (asks_ahead (length w.inboxes) r)
  asks a (ask.Put to m) there may = puts a to m (has_inbox (length w.inboxes) to) refl there may
  asks a (ask.Mark to) there may = marks a to (has_inbox (length w.inboxes) to) refl there may
  asks a (ask.Launch name args) there may = launches a name args (made way w.registry name) refl there may
  asks a (ask.Look dest) there may = only a (Asks (ask.Look dest)) (AtRegistry w.registry) ((does_look w.registry dest).0, AtRegistry (does_look w.registry dest).1) 0 there may refl refl refl refl
  asks a (ask.Name text g) there may = only a (Asks (ask.Name text g)) (AtRegistry w.registry) ((does_name w.registry text g).0, AtRegistry (does_name w.registry text g).1) 0 there may refl refl refl refl
  asks a (ask.Retire g) there may = only a (Asks (ask.Retire g)) (AtRegistry w.registry) ((does_retire w.registry g).0, AtRegistry (does_retire w.registry g).1) 0 there may refl refl refl refl
  asks a (ask.Later n x) there may = only a (Asks (ask.Later n x)) (AtClock w.clock) (did.Later n x, AtClock (add w.clock n h x)) 0 there may refl refl refl refl
  asks a ask.Now there may = only a (Asks ask.Now) (AtClock w.clock) (did.Now w.clock.now, AtClock w.clock) 0 there may refl refl refl refl

  module _ (a : Agent S) (i : InboxState) (there : agent w h ≡ Some a) (may : ops way a ≡ Ends ∷ Takes ∷ []) (here : at w.inboxes h.0 ≡ Some i) where
    idles : (status : InboxStatus) (ms : List Message) → i.status ≡ status → i.waiting ≡ ms → Tells way w h (idle_ahead h status ms)
    idles Closing ms is on =
        let can : end i.status i.waiting ≡ Some (did.End ms, record { status = Gone; waiting = [] }) = ap (λ z. end z i.waiting) is ∙ ap (end Closing) on in
        acts_so 0 (record {
          what = did.End ms;
          after = left_by way w h a (place_of h Ends) (did.End ms, AtInbox (record { status = Gone; waiting = [] }));
          acts = act_first way w h a Ends (Takes ∷ []) (AtInbox i) (did.End ms, AtInbox (record { status = Gone; waiting = [] })) there may (ap inbox_state here) (ap (with_state AtInbox) can);
          tick_is = refl;
          weight_is = refl;
        })
    idles Gone ms is on =
        let no_end : end i.status i.waiting ≡ None = ap (λ z. end z i.waiting) is in
        let no_take : take_first i.status i.waiting ≡ None = ap (λ z. take_first z i.waiting) is in
        acts_not (act_neither way w h a Ends Takes there may (ap (λ q. answer_at way h Ends (inbox_state q)) here ∙ ap (with_state AtInbox) no_end) (ap (λ q. answer_at way h Takes (inbox_state q)) here ∙ ap (with_state AtInbox) no_take))
    idles Live [] is on =
        let no_end : end i.status i.waiting ≡ None = ap (λ z. end z i.waiting) is in
        let no_take : take_first i.status i.waiting ≡ None = ap (λ z. take_first z i.waiting) is ∙ ap (take_first Live) on in
        acts_not (act_neither way w h a Ends Takes there may (ap (λ q. answer_at way h Ends (inbox_state q)) here ∙ ap (with_state AtInbox) no_end) (ap (λ q. answer_at way h Takes (inbox_state q)) here ∙ ap (with_state AtInbox) no_take))
    idles Live (m ∷ ms) is on =
        let no_end : end i.status i.waiting ≡ None = ap (λ z. end z i.waiting) is in
        let can : take_first i.status i.waiting ≡ Some (did.Take m (length ms), record { status = Live; waiting = ms }) = ap (λ z. take_first z i.waiting) is ∙ ap (take_first Live) on in
        acts_so (capped (weight_of h (did.Take m (length ms)))) (record {
          what = did.Take m (length ms);
          after = left_by way w h a (place_of h Takes) (did.Take m (length ms), AtInbox (record { status = Live; waiting = ms }));
          acts = act_second way w h a Ends Takes (AtInbox i) (did.Take m (length ms), AtInbox (record { status = Live; waiting = ms })) there may (ap (λ q. answer_at way h Ends (inbox_state q)) here ∙ ap (with_state AtInbox) no_end) (ap inbox_state here) (ap (with_state AtInbox) can);
          tick_is = refl;
          weight_is = refl;
        })

  leaves : (a : Agent S) (own : Handle) (found : Bool) (xs : List Held) → agent w h ≡ Some a → ops way a ≡ bounce_ops own found xs → Tells way w h (bounce_ahead (length w.inboxes) found xs)
  leaves a own found [] there may = acts_not (act_nothing way w h a there may)
  leaves a own false (x ∷ xs) there may = asks a (ask.Look (Number x.source.0)) there may
  leaves a own true (x ∷ xs) there may = puts a x.source (bounce own x) (has_inbox (length w.inboxes) x.source) refl there may

  pub serves_ahead : (x : Service S) (i : InboxState) → agent w h ≡ Some (Serves x) → at w.inboxes h.0 ≡ Some i → Tells way w h (service_ahead way (length w.inboxes) h i x)
  serves_ahead (Leaving e) i there here = leaves (Serves (Leaving e)) e.own e.found e.bounces there refl
  serves_ahead (Serving s) i there here = go (way.next s) refl where
    go : (n : Next) → way.next s ≡ n → Tells way w h (next_ahead (length w.inboxes) h i n)
    go Idle is = idles (Serves (Serving s)) i there (ap next_ops is) here i.status i.waiting refl refl
    go (Ask r) is = asks (Serves (Serving s)) r there (ap next_ops is)

  -- read from an equation
  pub tells_none : (q : Option ℕ) → Tells way w h q → q ≡ None → act way w h ≡ None
  tells_none None (acts_not e) is = e
  tells_none (Some n) t is = absurd (cc)

  pub tells_some : (q : Option ℕ) (n : ℕ) → Tells way w h q → q ≡ Some n → IsAhead way w h false n
  tells_some None n t is = absurd (cc)
  tells_some (Some m) n (acts_so j k) is = let same : m ≡ n = cc in subst (IsAhead way w h false) same k

  pub none_told : (q r : Option ℕ) → Tells way w h q → r ≡ q → IfNone r (act way w h ≡ None)
  none_told q None t e = tells_none q t (sym e)
  none_told q (Some n) t e = tt

  pub some_told : (q r : Option ℕ) → Tells way w h q → r ≡ q → IfSome r (λ n. IsAhead way w h false n)
  some_told q None t e = tt
  some_told q (Some n) t e = tells_some q n t (sym e)

-- the service that was found in the list, and its inbox
pub here_ahead : {A M : Type 0} (way : Way M) (f : A → M) (services : List (Service A)) (p : Spots) (due : List (Handle × Session)) (h : Handle) (before : Service A) (i : InboxState)
    → 0 < h.0 → h.0 ≤ length services → h.0 ≤ length p.inboxes → before ≡ get_or services (h.0 - 1) before → i ≡ get_or p.inboxes (h.0 - 1) i
    → Tells way (over f (with_spots services p due)) h (service_ahead way (length p.inboxes) h i (service_over f before))
here_ahead way f services p due h before i given within room is inbox =
    serves_ahead way (over f (with_spots services p due)) h (service_over f before) i
    (agent_serves (over f (with_spots services p due)) h (service_over f before) given (seen (service_over f) services h.0 before given is within)) (inbox_there p.inboxes h.0 i given room inbox)

-- a handle that was never given
pub beyond : {A M : Type 0} (way : Way M) (f : A → M) (services : List (Service A)) (p : Spots) (due : List (Handle × Session)) (h : Handle) → 0 < h.0 → length services < h.0 → act way (over f (with_spots services p due)) h ≡ None
beyond way f services p due h given past =
    let long : length (map (service_over f) services) ≤ h.0 - 1 = omega (arith, map_len (service_over f) services, past) in
    let ne : (h.0 == 0) ≡ false = grind (arith, nat_tests) in
    let nobody : at (map (service_over f) services) h.0 ≡ None = at_given (map (service_over f) services) h.0 given ∙ slice_get_past (map (service_over f) services) (h.0 - 1) long in
    act_nobody way (over f (with_spots services p due)) h (ap (agent_or_clock due (at (map (service_over f) services) h.0)) ne ∙ ap serves nobody)

-- the first timer that is due
pub fire_tells : {S : Type 0} (way : Way S) (w : World S) (h : Handle) (x : Session) → FirstDue w.due h x → Tells way w clock_agent (given_ahead (length w.inboxes) h 0)
fire_tells {S = S} way w h x first = go w.due refl first where
  go : (due : List (Handle × Session)) → w.due ≡ due → FirstDue due h x → Tells way w clock_agent (given_ahead (length w.inboxes) h 0)
  go [] is f = absurd f
  go (d ∷ ds) is f = to (has_inbox (length w.inboxes) h) refl where
    there : agent w clock_agent ≡ Some (Times (d ∷ ds))
    there = ap (λ z. Some (Times z)) is

    may : ops way (Times (d ∷ ds)) ≡ Fires h (timer_message d.1) ∷ []
    may = ap (λ g. Fires g (timer_message d.1) ∷ []) f.0

    to : (b : Bool) → has_inbox (length w.inboxes) h ≡ b → Tells way w clock_agent (if b then Some 0 else None)
    to true has =
        let i = there_is w.inboxes h has in
        only way w clock_agent (Times (d ∷ ds)) (Fires h (timer_message d.1)) (AtInbox i.0) ((fire h (timer_message d.1) i.0).0, AtInbox (fire h (timer_message d.1) i.0).1) 0 there may (ap inbox_state i.1) refl refl refl
    to false has = acts_not (act_none way w clock_agent (Times (d ∷ ds)) (Fires h (timer_message d.1)) there may (ap (λ q. answer_at way clock_agent (Fires h (timer_message d.1)) (inbox_state q)) (there_not w.inboxes h has)))

-- a tick of the clock
tick_there : {S : Type 0} (w : World S) → w.due ≡ [] → agent w clock_agent ≡ Some (Times [])
tick_there w none = ap (λ z. Some (Times z)) none

pub tick_tells : {S : Type 0} (way : Way S) (w : World S) → w.due ≡ [] → 0 < length w.clock.timers → w.clock.now < last_tick → IsAhead way w clock_agent true 0
tick_tells way w none some early =
    let c = w.clock in
    let can : does way clock_agent Ticks (AtClock w.clock) ≡ Some (did.Tick (due_at (c.now + 1) c.timers), AtClock (ticked c)) = ap (with_state AtClock) (ticks_can c c.timers some early) in
    record {
      what = did.Tick (due_at (c.now + 1) c.timers);
      after = left_by way w clock_agent (Times []) (place_of clock_agent Ticks) (did.Tick (due_at (c.now + 1) c.timers), AtClock (ticked c));
      acts = act_first way w clock_agent (Times []) Ticks [] (AtClock c) (did.Tick (due_at (c.now + 1) c.timers), AtClock (ticked c)) (tick_there w none) refl refl can;
      tick_is = refl;
      weight_is = refl;
    }

pub tick_not : {S : Type 0} (way : Way S) (w : World S) → w.due ≡ [] → tick w.clock w.clock.timers ≡ None → act way w clock_agent ≡ None
tick_not way w none bar = act_none way w clock_agent (Times []) Ticks (tick_there w none) refl (ap (with_state AtClock) bar)

pub tick_empty : (c : Clock) (ts : List Timer) → length ts ≡ 0 → tick c ts ≡ None
tick_empty c [] e = refl
tick_empty c (t ∷ ts) e = absurd (omega (arith, e))

pub tick_late : (c : Clock) (ts : List Timer) → last_tick ≤ c.now → tick c ts ≡ None
tick_late c [] late = refl
tick_late c (t ∷ ts) late = let e : nat_lt c.now last_tick ≡ false = grind (arith, nat_tests, late) in rw e refl
