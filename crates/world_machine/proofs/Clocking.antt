-- Agent 0 fires the first timer that is due, or the clock goes on by a tick.
use Rattle.std.proofs.Common.{◌≡◌, ◌<◌, ◌+◌, nat_lt, true, List, [], ◌∷◌, ◌++◌, length, Option, Some, None, drop, refl, ap, sym, ◌∙◌, subst, arith}
use Rattle.std.proofs.lemmas.Bool.Decides.{nat_tests}
use Rattle.sk_types.specs.declared.number.Handle.{Handle}
use Rattle.sk_types.specs.declared.number.Session.{Session}
use Rattle.message.specs.Actors.{Way}
use Rattle.message.specs.Messages.{timer_message}
use Rattle.message.specs.Inboxes.{fire}
use Rattle.message.specs.Registries.{at}
use Rattle.message.specs.Clocks.{Clock, tick, ticked, due_at, last_tick}
use Rattle.message.specs.Steps.{Ticks, Fires, Times, ops, does, AtInbox, AtClock, with_state}
use Rattle.message.specs.Worlds.{inbox_state, act, answer_at}
use Rattle.message.proofs.Acts.{act_first, act_none}
use Rattle.message.specs.declared.place.Timer.{Timer}
use Rattle.message.specs.declared.place.InboxState.{InboxState}
use Rattle.message.specs.declared.place.Service.{Service}
use Rattle.message.specs.declared.record.What.TheVariants as did
use Rattle.world_machine.specs.Spots.{Spots, with_spots, in_inbox, in_inbox_of, Leaves}
use Rattle.world_machine.specs.Machines.{Did}
use Rattle.world_machine.specs.Launching.{FirstDue, clock_agent}

fires_message : {S : Type 0} (way : Way S) (d : Handle × Session) (ds : List (Handle × Session)) (h : Handle) (x : Session) → d.0 ≡ h → d.1 ≡ x → ops way (Times (d ∷ ds)) ≡ Fires h (timer_message x) ∷ []
fires_message way d ds h x e e2 = ap (λ g. Fires g (timer_message d.1) ∷ []) e ∙ ap (λ y. Fires h (timer_message y) ∷ []) e2

-- the first timer that is due is fired
pub fires_did : {S : Type 0} (way : Way S) (all : List (Service S)) (p p2 : Spots) (due more : List (Handle × Session)) (h : Handle) (x : Session)
    → FirstDue due h x → (d : Handle × Session) → due ≡ d ∷ more → Leaves (in_inbox p h.0 (λ i. fire h (timer_message x) i)) p2
    → Did way (with_spots all p due) clock_agent None (with_spots all p2 more)
fires_did {S = S} way all p p2 due more h x first d is l =
    let first2 : FirstDue (d ∷ more) h x = subst (λ z. FirstDue z h x) is first in
    subst (λ z. Did way (with_spots all p z) clock_agent None (with_spots all p2 more)) (sym is) (go first2 (at p.inboxes h.0) refl l) where
      go : FirstDue (d ∷ more) h x → (q : Option InboxState) → at p.inboxes h.0 ≡ q → Leaves (in_inbox_of p h.0 q (λ i. fire h (timer_message x) i)) p2 → Did way (with_spots all p (d ∷ more)) clock_agent None (with_spots all p2 more)
      go f None here k = absurd k
      go f (Some i) here k =
          let a = act_first way (with_spots all p (d ∷ more)) clock_agent (Times (d ∷ more)) (Fires h (timer_message x)) [] (AtInbox i) ((fire h (timer_message x) i).0, AtInbox (fire h (timer_message x) i).1) refl (fires_message way d more h x f.0 f.1) (ap inbox_state here) refl in
          ((fire h (timer_message x) i).0, a ∙ ap (λ q. Some ((fire h (timer_message x) i).0, with_spots all q more)) k, refl)

pub fires_popped : {S : Type 0} (way : Way S) (all : List (Service S)) (p p2 : Spots) (due more : List (Handle × Session)) (h : Handle) (x : Session)
    → FirstDue due h x → more ≡ drop 1 due → Leaves (in_inbox p h.0 (λ i. fire h (timer_message x) i)) p2
    → Did way (with_spots all p due) clock_agent None (with_spots all p2 more)
fires_popped way all p p2 [] more h x first popped l = absurd first
fires_popped way all p p2 (d ∷ ds) more h x first popped l = fires_did way all p p2 (d ∷ ds) more h x first d (ap (λ z. d ∷ z) (sym popped)) l

-- its handle was never given
pub fires_not : {S : Type 0} (way : Way S) (all : List (Service S)) (p : Spots) (due : List (Handle × Session)) (h : Handle) (x : Session)
    → FirstDue due h x → in_inbox p h.0 (λ i. fire h (timer_message x) i) ≡ None → act way (with_spots all p due) clock_agent ≡ None
fires_not way all p [] h x first bar = absurd first
fires_not {S = S} way all p (d ∷ more) h x first bar = go (at p.inboxes h.0) refl bar where
  go : (q : Option InboxState) → at p.inboxes h.0 ≡ q → in_inbox_of p h.0 q (λ i. fire h (timer_message x) i) ≡ None → act way (with_spots all p (d ∷ more)) clock_agent ≡ None
  go None here k = act_none way (with_spots all p (d ∷ more)) clock_agent (Times (d ∷ more)) (Fires h (timer_message x)) refl (fires_message way d more h x first.0 first.1) (ap (λ q. answer_at way clock_agent (Fires h (timer_message x)) (inbox_state q)) here)
  go (Some i) here k = absurd (cc)

-- the clock goes on while a timer waits and it is not at its end
pub ticks_can : (c : Clock) (ts : List Timer) → 0 < length ts → c.now < last_tick → tick c ts ≡ Some (did.Tick (due_at (c.now + 1) c.timers), ticked c)
ticks_can c [] some early = absurd (omega (arith, some))
ticks_can c (t ∷ ts) some early = let e : nat_lt c.now last_tick ≡ true = grind (arith, nat_tests, early) in rw e refl

pub ticks_did : {S : Type 0} (way : Way S) (all : List (Service S)) (p : Spots) (c2 : Clock) (due more : List (Handle × Session))
    → due ≡ [] → 0 < length p.clock.timers → p.clock.now < last_tick → c2 ≡ ticked p.clock → more ≡ due ++ due_at (p.clock.now + 1) p.clock.timers
    → Did way (with_spots all p due) clock_agent None (with_spots all (record { inboxes = p.inboxes; registry = p.registry; clock = c2 }) more)
ticks_did {S = S} way all p c2 due more none some early on is =
    let out = due_at (p.clock.now + 1) p.clock.timers in
    let same : out ≡ more = sym (is ∙ ap (λ z. z ++ out) none) in
    let can : does way clock_agent Ticks (AtClock p.clock) ≡ Some (did.Tick out, AtClock (ticked p.clock)) = ap (with_state AtClock) (ticks_can p.clock p.clock.timers some early) in
    let a = act_first way (with_spots all p []) clock_agent (Times []) Ticks [] (AtClock p.clock) (did.Tick out, AtClock (ticked p.clock)) refl refl refl can in
    let whole : Did way (with_spots all p []) clock_agent None (with_spots all (record { inboxes = p.inboxes; registry = p.registry; clock = c2 }) more) =
    (did.Tick out, a ∙ (ap (λ z. Some (did.Tick out, with_spots all (record { inboxes = p.inboxes; registry = p.registry; clock = ticked p.clock }) z)) same ∙ ap (λ (z : Clock). Some (did.Tick out, with_spots all (record { inboxes = p.inboxes; registry = p.registry; clock = z }) more)) (sym on)), refl) in
    subst (λ z. Did way (with_spots all p z) clock_agent None (with_spots all (record { inboxes = p.inboxes; registry = p.registry; clock = c2 }) more)) (sym none) whole
