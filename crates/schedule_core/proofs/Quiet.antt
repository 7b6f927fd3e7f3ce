-- Where no turn is queued or in a hand and the clock has nothing to do, nobody has.
use Rattle.std.proofs.Common.{◌⊎◌, inl, inr, ◌≡◌, ◌≢◌, ◌<◌, ◌+◌, ◌==◌, nat_lt, Bool, true, false, List, [], ◌∷◌, length, Option, Some, None, if◌then◌else◌, refl, ap, sym, ◌∙◌, arith}
use Rattle.std.proofs.lemmas.Bool.Decides.{nat_tests}
use Rattle.message.specs.Messages.{timer_message}
use Rattle.message.specs.Actors.{Way}
use Rattle.message.specs.Inboxes.{take_first, end, fire}
use Rattle.message.specs.Registries.{at}
use Rattle.message.specs.Clocks.{tick, ticked, due_at, last_tick}
use Rattle.message.specs.Steps.{Takes, Ends, Ticks, Fires, Serves, Times, next_ops, bounce_ops, due_ops, AtInbox, AtClock, with_state}
use Rattle.message.specs.Worlds.{World, agent, agent_or_clock, serves, act, inbox_state, answer_at}
use Rattle.message.proofs.Acts.{act_first, act_neither, act_nothing, act_nobody}
use Rattle.sk_types.specs.declared.number.Handle.{Handle}
use Rattle.sk_types.specs.declared.number.Session.{Session}
use Rattle.message.specs.declared.record.What.TheVariants as did
use Rattle.message.specs.declared.place.Timer.{Timer}
use Rattle.message.specs.declared.place.InboxStatus.TheVariants.{Live}
use Rattle.message.specs.declared.place.InboxState.{InboxState}
use Rattle.message.specs.declared.place.Service.{Service}
use Rattle.message.specs.declared.place.Service.TheVariants.{Serving, Leaving}
use Rattle.world_machine.specs.Serving.{IsIdle}
use Rattle.world_machine.specs.Launching.{clock_agent}
use Rattle.world_machine.proofs.Asking.{agent_serves}
use Rattle.call_fates.proofs.Lists.{handle_is, at_some}
use Rattle.schedule_core.specs.declared.spot.Spot.{Spot}
use Rattle.schedule_core.specs.declared.spot.Spot.TheVariants.{Home, Queued, Hand, Spent}
use Rattle.schedule_core.specs.Turns.{queued, in_queue, in_hand}
use Rattle.schedule_core.specs.Levels.{Levels, IsOver, CellOk, HasTurns, HasTimers, DueIn}
use Rattle.schedule_core.specs.Laws.{IsQuiet, QuietIsDrained}
use Rattle.schedule_core.proofs.Lists.{at_both, at_neither}
use Rattle.schedule_core.proofs.Counts.{none_handed}
use Rattle.schedule_core.proofs.Cells.{at_home}

-- an idle service before an empty, live inbox
idle_rests : {S : Type 0} (way : Way S) (w : World S) (h : Handle) (x : Service S) (i : InboxState) → agent w h ≡ Some (Serves x) → at w.inboxes h.0 ≡ Some i → IsIdle way x → i.status ≡ Live → i.waiting ≡ [] → act way w h ≡ None
idle_rests way w h (Leaving e) i there found idle live empty = absurd idle
idle_rests way w h (Serving s) i there found idle live empty =
    act_neither way w h (Serves (Serving s)) Ends Takes there (ap next_ops idle)
    (ap (λ q. answer_at way h Ends (inbox_state q)) found ∙ ap (λ s2. with_state AtInbox (end s2 i.waiting)) live)
    (ap (λ q. answer_at way h Takes (inbox_state q)) found ∙ (ap (λ s2. with_state AtInbox (take_first s2 i.waiting)) live ∙ ap (λ ms. with_state AtInbox (take_first Live ms)) empty))

over_rests : {S : Type 0} (way : Way S) (w : World S) (h : Handle) (x : Service S) → agent w h ≡ Some (Serves x) → IsOver x → act way w h ≡ None
over_rests way w h (Serving s) there over = absurd over
over_rests way w h (Leaving e) there over = act_nothing way w h (Serves (Leaving e)) there (ap (bounce_ops e.own e.found) over)

some_none : {X : Type 0} (x : X) → Some x ≢ None
some_none x e = cc

module _ {S : Type 0} (way : Way S) (c : Levels S) (two : HasTurns way c) (timers : HasTimers c.world) (quiet : IsQuiet way c) where
  abbrev w : World S
  w = c.world

  not_queued : (h : Handle) → at c.turns.spots h.0 ≡ Some Queued → ⊥
  not_queued h e = omega (arith, two.placed.queue h, ap in_queue e, ap (queued h) quiet.queue)

  not_held : (h : Handle) → at c.turns.spots h.0 ≡ Some Hand → ⊥
  not_held h e = omega (arith, two.placed.hands h, ap in_hand e, none_handed h c.turns.hands quiet.hands)

  -- a service
  rests : (h : Handle) → 0 < h.0 → act way w h ≡ None
  rests h big = go (at c.turns.spots h.0) refl where
    no_zero : (h.0 == 0) ≡ false
    no_zero = grind (arith, nat_tests)

    is_some : (spot : Spot) → at c.turns.spots h.0 ≡ Some spot → act way w h ≡ None
    is_some spot e =
        let x = at_both c.turns.spots w.services h.0 spot (sym two.services) e in
        let i = at_both c.turns.spots w.inboxes h.0 spot (sym two.inboxes) e in
        by_spot spot e x.0 i.0 x.1 i.1 (two.cells h x.0 i.0 spot x.1 i.1 e) where
          by_spot : (spot : Spot) → at c.turns.spots h.0 ≡ Some spot → (x : Service S) (i : InboxState) → at w.services h.0 ≡ Some x → at w.inboxes h.0 ≡ Some i → CellOk way x i spot → act way w h ≡ None
          by_spot Home e x i there found ok = let k = at_home way x i ok in idle_rests way w h x i (agent_serves w h x big there) found k.0 k.1 k.2
          by_spot Queued e x i there found ok = absurd (not_queued h e)
          by_spot Hand e x i there found ok = absurd (not_held h e)
          by_spot Spent e x i there found ok = over_rests way w h x (agent_serves w h x big there) (ok.spent refl)

    go : (q : Option Spot) → at c.turns.spots h.0 ≡ q → act way w h ≡ None
    go None e =
        let none : at w.services h.0 ≡ None = at_neither c.turns.spots w.services h.0 (sym two.services) e in
        act_nobody way w h (ap (agent_or_clock w.due (at w.services h.0)) no_zero ∙ ap serves none)
    go (Some spot) e = is_some spot e

  still : (h : Handle) → act way w h ≡ None
  still h = go (h.0 == 0) refl where
    go : (b : Bool) → (h.0 == 0) ≡ b → act way w h ≡ None
    go true e = let zero : h.0 ≡ 0 = grind (arith, nat_tests) in ap (act way w) (handle_is h clock_agent zero) ∙ quiet.clock
    go false e = rests h (grind (arith, nat_tests))

  none_due : w.due ≡ []
  none_due = go w.due refl timers.due where
    go : (ds : List (Handle × Session)) → w.due ≡ ds → DueIn (length w.inboxes) ds → w.due ≡ []
    go [] e all = e
    go (d ∷ ds) e all =
        let i = at_some w.inboxes d.0.0 all.0.0 all.0.1 in
        let fires = act_first way w clock_agent (Times w.due) (Fires d.0 (timer_message d.1)) [] (AtInbox i.0) ((fire d.0 (timer_message d.1) i.0).0, AtInbox (fire d.0 (timer_message d.1) i.0).1)
        refl (ap due_ops e) (ap inbox_state i.1) refl in
        absurd (some_none _ (sym fires ∙ quiet.clock))

  none_wait : w.clock.timers ≡ []
  none_wait = by quiet.early where
    ticks : w.clock.now < last_tick → (ts : List Timer) → w.clock.timers ≡ ts → w.clock.timers ≡ []
    ticks early [] e = e
    ticks early (t ∷ ts) e =
        let yes : nat_lt w.clock.now last_tick ≡ true = grind (arith, nat_tests) in
        let can : tick w.clock w.clock.timers ≡ Some (did.Tick (due_at (w.clock.now + 1) w.clock.timers), ticked w.clock) =
        ap (tick w.clock) e ∙ ap (λ b. if b then Some (did.Tick (due_at (w.clock.now + 1) w.clock.timers), ticked w.clock) else None) yes in
        let acts = act_first way w clock_agent (Times w.due) Ticks [] (AtClock w.clock) (did.Tick (due_at (w.clock.now + 1) w.clock.timers), AtClock (ticked w.clock))
        refl (ap due_ops none_due) refl (ap (with_state AtClock) can) in
        absurd (some_none _ (sym acts ∙ quiet.clock))

    by : ((w.clock.timers ≡ []) ⊎ (w.clock.now < last_tick)) → w.clock.timers ≡ []
    by (inl e) = e
    by (inr early) = ticks early w.clock.timers refl

pub quiet_drained : {S : Type 0} (way : Way S) → QuietIsDrained way
quiet_drained way c two quiet = record { still = still way c two.turns two.timers quiet; timers = none_wait way c two.turns two.timers quiet; due = none_due way c two.turns two.timers quiet }
