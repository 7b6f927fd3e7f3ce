-- What an act does to a service, its inbox and its turn, part by part.
use Rattle.std.proofs.Common.{◌⊎◌, inl, inr, ◌≡◌, ◌≢◌, ◌<◌, ◌+◌, ◌-◌, true, List, [], ◌∷◌, ◌++◌, length, Option, Some, None, if◌then◌else◌, refl, ap, sym, ◌∙◌, subst, length-append, length-set}
use Rattle.sk_types.specs.declared.number.Handle.{Handle}
use Rattle.message.specs.Actors.{Way}
use Rattle.message.specs.Inboxes.{accepts, added, marked, put, fire, mark, take_first, end}
use Rattle.message.specs.Registries.{at, set_at}
use Rattle.message.specs.Steps.{Asks, Takes, Ends, Fires, inbox_does}
use Rattle.message.specs.declared.request.Message.{Message}
use Rattle.message.specs.declared.request.Next.TheVariants.{Idle}
use Rattle.message.specs.declared.request.Request.TheVariants as ask
use Rattle.message.specs.declared.record.What.{What}
use Rattle.message.specs.declared.record.What.TheVariants as did
use Rattle.message.specs.declared.place.InboxStatus.{InboxStatus}
use Rattle.message.specs.declared.place.InboxStatus.TheVariants.{Live, Closing, Gone}
use Rattle.message.specs.declared.place.InboxState.{InboxState}
use Rattle.message.specs.declared.place.Service.{Service}
use Rattle.message.specs.declared.place.Service.TheVariants.{Serving, Leaving}
use Rattle.world_machine.specs.Serving.{IsIdle, IsLeaving}
use Rattle.call_fates.proofs.Lists.{at_is, at_here, at_last, at_set}
use Rattle.schedule_core.specs.declared.spot.Spot.{Spot}
use Rattle.schedule_core.specs.declared.spot.Spot.TheVariants.{Home, Queued, Hand, Spent}
use Rattle.schedule_core.specs.Turns.{Turns, ArePlaced, woken, wake, joined}
use Rattle.schedule_core.specs.Levels.{Levels, IsOver, IsAway, IsOut, HasWork, CellOk, HasTurns}
use Rattle.schedule_core.proofs.Lists.{same_or, at_other, at_pushed}
use Rattle.schedule_core.proofs.Placed.{wake_placed, joined_placed}

pub over_leaves : {S : Type 0} (x : Service S) → IsOver x → IsLeaving x
over_leaves (Serving s) o = o
over_leaves (Leaving e) o = tt

pub idle_stays : {S : Type 0} (way : Way S) (x : Service S) → IsIdle way x → IsLeaving x → ⊥
idle_stays way (Serving s) idle l = l
idle_stays way (Leaving e) idle l = idle

pub some_is : {X : Type 0} (x y : X) (o : Option X) → o ≡ Some x → o ≡ Some y → x ≡ y
some_is x y o e f = cc

-- THE INBOX

live_gone : Live ≢ Gone
live_gone e = cc

closing_gone : Closing ≢ Gone
closing_gone e = cc

-- an operation other than an End leaves a gone inbox as it is, and makes none gone
pub record Changes (i i2 : InboxState) : Type 0 where
  pub keeps : i.status ≡ Gone → i2 ≡ i
  pub stays : i2.status ≡ Gone → i.status ≡ Gone

changed_to : (i i2 i3 : InboxState) → i2 ≡ i3 → Changes i i2 → Changes i i3
changed_to i i2 i3 e c = subst (λ (z : InboxState). Changes i z) e c

add_changes : (i : InboxState) (m : Message) → Changes i (added i m)
add_changes i m = go i.status refl where
  lies : (s : InboxStatus) → i.status ≡ s → accepts s ≡ true → (s ≡ Gone → ⊥) → Changes i (added i m)
  lies s e takes stays =
      let same : added i m ≡ record { status = i.status; waiting = i.waiting ++ m ∷ [] } = ap (λ b. if b then record { status = i.status; waiting = i.waiting ++ m ∷ [] } else i) (ap accepts e ∙ takes) in
      record { keeps = λ g. absurd (stays (sym e ∙ g)); stays = λ g. sym (ap (λ (z : InboxState). z.status) same) ∙ g }

  go : (s : InboxStatus) → i.status ≡ s → Changes i (added i m)
  go Live e = lies Live e refl (λ g. cc)
  go Closing e = lies Closing e refl (λ g. cc)
  go Gone e =
      let same : added i m ≡ i = ap (λ b. if b then record { status = i.status; waiting = i.waiting ++ m ∷ [] } else i) (ap accepts e) in
      record { keeps = λ g. same; stays = λ g. e }

queued_spent : Queued ≢ Spent
queued_spent e = cc

hand_spent : Hand ≢ Spent
hand_spent e = cc

queued_home : Queued ≢ Home
queued_home e = cc

hand_home : Hand ≢ Home
hand_home e = cc

spent_home : Spent ≢ Home
spent_home e = cc

none_some : (s : Spot) → None ≢ Some s
none_some s e = cc

abbrev pub live_with : List Message → InboxState
live_with ms = record { status = Live; waiting = ms }

abbrev gone_empty : InboxState
gone_empty = record { status = Gone; waiting = [] }

abbrev set_status : InboxState → InboxStatus → InboxState
set_status i s = record { status = s; waiting = i.waiting }

mark_changes : (i : InboxState) → Changes i (record { status = marked i.status; waiting = i.waiting })
mark_changes i = go i.status refl where
  go : (s : InboxStatus) → i.status ≡ s → Changes i (record { status = marked i.status; waiting = i.waiting })
  go Live e = record { keeps = λ g. absurd (live_gone (sym e ∙ g)); stays = λ g. absurd (closing_gone (sym (ap marked e) ∙ g)) }
  go Closing e = record { keeps = λ g. absurd (closing_gone (sym e ∙ g)); stays = λ g. absurd (closing_gone (sym (ap marked e) ∙ g)) }
  go Gone e = record { keeps = λ g. ap (λ s. set_status i s) (ap marked e ∙ sym e); stays = λ g. e }

take_changes : (i : InboxState) (what : What) (i2 : InboxState) → take_first i.status i.waiting ≡ Some (what, i2) → Changes i i2
take_changes i what i2 e = go i.status i.waiting refl e where
  go : (s : InboxStatus) (ms : List Message) → i.status ≡ s → take_first s ms ≡ Some (what, i2) → Changes i i2
  go Live [] k f = absurd (cc)
  go Live (m ∷ ms) k f =
      let same : (did.Take m (length ms), live_with ms) ≡ (what, i2) = cc in
      let after : live_with ms ≡ i2 = ap (λ (z : What × InboxState). z.1) same in
      record { keeps = λ g. absurd (live_gone (sym k ∙ g)); stays = λ g. absurd (live_gone (ap (λ (z : InboxState). z.status) after ∙ g)) }
  go Closing ms k f = absurd (cc)
  go Gone ms k f = absurd (cc)

-- what is put, marked, fired or taken changes an inbox so
pub put_changes : (to : Handle) (m : Message) (what : What) (i i2 : InboxState) → inbox_does (Asks (ask.Put to m)) i ≡ Some (what, i2) → Changes i i2
put_changes to m what i i2 e =
    let same : put to m i ≡ (what, i2) = cc in
    changed_to i (added i m) i2 (ap (λ (z : What × InboxState). z.1) same) (add_changes i m)

pub fire_changes : (to : Handle) (m : Message) (what : What) (i i2 : InboxState) → inbox_does (Fires to m) i ≡ Some (what, i2) → Changes i i2
fire_changes to m what i i2 e =
    let same : fire to m i ≡ (what, i2) = cc in
    changed_to i (added i m) i2 (ap (λ (z : What × InboxState). z.1) same) (add_changes i m)

pub mark_does : (to : Handle) (what : What) (i i2 : InboxState) → inbox_does (Asks (ask.Mark to)) i ≡ Some (what, i2) → Changes i i2
mark_does to what i i2 e =
    let same : mark to i ≡ (what, i2) = cc in
    changed_to i (set_status i (marked i.status)) i2 (ap (λ (z : What × InboxState). z.1) same) (mark_changes i)

pub take_does : (what : What) (i i2 : InboxState) → inbox_does Takes i ≡ Some (what, i2) → Changes i i2
take_does what i i2 e = take_changes i what i2 e

-- an End leaves it gone and empty
pub end_does : (what : What) (i i2 : InboxState) → inbox_does Ends i ≡ Some (what, i2) → (i2.status ≡ Gone) × (i2.waiting ≡ [])
end_does what i i2 e = go i.status i.waiting e where
  go : (s : InboxStatus) (ms : List Message) → end s ms ≡ Some (what, i2) → (i2.status ≡ Gone) × (i2.waiting ≡ [])
  go Live ms f = absurd (cc)
  go Closing ms f =
      let same : (did.End ms, gone_empty) ≡ (what, i2) = cc in
      let after : gone_empty ≡ i2 = ap (λ (z : What × InboxState). z.1) same in
      (sym (ap (λ (z : InboxState). z.status) after), sym (ap (λ (z : InboxState). z.waiting) after))
  go Gone ms f = absurd (cc)

-- ONE CELL

no_work : (s : InboxStatus) (ms : List Message) → s ≡ Gone → HasWork s ms → ⊥
no_work s ms e w = subst (λ z. HasWork z ms) e w

-- the inbox of a turn that is not at home changes
cell_changed : {S : Type 0} (way : Way S) (x : Service S) (i i2 : InboxState) (spot : Spot) → spot ≢ Home → Changes i i2 → CellOk way x i spot → CellOk way x i2 spot
cell_changed way x i i2 spot away c ok = record {
  idle = ok.idle;
  work = λ w. go spot refl w;
  gone = λ e. ok.gone (c.stays e);
  left = λ l. ap (λ (z : InboxState). z.status) (c.keeps (ok.left l)) ∙ ok.left l;
  clear = λ e. subst (λ (z : InboxState). (z.waiting ≡ []) × IsOut spot) (sym (c.keeps (c.stays e))) (ok.clear (c.stays e));
  spent = ok.spent;
} where
  go : (s : Spot) → spot ≡ s → HasWork i2.status i2.waiting → IsAway spot
  go Home e w = absurd (away e)
  go Queued e w = subst IsAway (sym e) tt
  go Hand e w = subst IsAway (sym e) tt
  go Spent e w =
      let gone : i.status ≡ Gone = ok.left (over_leaves x (ok.spent e)) in
      absurd (no_work i2.status i2.waiting (ap (λ (z : InboxState). z.status) (c.keeps gone) ∙ gone) w)

-- that of a turn at home changes, and the turn is woken
cell_woken : {S : Type 0} (way : Way S) (x : Service S) (i i2 : InboxState) → Changes i i2 → CellOk way x i Home → CellOk way x i2 Queued
cell_woken way x i i2 c ok = record {
  idle = λ q. ok.idle tt;
  work = λ w. tt;
  gone = λ e. ok.gone (c.stays e);
  left = λ l. ap (λ (z : InboxState). z.status) (c.keeps (ok.left l)) ∙ ok.left l;
  clear = λ e. absurd (ok.clear (c.stays e)).1;
  spent = λ e. absurd (queued_spent e);
}

-- a service whose turn is in a hand goes on
cell_serves : {S : Type 0} (way : Way S) (x x2 : Service S) (i : InboxState) → (IsLeaving x → IsLeaving x2) → (IsLeaving x2 → IsLeaving x) → CellOk way x i Hand → CellOk way x2 i Hand
cell_serves way x x2 i on back ok = record {
  idle = λ q. absurd q;
  work = λ w. tt;
  gone = λ e. on (ok.gone e);
  left = λ l. ok.left (back l);
  clear = ok.clear;
  spent = λ e. absurd (hand_spent e);
}

-- and ends
cell_ends : {S : Type 0} (way : Way S) (x2 : Service S) (i2 : InboxState) → IsLeaving x2 → i2.status ≡ Gone → i2.waiting ≡ [] → CellOk way x2 i2 Hand
cell_ends way x2 i2 l gone empty = record {
  idle = λ q. absurd q;
  work = λ w. tt;
  gone = λ e. l;
  left = λ k. gone;
  clear = λ e. (empty, tt);
  spent = λ e. absurd (hand_spent e);
}

-- a new one is queued, whatever messages wait for it
cell_new : {S : Type 0} (way : Way S) (s : S) (ms : List Message) → way.next s ≡ Idle → CellOk way (Serving s) (live_with ms) Queued
cell_new way s ms idle = record {
  idle = λ q. idle;
  work = λ w. tt;
  gone = λ e. live_gone e;
  left = λ l. absurd l;
  clear = λ e. absurd (live_gone e);
  spent = λ e. absurd (queued_spent e);
}

-- ALL CELLS

-- the two levels, without the registry
pub record Mid {S : Type 0} (way : Way S) (ss : List (Service S)) (is : List InboxState) (t : Turns) : Type 0 where
  pub placed : ArePlaced t
  pub cells : (g : Handle) (x : Service S) (i : InboxState) (spot : Spot) → at ss g.0 ≡ Some x → at is g.0 ≡ Some i → at t.spots g.0 ≡ Some spot → CellOk way x i spot
  pub services : length ss ≡ length t.spots
  pub inboxes : length is ≡ length t.spots

pub mid_of : {S : Type 0} (way : Way S) (c : Levels S) → HasTurns way c → Mid way c.world.services c.world.inboxes c.turns
mid_of way c two = record { placed = two.placed; cells = two.cells; services = two.services; inboxes = two.inboxes }

cell_at : {S : Type 0} (way : Way S) (x y : Service S) (i j : InboxState) (p q : Spot) → x ≡ y → i ≡ j → p ≡ q → CellOk way x i p → CellOk way y j q
cell_at {S = S} way x y i j p q e f g ok = subst (λ z. CellOk way y j z) g (subst (λ (z : InboxState). CellOk way y z p) f (subst (λ (z : Service S). CellOk way z i p) e ok))

module _ {S : Type 0} (way : Way S) (ss : List (Service S)) (is : List InboxState) (t : Turns) (mid : Mid way ss is t) where
  pub serves : (h : Handle) (x x2 : Service S) → at ss h.0 ≡ Some x → at t.spots h.0 ≡ Some Hand → (IsLeaving x → IsLeaving x2) → (IsLeaving x2 → IsLeaving x) → Mid way (set_at ss h.0 x2) is t
  serves h x x2 there held on back = record {
    placed = mid.placed;
    cells = λ g y i spot e1 e2 e3. go g y i spot e2 e3 (at_set ss h.0 g.0 x2 y (at_is ss h.0 x there).0 e1);
    services = length-set ss (h.0 - 1) x2 ∙ mid.services;
    inboxes = mid.inboxes;
  } where
    go : (g : Handle) (y : Service S) (i : InboxState) (spot : Spot) → at is g.0 ≡ Some i → at t.spots g.0 ≡ Some spot → (((g.0 ≡ h.0) × (y ≡ x2)) ⊎ (at ss g.0 ≡ Some y)) → CellOk way y i spot
    go g y i spot e2 e3 (inr e1) = mid.cells g y i spot e1 e2 e3
    go g y i spot e2 e3 (inl p) =
        let here : at t.spots g.0 ≡ Some Hand = ap (at t.spots) p.0 ∙ held in
        let is_hand : Hand ≡ spot = some_is Hand spot (at t.spots g.0) here e3 in
        let old : CellOk way x i Hand = mid.cells g x i Hand (ap (at ss) p.0 ∙ there) e2 here in
        cell_at way x2 y i i Hand spot (sym p.1) refl is_hand (cell_serves way x x2 i on back old)

  pub ends : (h : Handle) (x x2 : Service S) (i i2 : InboxState) → at ss h.0 ≡ Some x → at is h.0 ≡ Some i → at t.spots h.0 ≡ Some Hand → IsLeaving x2 → i2.status ≡ Gone → i2.waiting ≡ [] → Mid way (set_at ss h.0 x2) (set_at is h.0 i2) t
  ends h x x2 i i2 there found held l gone empty = record {
    placed = mid.placed;
    cells = λ g y j spot e1 e2 e3. go g y j spot e1 e2 e3 (same_or g.0 h.0);
    services = length-set ss (h.0 - 1) x2 ∙ mid.services;
    inboxes = length-set is (h.0 - 1) i2 ∙ mid.inboxes;
  } where
    big : 0 < h.0
    big = (at_is ss h.0 x there).0

    go : (g : Handle) (y : Service S) (j : InboxState) (spot : Spot) → at (set_at ss h.0 x2) g.0 ≡ Some y → at (set_at is h.0 i2) g.0 ≡ Some j → at t.spots g.0 ≡ Some spot → ((g.0 ≡ h.0) ⊎ (g.0 ≢ h.0)) → CellOk way y j spot
    go g y j spot e1 e2 e3 (inl e) = cell_at way x2 y i2 j Hand spot
        (some_is x2 y (at (set_at ss h.0 x2) g.0) (ap (at (set_at ss h.0 x2)) e ∙ at_here ss h.0 x2 x there) e1)
        (some_is i2 j (at (set_at is h.0 i2) g.0) (ap (at (set_at is h.0 i2)) e ∙ at_here is h.0 i2 i found) e2)
        (some_is Hand spot (at t.spots g.0) (ap (at t.spots) e ∙ held) e3)
        (cell_ends way x2 i2 l gone empty)
    go g y j spot e1 e2 e3 (inr ne) = mid.cells g y j spot (sym (at_other ss h.0 g.0 x2 big ne) ∙ e1) (sym (at_other is h.0 g.0 i2 big ne) ∙ e2) e3

  -- an inbox changes whose turn is not at home
  changes : (to : Handle) (i i2 : InboxState) → at is to.0 ≡ Some i → Changes i i2 → ((spot : Spot) → at t.spots to.0 ≡ Some spot → spot ≢ Home) → Mid way ss (set_at is to.0 i2) t
  changes to i i2 found c away = record {
    placed = mid.placed;
    cells = λ g y j spot e1 e2 e3. go g y j spot e1 e2 e3 (same_or g.0 to.0);
    services = mid.services;
    inboxes = length-set is (to.0 - 1) i2 ∙ mid.inboxes;
  } where
    go : (g : Handle) (y : Service S) (j : InboxState) (spot : Spot) → at ss g.0 ≡ Some y → at (set_at is to.0 i2) g.0 ≡ Some j → at t.spots g.0 ≡ Some spot → ((g.0 ≡ to.0) ⊎ (g.0 ≢ to.0)) → CellOk way y j spot
    go g y j spot e1 e2 e3 (inl e) = cell_at way y y i2 j spot spot refl
        (some_is i2 j (at (set_at is to.0 i2) g.0) (ap (at (set_at is to.0 i2)) e ∙ at_here is to.0 i2 i found) e2) refl
        (cell_changed way y i i2 spot (away spot (ap (at t.spots) (sym e) ∙ e3)) c (mid.cells g y i spot e1 (ap (at is) e ∙ found) e3))
    go g y j spot e1 e2 e3 (inr ne) = mid.cells g y j spot e1 (sym (at_other is to.0 g.0 i2 (at_is is to.0 i found).0 ne) ∙ e2) e3

  -- or is at home, and is woken
  wakes : (to : Handle) (i i2 : InboxState) → at is to.0 ≡ Some i → Changes i i2 → at t.spots to.0 ≡ Some Home
      → Mid way ss (set_at is to.0 i2) (record { spots = set_at t.spots to.0 Queued; queue = t.queue ++ to ∷ []; hands = t.hands })
  wakes to i i2 found c home = record {
    placed = subst (λ q. ArePlaced (woken q t to)) home (wake_placed t to mid.placed);
    cells = λ g y j spot e1 e2 e3. go g y j spot e1 e2 e3 (same_or g.0 to.0);
    services = mid.services ∙ sym (length-set t.spots (to.0 - 1) Queued);
    inboxes = length-set is (to.0 - 1) i2 ∙ (mid.inboxes ∙ sym (length-set t.spots (to.0 - 1) Queued));
  } where
    go : (g : Handle) (y : Service S) (j : InboxState) (spot : Spot) → at ss g.0 ≡ Some y → at (set_at is to.0 i2) g.0 ≡ Some j → at (set_at t.spots to.0 Queued) g.0 ≡ Some spot → ((g.0 ≡ to.0) ⊎ (g.0 ≢ to.0)) → CellOk way y j spot
    go g y j spot e1 e2 e3 (inl e) = cell_at way y y i2 j Queued spot refl
        (some_is i2 j (at (set_at is to.0 i2) g.0) (ap (at (set_at is to.0 i2)) e ∙ at_here is to.0 i2 i found) e2)
        (some_is Queued spot (at (set_at t.spots to.0 Queued) g.0) (ap (at (set_at t.spots to.0 Queued)) e ∙ at_here t.spots to.0 Queued Home home) e3)
        (cell_woken way y i i2 c (mid.cells g y i Home e1 (ap (at is) e ∙ found) (ap (at t.spots) e ∙ home)))
    go g y j spot e1 e2 e3 (inr ne) = mid.cells g y j spot e1 (sym (at_other is to.0 g.0 i2 (at_is is to.0 i found).0 ne) ∙ e2) (sym (at_other t.spots to.0 g.0 Queued (at_is is to.0 i found).0 ne) ∙ e3)

  pub mailed : (to : Handle) (i i2 : InboxState) → at is to.0 ≡ Some i → Changes i i2 → Mid way ss (set_at is to.0 i2) (wake t to)
  mailed to i i2 found c = go (at t.spots to.0) refl where
    go : (q : Option Spot) → at t.spots to.0 ≡ q → Mid way ss (set_at is to.0 i2) (woken q t to)
    go None e = changes to i i2 found c (λ s f h. none_some s (sym e ∙ f))
    go (Some Home) e = wakes to i i2 found c e
    go (Some Queued) e = changes to i i2 found c (λ s f h. queued_home (some_is Queued s (at t.spots to.0) e f ∙ h))
    go (Some Hand) e = changes to i i2 found c (λ s f h. hand_home (some_is Hand s (at t.spots to.0) e f ∙ h))
    go (Some Spent) e = changes to i i2 found c (λ s f h. spent_home (some_is Spent s (at t.spots to.0) e f ∙ h))

  -- a service is launched
  pub joins : (own : Handle) (s : S) (ms : List Message) → own.0 ≡ length t.spots + 1 → way.next s ≡ Idle → Mid way (ss ++ Serving s ∷ []) (is ++ live_with ms ∷ []) (joined t own)
  joins own s ms next idle = record {
    placed = joined_placed t own mid.placed next;
    cells = λ g y j spot e1 e2 e3. go g y j spot e1 e2 e3 (same_or g.0 (length t.spots + 1));
    services = length-append ss (Serving s ∷ []) ∙ (ap (λ n. n + 1) mid.services ∙ sym (length-append t.spots (Queued ∷ [])));
    inboxes = length-append is (live_with ms ∷ []) ∙ (ap (λ n. n + 1) mid.inboxes ∙ sym (length-append t.spots (Queued ∷ [])));
  } where
    go : (g : Handle) (y : Service S) (j : InboxState) (spot : Spot) → at (ss ++ Serving s ∷ []) g.0 ≡ Some y → at (is ++ live_with ms ∷ []) g.0 ≡ Some j → at (t.spots ++ Queued ∷ []) g.0 ≡ Some spot
        → ((g.0 ≡ length t.spots + 1) ⊎ (g.0 ≢ length t.spots + 1)) → CellOk way y j spot
    go g y j spot e1 e2 e3 (inl e) = cell_at way (Serving s) y (live_with ms) j Queued spot
        (some_is (Serving s) y (at (ss ++ Serving s ∷ []) g.0) (at_last ss g.0 (Serving s) (e ∙ ap (λ n. n + 1) (sym mid.services))) e1)
        (some_is (live_with ms) j (at (is ++ live_with ms ∷ []) g.0) (at_last is g.0 (live_with ms) (e ∙ ap (λ n. n + 1) (sym mid.inboxes))) e2)
        (some_is Queued spot (at (t.spots ++ Queued ∷ []) g.0) (at_last t.spots g.0 Queued e) e3)
        (cell_new way s ms idle)
    go g y j spot e1 e2 e3 (inr ne) = mid.cells g y j spot
        (sym (at_pushed ss g.0 (Serving s) (λ e. ne (e ∙ ap (λ n. n + 1) mid.services))) ∙ e1)
        (sym (at_pushed is g.0 (live_with ms) (λ e. ne (e ∙ ap (λ n. n + 1) mid.inboxes))) ∙ e2)
        (sym (at_pushed t.spots g.0 Queued ne) ∙ e3)

  -- a turn goes from one place to another
  pub moved : (t2 : Turns) (h : Handle) (was now : Spot) → ArePlaced t2 → t2.spots ≡ set_at t.spots h.0 now → at t.spots h.0 ≡ Some was
      → ((x : Service S) (i : InboxState) → at ss h.0 ≡ Some x → at is h.0 ≡ Some i → CellOk way x i was → CellOk way x i now) → Mid way ss is t2
  moved t2 h was now placed set there cell = record {
    placed = placed;
    cells = λ g x i spot e1 e2 e3. go g x i spot e1 e2 (ap (λ zs. at zs g.0) (sym set) ∙ e3) (same_or g.0 h.0);
    services = mid.services ∙ len;
    inboxes = mid.inboxes ∙ len;
  } where
    len : length t.spots ≡ length t2.spots
    len = sym (ap length set ∙ length-set t.spots (h.0 - 1) now)

    go : (g : Handle) (x : Service S) (i : InboxState) (spot : Spot) → at ss g.0 ≡ Some x → at is g.0 ≡ Some i → at (set_at t.spots h.0 now) g.0 ≡ Some spot → ((g.0 ≡ h.0) ⊎ (g.0 ≢ h.0)) → CellOk way x i spot
    go g x i spot e1 e2 e3 (inl e) = cell_at way x x i i now spot refl refl
        (some_is now spot (at (set_at t.spots h.0 now) g.0) (ap (at (set_at t.spots h.0 now)) e ∙ at_here t.spots h.0 now was there) e3)
        (cell x i (ap (at ss) (sym e) ∙ e1) (ap (at is) (sym e) ∙ e2) (mid.cells g x i was e1 e2 (ap (at t.spots) e ∙ there)))
    go g x i spot e1 e2 e3 (inr ne) = mid.cells g x i spot e1 e2 (sym (at_other t.spots h.0 g.0 now (at_is t.spots h.0 was there).0 ne) ∙ e3)

-- the turn of an idle service comes into a hand
pub cell_fetched : {S : Type 0} (way : Way S) (x : Service S) (i : InboxState) → CellOk way x i Queued → CellOk way x i Hand
cell_fetched way x i ok = record {
  idle = λ q. absurd q;
  work = λ w. tt;
  gone = ok.gone;
  left = ok.left;
  clear = λ e. ((ok.clear e).0, tt);
  spent = λ e. absurd (hand_spent e);
}

-- it goes home before a live and empty inbox
pub cell_home : {S : Type 0} (way : Way S) (x : Service S) (i : InboxState) → IsIdle way x → i.status ≡ Live → i.waiting ≡ [] → CellOk way x i Hand → CellOk way x i Home
cell_home way x i idle live empty ok = record {
  idle = λ q. idle;
  work = λ w. subst (λ ms. HasWork Live ms) empty (subst (λ s. HasWork s i.waiting) live w);
  gone = ok.gone;
  left = ok.left;
  clear = λ e. absurd (live_gone (sym live ∙ e));
  spent = λ e. absurd (spent_home (sym e));
}

-- or goes to the queue
pub cell_sent : {S : Type 0} (way : Way S) (x : Service S) (i : InboxState) → IsIdle way x → CellOk way x i Hand → CellOk way x i Queued
cell_sent way x i idle ok = record {
  idle = λ q. idle;
  work = λ w. tt;
  gone = ok.gone;
  left = ok.left;
  clear = λ e. absurd (idle_stays way x idle (ok.gone e));
  spent = λ e. absurd (queued_spent e);
}

-- the turn of a service that is over is spent
pub cell_spent : {S : Type 0} (way : Way S) (x : Service S) (i : InboxState) → IsOver x → CellOk way x i Hand → CellOk way x i Spent
cell_spent way x i over ok = record {
  idle = λ q. absurd q;
  work = λ w. absurd (no_work i.status i.waiting (ok.left (over_leaves x over)) w);
  gone = ok.gone;
  left = ok.left;
  clear = λ e. ((ok.clear e).0, tt);
  spent = λ e. over;
}

pub two_with : {S : Type 0} (way : Way S) (c : Levels S) (t2 : Turns) → HasTurns way c → Mid way c.world.services c.world.inboxes t2 → HasTurns way (record { world = c.world; turns = t2 })
two_with way c t2 two mid = record { placed = mid.placed; cells = mid.cells; services = mid.services; inboxes = mid.inboxes; listed = two.listed ∙ (sym two.inboxes ∙ mid.inboxes) }

-- WHERE NOTHING IS TO BE DONE

-- a service whose turn is at home has an empty, live inbox
pub at_home : {S : Type 0} (way : Way S) (x : Service S) (i : InboxState) → CellOk way x i Home → IsIdle way x × (i.status ≡ Live) × (i.waiting ≡ [])
at_home way x i ok = (ok.idle tt, go i.status refl, empty i.status i.waiting refl (go i.status refl)) where
  go : (s : InboxStatus) → i.status ≡ s → i.status ≡ Live
  go Live e = e
  go Closing e = absurd (ok.work (subst (λ z. HasWork z i.waiting) (sym e) tt))
  go Gone e = absurd (idle_stays way x (ok.idle tt) (ok.gone e))

  empty : (s : InboxStatus) (ms : List Message) → i.waiting ≡ ms → i.status ≡ Live → i.waiting ≡ []
  empty s [] e live = e
  empty s (m ∷ ms) e live = absurd (ok.work (subst (λ z. HasWork z i.waiting) (sym live) (subst (λ z. HasWork Live z) (sym e) tt)))
