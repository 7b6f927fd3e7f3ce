-- An idle service ends, or takes a message, or has no action.
use Rattle.std.proofs.Common.{◌≡◌, ℕ, Bool, true, ◌<◌, ◌≤◌, ◌-◌, List, [], ◌∷◌, length, map, Option, Some, None, zero, suc, slice_set, get_or, refl, ap, sym, ◌∙◌, subst, arith, length-set}
use Rattle.std.proofs.lemmas.Option.{slice_get-get_or}
use Rattle.std.proofs.lemmas.List.{map-set}
use Rattle.sk_types.specs.declared.number.Handle.{Handle}
use Rattle.sk_types.specs.declared.number.Session.{Session}
use Rattle.message.specs.Actors.{Way}
use Rattle.message.specs.Inboxes.{take_first, end}
use Rattle.message.specs.Registries.{at, set_at}
use Rattle.message.specs.Steps.{Takes, Ends, Serves, next_ops, AtInbox, with_state}
use Rattle.message.specs.Texts.{line_of}
use Rattle.message.specs.Worlds.{World, place, inbox_state, act, answer_at, over, service_over}
use Rattle.message.proofs.Acts.{act_first, act_second, act_neither}
use Rattle.message.proofs.Possible.{take_bars_end}
use Rattle.message.specs.declared.request.Message.{Message}
use Rattle.message.specs.declared.record.What.{What}
use Rattle.message.specs.declared.record.What.TheVariants as did
use Rattle.message.specs.declared.place.Place.TheVariants.{Inbox as TheInbox}
use Rattle.message.specs.declared.place.InboxStatus.{InboxStatus}
use Rattle.message.specs.declared.place.InboxStatus.TheVariants.{Live, Closing, Gone}
use Rattle.message.specs.declared.place.InboxState.{InboxState}
use Rattle.message.specs.declared.place.Service.{Service}
use Rattle.message.specs.declared.place.Service.TheVariants.{Serving, Leaving}
use Rattle.world_machine.specs.Spots.{Spots, with_spots}
use Rattle.world_machine.specs.Serving.{IsIdle, IsNamed, ended, taken}
use Rattle.world_machine.specs.Okay.{ServiceOk}
use Rattle.world_machine.specs.Failing.{IsSpent}
use Rattle.world_machine.specs.Machines.{DidThis}
use Rattle.world_machine.specs.Idling.{IsLineAhead, LineOf}
use Rattle.world_machine.proofs.Asking.{at_given, agent_serves, seen}

-- a place that is set to what it holds
pub set_back : {X : Type 0} (xs : List X) (i : ℕ) (x : X) → x ≡ get_or xs i x → slice_set xs i x ≡ xs
set_back [] i x e = refl
set_back (y ∷ xs) zero x e = ap (λ z. z ∷ xs) e
set_back (y ∷ xs) (suc i) x e = ap (λ zs. y ∷ zs) (set_back xs i x e)

pub inbox_there : (inboxes : List InboxState) (h : ℕ) (i : InboxState) → 0 < h → h ≤ length inboxes → i ≡ get_or inboxes (h - 1) i → at inboxes h ≡ Some i
inbox_there inboxes h i given within is =
    let inside : h - 1 < length inboxes = omega arith in
    at_given inboxes h given ∙ (slice_get-get_or inboxes (h - 1) i inside ∙ ap Some (sym is))

pub named : {S : Type 0} (way : Way S) (sound : S → Type 0) (h : Handle) (x : Service S) → ServiceOk way sound h x → IsNamed way x h
named way sound h (Serving s) ok = ok.1
named way sound h (Leaving e) ok = tt

abbrev pub inboxes_set : Spots → Handle → InboxState → Spots
inboxes_set p h i = record { inboxes = slice_set p.inboxes (h.0 - 1) i; registry = p.registry; clock = p.clock }

module _ {S : Type 0} (way : Way S) (all : List (Service S)) (p : Spots) (due : List (Handle × Session)) (h : Handle) (i : InboxState) (given : 0 < h.0) (here : at p.inboxes h.0 ≡ Some i) where
  w : World S
  w = with_spots all p due

  found : place w (TheInbox h) ≡ Some (AtInbox i)
  unfolding w
  found = ap inbox_state here

  pub ends : (x : Service S) (ms : List Message) (i2 : InboxState) → at all h.0 ≡ Some x → IsIdle way x → end i.status i.waiting ≡ Some (did.End ms, i2)
      → act way (with_spots all p due) h ≡ Some (did.End ms, with_spots (set_at all h.0 (ended way x ms)) (inboxes_set p h i2) due)
  unfolding w
  ends (Serving s) ms i2 there idle e =
      act_first way (with_spots all p due) h (Serves (Serving s)) Ends (Takes ∷ []) (AtInbox i) (did.End ms, AtInbox i2) (agent_serves (with_spots all p due) h (Serving s) given there) (ap next_ops idle) found (ap (with_state AtInbox) e)
  ends (Leaving e) ms i2 there idle x = absurd idle

  pub takes : (x : Service S) (m : Message) (left : ℕ) (i2 : InboxState) → at all h.0 ≡ Some x → IsIdle way x → take_first i.status i.waiting ≡ Some (did.Take m left, i2)
      → act way (with_spots all p due) h ≡ Some (did.Take m left, with_spots (set_at all h.0 (taken way x m)) (inboxes_set p h i2) due)
  unfolding w
  takes (Serving s) m left i2 there idle e =
      let no_end : answer_at way h Ends (place (with_spots all p due) (TheInbox h)) ≡ None = ap (answer_at way h Ends) found ∙ ap (with_state AtInbox) (take_bars_end i (did.Take m left, i2) e) in
      act_second way (with_spots all p due) h (Serves (Serving s)) Ends Takes (AtInbox i) (did.Take m left, AtInbox i2) (agent_serves (with_spots all p due) h (Serving s) given there) (ap next_ops idle) no_end found (ap (with_state AtInbox) e)
  takes (Leaving e) m left i2 there idle x = absurd idle

  pub waits : (x : Service S) → at all h.0 ≡ Some x → IsIdle way x → take_first i.status i.waiting ≡ None → end i.status i.waiting ≡ None → act way (with_spots all p due) h ≡ None
  unfolding w
  waits (Serving s) there idle no_take no_end =
      act_neither way (with_spots all p due) h (Serves (Serving s)) Ends Takes (agent_serves (with_spots all p due) h (Serving s) given there) (ap next_ops idle)
      (ap (answer_at way h Ends) found ∙ ap (with_state AtInbox) no_end) (ap (answer_at way h Takes) found ∙ ap (with_state AtInbox) no_take)
  waits (Leaving e) there idle no_take no_end = absurd idle

-- the line of a message that is taken is the one that was made ahead
pub line_taken : (h : Handle) (i i2 : InboxState) (m : Message) (left : ℕ) (l : Option (List ℕ)) → take_first i.status i.waiting ≡ Some (did.Take m left, i2) → IsLineAhead h i l → l ≡ line_of h (did.Take m left)
line_taken h i i2 m left l e ahead = go i.status i.waiting e ahead where
  go : (status : InboxStatus) (waiting : List Message) → take_first status waiting ≡ Some (did.Take m left, i2) → LineOf h waiting l → l ≡ line_of h (did.Take m left)
  go Live [] e2 a = absurd (cc)
  go Live (n ∷ ms) e2 a =
      let pair : (did.Take n (length ms), record { status = Live; waiting = ms }) ≡ (did.Take m left, i2) = cc in
      let what : did.Take n (length ms) ≡ did.Take m left = ap (λ (z : What × InboxState). z.0) pair in
      a (length ms) ∙ ap (line_of h) what
  go Closing waiting e2 a = absurd (cc)
  go Gone waiting e2 a = absurd (cc)

module _ {A M : Type 0} (way : Way M) (f : A → M) (services : List (Service A)) (p : Spots) (due : List (Handle × Session)) (h : Handle) (before : Service A) (i : InboxState)
    (given : 0 < h.0) (within : h.0 ≤ length services) (room : h.0 ≤ length p.inboxes) (is : before ≡ get_or services (h.0 - 1) before) (inbox : i ≡ get_or p.inboxes (h.0 - 1) i) (idle : IsIdle way (service_over f before)) where
  pub ends_did : (next : Service A) (ms : List Message) (i2 : InboxState) → end i.status i.waiting ≡ Some (did.End ms, i2) → service_over f next ≡ ended way (service_over f before) ms
      → DidThis way (over f (with_spots services p due)) h None (over f (with_spots (slice_set services (h.0 - 1) next) (inboxes_set p h i2) due)) (did.End ms)
  ends_did next ms i2 e now =
      let all = map (service_over f) services in
      let a = ends way all p due h i given (inbox_there p.inboxes h.0 i given room inbox) (service_over f before) ms i2 (seen (service_over f) services h.0 before given is within) idle e in
      let lists : set_at all h.0 (ended way (service_over f before) ms) ≡ map (service_over f) (slice_set services (h.0 - 1) next) = ap (set_at all h.0) (sym now) ∙ sym (map-set (service_over f) services (h.0 - 1) next) in
      (a ∙ ap (λ l. Some (did.End ms, with_spots l (inboxes_set p h i2) due)) lists, refl)

  pub takes_did : (next : Service A) (m : Message) (left : ℕ) (i2 : InboxState) (l : Option (List ℕ)) → take_first i.status i.waiting ≡ Some (did.Take m left, i2) → service_over f next ≡ taken way (service_over f before) m → IsLineAhead h i l
      → DidThis way (over f (with_spots services p due)) h l (over f (with_spots (slice_set services (h.0 - 1) next) (inboxes_set p h i2) due)) (did.Take m left)
  takes_did next m left i2 l e now ahead =
      let all = map (service_over f) services in
      let a = takes way all p due h i given (inbox_there p.inboxes h.0 i given room inbox) (service_over f before) m left i2 (seen (service_over f) services h.0 before given is within) idle e in
      let lists : set_at all h.0 (taken way (service_over f before) m) ≡ map (service_over f) (slice_set services (h.0 - 1) next) = ap (set_at all h.0) (sym now) ∙ sym (map-set (service_over f) services (h.0 - 1) next) in
      (a ∙ ap (λ z. Some (did.Take m left, with_spots z (inboxes_set p h i2) due)) lists, line_taken h i i2 m left l e ahead)

  -- the message was taken, whatever comes of it
  pub takes_acted : (m : Message) (left : ℕ) (i2 : InboxState) (l : Option (List ℕ)) (spent : Bool) → take_first i.status i.waiting ≡ Some (did.Take m left, i2) → IsLineAhead h i l → spent ≡ true → IsSpent way (over f (with_spots services p due)) h l spent
  takes_acted m left i2 l spent e ahead met =
      let all = map (service_over f) services in
      let x = service_over f before in
      record {
        what = did.Take m left;
        after = with_spots (set_at all h.0 (taken way x m)) (inboxes_set p h i2) due;
        acts = takes way all p due h i given (inbox_there p.inboxes h.0 i given room inbox) x m left i2 (seen (service_over f) services h.0 before given is within) idle e;
        line_is = line_taken h i i2 m left l e ahead;
        met = met;
      }

-- an inbox is set, and the machine keeps its services
pub room_kept : (inboxes : List InboxState) (h n : ℕ) (i : InboxState) → n ≡ length inboxes → length (slice_set inboxes h i) ≡ n
room_kept inboxes h n i e = length-set inboxes h i ∙ sym e

pub back_again : (inboxes : List InboxState) (h : ℕ) (i i2 : InboxState) → i ≡ get_or inboxes h i → i2 ≡ i → slice_set inboxes h i2 ≡ inboxes
back_again inboxes h i i2 is same = ap (slice_set inboxes h) same ∙ set_back inboxes h i is

pub idle_here : {S : Type 0} (way : Way S) (x y : Service S) → x ≡ y → IsIdle way y → IsIdle way x
idle_here way x y e h = subst (IsIdle way) (sym e) h

-- what is read twice is the same
pub same_read : {X : Type 0} (xs : List X) (i : ℕ) (a b : X) → i < length xs → a ≡ get_or xs i a → b ≡ get_or xs i b → a ≡ b
same_read xs i a b inside ea eb =
    let e : Some (get_or xs i a) ≡ Some (get_or xs i b) = sym (slice_get-get_or xs i a inside) ∙ slice_get-get_or xs i b inside in
    let e2 : get_or xs i a ≡ get_or xs i b = cc in
    ea ∙ (e2 ∙ sym eb)

-- where its inbox is as it was, an idle service that may neither end nor take has no action
pub waits_on : {A M : Type 0} (way : Way M) (f : A → M) (services : List (Service A)) (p : Spots) (due : List (Handle × Session)) (h : Handle) (x : Service M) (i : InboxState)
    → 0 < h.0 → h.0 ≤ length p.inboxes → i ≡ get_or p.inboxes (h.0 - 1) i → at (map (service_over f) services) h.0 ≡ Some x → IsIdle way x
    → take_first i.status i.waiting ≡ None → end i.status i.waiting ≡ None → act way (over f (with_spots services p due)) h ≡ None
waits_on way f services p due h x i given room inbox there idle no_take no_end =
    waits way (map (service_over f) services) p due h i given (inbox_there p.inboxes h.0 i given room inbox) x there idle no_take no_end
