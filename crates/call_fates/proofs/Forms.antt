-- What an act may be, by the agent's half and the place's half.
use Rattle.std.proofs.Common.{◌⊎◌, inl, inr, ℕ, ◌≡◌, ◌+◌, nat_lt, Bool, true, false, List, [], ◌∷◌, length, Option, Some, None, refl, ap, sym, ◌∙◌, subst, if◌then◌else◌}
use Rattle.message.specs.Messages.{bounce, timer_message}
use Rattle.message.specs.Ends.{first}
use Rattle.message.specs.Actors.{Way, MayAnswer}
use Rattle.message.specs.Inboxes.{put, fire, mark, take_first, end}
use Rattle.message.specs.Registries.{Registry, is_listed, does_look, does_launch, does_name, does_retire}
use Rattle.message.specs.Clocks.{Clock, add, tick, ticked, due_at, last_tick}
use Rattle.message.specs.Steps.{Op, Asks, Takes, Ends, Ticks, Fires, IsOne, next_ops, bounce_ops, due_ops, op_of, PlaceState, AtRegistry, AtInbox, AtClock, inbox_does, registry_does, clock_does, with_state, does, made}
use Rattle.sk_types.specs.declared.number.Handle.{Handle}
use Rattle.sk_types.specs.declared.number.Session.{Session}
use Rattle.message.specs.declared.request.Message.{Message}
use Rattle.message.specs.declared.request.Held.{Held}
use Rattle.message.specs.declared.request.Dest.{Dest}
use Rattle.message.specs.declared.request.Dest.TheVariants.{Number, Name}
use Rattle.message.specs.declared.request.Request.{Request}
use Rattle.message.specs.declared.request.Request.TheVariants as ask
use Rattle.message.specs.declared.request.Answer.TheVariants.{Found}
use Rattle.message.specs.declared.request.Next.{Next}
use Rattle.message.specs.declared.request.Next.TheVariants.{Idle, Ask}
use Rattle.message.specs.declared.record.What.{What}
use Rattle.message.specs.declared.record.What.TheVariants as did
use Rattle.message.specs.declared.place.Timer.{Timer}
use Rattle.message.specs.declared.place.InboxState.{InboxState}
use Rattle.message.specs.declared.place.InboxStatus.{InboxStatus}
use Rattle.message.specs.declared.place.InboxStatus.TheVariants.{Live, Closing, Gone}
use Rattle.message.specs.declared.datum.Datum.{Datum}

-- THE PLACE'S HALF

-- a Look of a number finds that handle
abbrev pub LookFits : What → Type 0
LookFits (did.Look (Number n) found) = MayAnswer (ask.Look (Number n)) (Found found)
LookFits _ = Unit {0}

-- what a place does is the operation that was asked
pub record IsDone (op : Op) (what : What) : Type 0 where
  pub same : op_of what ≡ op
  pub fits : LookFits what

done_by : {X : Type 0} (op : Op) (d d2 : What × X) → ◌≡◌ {A = Option (What × X)} (Some d) (Some d2) → IsDone op d.0 → IsDone op d2.0
done_by {X = X} op d d2 e h = let same : d ≡ d2 = cc in subst (λ (z : What × X). IsDone op z.0) same h

look_fits : (n : ℕ) (b : Bool) → MayAnswer (ask.Look (Number n)) (Found (if b then Some (record { 0 = n }) else None))
look_fits n true = refl
look_fits n false = tt

take_done : (status : InboxStatus) (waiting : List Message) (d : What × InboxState) → take_first status waiting ≡ Some d → IsDone Takes d.0
take_done Live [] d e = absurd (cc)
take_done Live (m ∷ ms) d e = done_by Takes (did.Take m (length ms), record { status = Live; waiting = ms }) d e (record { same = refl; fits = tt })
take_done Closing waiting d e = absurd (cc)
take_done Gone waiting d e = absurd (cc)

end_done : (status : InboxStatus) (waiting : List Message) (d : What × InboxState) → end status waiting ≡ Some d → IsDone Ends d.0
end_done Closing waiting d e = done_by Ends (did.End waiting, record { status = Gone; waiting = [] }) d e (record { same = refl; fits = tt })
end_done Live waiting d e = absurd (cc)
end_done Gone waiting d e = absurd (cc)

pub inbox_done : (op : Op) (i : InboxState) (d : What × InboxState) → inbox_does op i ≡ Some d → IsDone op d.0
inbox_done (Asks (ask.Put to m)) i d e = done_by (Asks (ask.Put to m)) (put to m i) d e (record { same = refl; fits = tt })
inbox_done (Asks (ask.Mark to)) i d e = done_by (Asks (ask.Mark to)) (mark to i) d e (record { same = refl; fits = tt })
inbox_done Takes i d e = take_done i.status i.waiting d e
inbox_done Ends i d e = end_done i.status i.waiting d e
inbox_done (Fires h m) i d e = done_by (Fires h m) (fire h m i) d e (record { same = refl; fits = tt })
inbox_done (Asks (ask.Look to)) i d e = absurd (cc)
inbox_done (Asks (ask.Launch text args)) i d e = absurd (cc)
inbox_done (Asks (ask.Name text to)) i d e = absurd (cc)
inbox_done (Asks (ask.Retire to)) i d e = absurd (cc)
inbox_done (Asks (ask.Later n x)) i d e = absurd (cc)
inbox_done (Asks ask.Now) i d e = absurd (cc)
inbox_done Ticks i d e = absurd (cc)

look_done : (r : Registry) (dest : Dest) → IsDone (Asks (ask.Look dest)) (does_look r dest).0
look_done r (Number n) = record { same = refl; fits = look_fits n (is_listed r.listed n) }
look_done r (Name t) = record { same = refl; fits = tt }

launch_done : {S : Type 0} (r : Registry) (text : List ℕ) (args : List Datum) (s : Option S) → IsDone (Asks (ask.Launch text args)) (does_launch r text args s).0
launch_done r text args None = record { same = refl; fits = tt }
launch_done r text args (Some s) = record { same = refl; fits = tt }

pub registry_done : {S : Type 0} (way : Way S) (op : Op) (r : Registry) (d : What × Registry) → registry_does way op r ≡ Some d → IsDone op d.0
registry_done way (Asks (ask.Look dest)) r d e = done_by (Asks (ask.Look dest)) (does_look r dest) d e (look_done r dest)
registry_done way (Asks (ask.Launch text args)) r d e = done_by (Asks (ask.Launch text args)) (does_launch r text args (made way r text)) d e (launch_done r text args (made way r text))
registry_done way (Asks (ask.Name text h)) r d e = done_by (Asks (ask.Name text h)) (does_name r text h) d e (record { same = refl; fits = tt })
registry_done way (Asks (ask.Retire h)) r d e = done_by (Asks (ask.Retire h)) (does_retire r h) d e (record { same = refl; fits = tt })
registry_done way (Asks (ask.Put to m)) r d e = absurd (cc)
registry_done way (Asks (ask.Mark to)) r d e = absurd (cc)
registry_done way (Asks (ask.Later n x)) r d e = absurd (cc)
registry_done way (Asks ask.Now) r d e = absurd (cc)
registry_done way Takes r d e = absurd (cc)
registry_done way Ends r d e = absurd (cc)
registry_done way Ticks r d e = absurd (cc)
registry_done way (Fires h m) r d e = absurd (cc)

tick_done : (c : Clock) (ts : List Timer) (d : What × Clock) → tick c ts ≡ Some d → IsDone Ticks d.0
tick_done c [] d e = absurd (cc)
tick_done c (t ∷ ts) d e = go (nat_lt c.now last_tick) refl e where
  go : (b : Bool) → nat_lt c.now last_tick ≡ b → (if b then Some (did.Tick (due_at (c.now + 1) c.timers), ticked c) else None) ≡ Some d → IsDone Ticks d.0
  go true eq f = done_by Ticks (did.Tick (due_at (c.now + 1) c.timers), ticked c) d f (record { same = refl; fits = tt })
  go false eq f = absurd (cc)

pub clock_done : (own : Handle) (op : Op) (c : Clock) (d : What × Clock) → clock_does own op c ≡ Some d → IsDone op d.0
clock_done own (Asks (ask.Later n x)) c d e = done_by (Asks (ask.Later n x)) (did.Later n x, add c n own x) d e (record { same = refl; fits = tt })
clock_done own (Asks ask.Now) c d e = done_by (Asks ask.Now) (did.Now c.now, c) d e (record { same = refl; fits = tt })
clock_done own Ticks c d e = tick_done c c.timers d e
clock_done own (Asks (ask.Look to)) c d e = absurd (cc)
clock_done own (Asks (ask.Put to m)) c d e = absurd (cc)
clock_done own (Asks (ask.Launch text args)) c d e = absurd (cc)
clock_done own (Asks (ask.Name text to)) c d e = absurd (cc)
clock_done own (Asks (ask.Retire to)) c d e = absurd (cc)
clock_done own (Asks (ask.Mark to)) c d e = absurd (cc)
clock_done own Takes c d e = absurd (cc)
clock_done own Ends c d e = absurd (cc)
clock_done own (Fires h m) c d e = absurd (cc)

-- what was done there is d
pub with_inv : {X : Type 0} (f : X → PlaceState) (q : Option (What × X)) (d : What × PlaceState) → with_state f q ≡ Some d → (d2 : What × X) × (q ≡ Some d2) × ((d2.0, f d2.1) ≡ d)
with_inv f None d e = absurd (cc)
with_inv f (Some d2) d e = let same : (d2.0, f d2.1) ≡ d = cc in (d2, refl, same)

pub does_done : {S : Type 0} (way : Way S) (own : Handle) (op : Op) (p : PlaceState) (d : What × PlaceState) → does way own op p ≡ Some d → IsDone op d.0
does_done way own op (AtRegistry r) d e = let x = with_inv AtRegistry (registry_does way op r) d e in subst (λ (z : What × PlaceState). IsDone op z.0) x.2 (registry_done way op r x.0 x.1)
does_done way own op (AtInbox i) d e = let x = with_inv AtInbox (inbox_does op i) d e in subst (λ (z : What × PlaceState). IsDone op z.0) x.2 (inbox_done op i x.0 x.1)
does_done way own op (AtClock c) d e = let x = with_inv AtClock (clock_does own op c) d e in subst (λ (z : What × PlaceState). IsDone op z.0) x.2 (clock_done own op c x.0 x.1)

-- THE AGENT'S HALF

-- what a service that serves asks, by what it may do
pub asks_then : (n : Next) (r : Request) → IsOne (Asks r) (next_ops n) → n ≡ Ask r
asks_then Idle r (inl e) = absurd (cc)
asks_then Idle r (inr (inl e)) = absurd (cc)
asks_then Idle r (inr (inr e)) = absurd e
asks_then (Ask q) r (inl e) = let same : r ≡ q = cc in ap Ask (sym same)
asks_then (Ask q) r (inr e) = absurd e

pub takes_then : (n : Next) → IsOne Takes (next_ops n) → n ≡ Idle
takes_then Idle one = refl
takes_then (Ask q) (inl e) = absurd (cc)
takes_then (Ask q) (inr e) = absurd e

pub ends_then : (n : Next) → IsOne Ends (next_ops n) → n ≡ Idle
ends_then Idle one = refl
ends_then (Ask q) (inl e) = absurd (cc)
ends_then (Ask q) (inr e) = absurd e

pub no_ticks : (n : Next) → IsOne Ticks (next_ops n) → ⊥
no_ticks Idle (inl e) = absurd (cc)
no_ticks Idle (inr (inl e)) = absurd (cc)
no_ticks Idle (inr (inr e)) = e
no_ticks (Ask q) (inl e) = absurd (cc)
no_ticks (Ask q) (inr e) = e

pub no_fires : (n : Next) (h : Handle) (m : Message) → IsOne (Fires h m) (next_ops n) → ⊥
no_fires Idle h m (inl e) = absurd (cc)
no_fires Idle h m (inr (inl e)) = absurd (cc)
no_fires Idle h m (inr (inr e)) = e
no_fires (Ask q) h m (inl e) = absurd (cc)
no_fires (Ask q) h m (inr e) = e

pub look_what : (dest : Dest) (what : What) → op_of what ≡ Asks (ask.Look dest) → (found : Option Handle) × (what ≡ did.Look dest found)
look_what dest (did.Look d found) e = let same : d ≡ dest = cc in (found, ap (λ z. did.Look z found) same)
look_what dest (did.Put h m taken) e = absurd (cc)
look_what dest (did.Launch text args found) e = absurd (cc)
look_what dest (did.Name text h named) e = absurd (cc)
look_what dest (did.Retire h retired) e = absurd (cc)
look_what dest (did.Mark h) e = absurd (cc)
look_what dest (did.Later n x) e = absurd (cc)
look_what dest (did.Now n) e = absurd (cc)
look_what dest (did.Take m left) e = absurd (cc)
look_what dest (did.End ms) e = absurd (cc)
look_what dest (did.Tick due) e = absurd (cc)
look_what dest (did.Fire h m taken) e = absurd (cc)

put_what : (to : Handle) (msg : Message) (what : What) → op_of what ≡ Asks (ask.Put to msg) → (taken : Bool) × (what ≡ did.Put to msg taken)
put_what to msg (did.Put h m taken) e =
    let same : h ≡ to = cc in
    let same2 : m ≡ msg = cc in
    (taken, ap (λ z. did.Put z m taken) same ∙ ap (λ z. did.Put to z taken) same2)
put_what to msg (did.Look d found) e = absurd (cc)
put_what to msg (did.Launch text args found) e = absurd (cc)
put_what to msg (did.Name text h named) e = absurd (cc)
put_what to msg (did.Retire h retired) e = absurd (cc)
put_what to msg (did.Mark h) e = absurd (cc)
put_what to msg (did.Later n x) e = absurd (cc)
put_what to msg (did.Now n) e = absurd (cc)
put_what to msg (did.Take m left) e = absurd (cc)
put_what to msg (did.End ms) e = absurd (cc)
put_what to msg (did.Tick due) e = absurd (cc)
put_what to msg (did.Fire h m taken) e = absurd (cc)

tick_what : (what : What) → op_of what ≡ Ticks → (due : List (Handle × Session)) × (what ≡ did.Tick due)
tick_what (did.Tick due) e = (due, refl)
tick_what (did.Look d found) e = absurd (cc)
tick_what (did.Put h m taken) e = absurd (cc)
tick_what (did.Launch text args found) e = absurd (cc)
tick_what (did.Name text h named) e = absurd (cc)
tick_what (did.Retire h retired) e = absurd (cc)
tick_what (did.Mark h) e = absurd (cc)
tick_what (did.Later n x) e = absurd (cc)
tick_what (did.Now n) e = absurd (cc)
tick_what (did.Take m left) e = absurd (cc)
tick_what (did.End ms) e = absurd (cc)
tick_what (did.Fire h m taken) e = absurd (cc)

fire_what : (to : Handle) (msg : Message) (what : What) → op_of what ≡ Fires to msg → (taken : Bool) × (what ≡ did.Fire to msg taken)
fire_what to msg (did.Fire h m taken) e =
    let same : h ≡ to = cc in
    let same2 : m ≡ msg = cc in
    (taken, ap (λ z. did.Fire z m taken) same ∙ ap (λ z. did.Fire to z taken) same2)
fire_what to msg (did.Look d found) e = absurd (cc)
fire_what to msg (did.Put h m taken) e = absurd (cc)
fire_what to msg (did.Launch text args found) e = absurd (cc)
fire_what to msg (did.Name text h named) e = absurd (cc)
fire_what to msg (did.Retire h retired) e = absurd (cc)
fire_what to msg (did.Mark h) e = absurd (cc)
fire_what to msg (did.Later n x) e = absurd (cc)
fire_what to msg (did.Now n) e = absurd (cc)
fire_what to msg (did.Take m left) e = absurd (cc)
fire_what to msg (did.End ms) e = absurd (cc)
fire_what to msg (did.Tick due) e = absurd (cc)

-- what an ended service does: the Look, or the Put, of its first bounce
abbrev pub LooksBack : Handle → Bool → List Held → What → Type 0
LooksBack own found xs what = (x : Held) × (answer : Option Handle) × (first xs ≡ Some x) × (found ≡ false) × (what ≡ did.Look (Number x.source.0) answer)

abbrev pub PutsBack : Handle → Bool → List Held → What → Type 0
PutsBack own found xs what = (x : Held) × (taken : Bool) × (first xs ≡ Some x) × (found ≡ true) × (what ≡ did.Put x.source (bounce own x) taken)

pub bounce_did : (own : Handle) (found : Bool) (xs : List Held) (what : What) → IsOne (op_of what) (bounce_ops own found xs) → LooksBack own found xs what ⊎ PutsBack own found xs what
bounce_did own found [] what one = absurd one
bounce_did own false (x ∷ xs) what (inl e) = let l = look_what (Number x.source.0) what e in inl (x, l.0, refl, refl, l.1)
bounce_did own false (x ∷ xs) what (inr e) = absurd e
bounce_did own true (x ∷ xs) what (inl e) = let l = put_what x.source (bounce own x) what e in inr (x, l.0, refl, refl, l.1)
bounce_did own true (x ∷ xs) what (inr e) = absurd e

-- what agent 0 does
pub data ClockDid : What → Type 0 where
  ticks : (due : List (Handle × Session)) → ClockDid (did.Tick due)
  fires : (h : Handle) (x : Session) (taken : Bool) → ClockDid (did.Fire h (timer_message x) taken)

pub clock_did : (due : List (Handle × Session)) (what : What) → IsOne (op_of what) (due_ops due) → ClockDid what
clock_did [] what (inl e) = let t = tick_what what e in subst ClockDid (sym t.1) (ticks t.0)
clock_did [] what (inr e) = absurd e
clock_did (d ∷ ds) what (inl e) = let t = fire_what d.0 (timer_message d.1) what e in subst ClockDid (sym t.1) (fires d.0 d.1 t.0)
clock_did (d ∷ ds) what (inr e) = absurd e
