-- Messages between two services are taken in the order in which they were put.
use Rattle.std.proofs.Common.{◌⊎◌, inl, inr, ℕ, zero, suc, ◌≡◌, ◌≢◌, ◌<◌, ◌+◌, ◌-◌, ◌==◌, ◌&&◌, Bool, true, false, List, [], ◌∷◌, ◌++◌, length, Option, Some, None, if◌then◌else◌, slice_get, slice_set, refl, ap, sym, ◌∙◌, subst, arith}
use Rattle.std.proofs.lemmas.Bool.Decides.{nat_tests}
use Rattle.std.proofs.lemmas.List.{append_assoc, append-nil}
use Rattle.std.proofs.lemmas.List.Elements.{filter-append}
use Rattle.message.specs.Messages.{init_message, bounce}
use Rattle.message.specs.Actors.{Way, IsLawful, MayPut}
use Rattle.message.specs.Inboxes.{accepts, put, fire, mark, take_first, end}
use Rattle.message.specs.Registries.{at, set_at}
use Rattle.message.specs.Steps.{Op, Asks, Takes, Ends, Ticks, Fires, Agent, Serves, Times, IsOne, ops, service_ops, op_of, place_of, inbox_does}
use Rattle.message.specs.Worlds.{World, agent, act, after, go_on, empty_inbox, start_inbox}
use Rattle.sk_types.specs.declared.number.Handle.{Handle}
use Rattle.message.specs.declared.datum.Datum.{Datum}
use Rattle.message.specs.declared.request.Message.{Message}
use Rattle.message.specs.declared.request.Next.TheVariants.{Ask}
use Rattle.message.specs.declared.request.Request.TheVariants as ask
use Rattle.message.specs.declared.record.What.{What}
use Rattle.message.specs.declared.record.What.TheVariants as did
use Rattle.message.specs.declared.place.Place.TheVariants.{Inbox as TheInbox}
use Rattle.message.specs.declared.place.InboxState.{InboxState}
use Rattle.message.specs.declared.place.InboxStatus.{InboxStatus}
use Rattle.message.specs.declared.place.InboxStatus.TheVariants.{Live, Closing, Gone}
use Rattle.message.specs.declared.place.Service.{Service}
use Rattle.message.specs.declared.place.Service.TheVariants.{Serving, Leaving}
use Rattle.call_fates.specs.Reached.{IsOpening, ServiceOk, IsWorld}
use Rattle.call_fates.specs.Sessions.{IsFresh}
use Rattle.call_fates.specs.Order.{is_from, of, put_now, taken_now, left_now, with_list, along, waiting_in}
use Rattle.call_fates.proofs.Lists.{at_is, at_push, at_front, at_here}
use Rattle.call_fates.proofs.Forms.{asks_then, bounce_did, LooksBack, PutsBack, clock_did, ClockDid, ticks, fires}
use Rattle.call_fates.proofs.Inverts.{Acted, AtOne, AtNone, Grows, acted, agent_is}
use Rattle.call_fates.proofs.Inboxes.{inbox_of, IsTimely}
use Rattle.call_fates.proofs.Counts.{timely}
use Rattle.call_fates.proofs.Journals.{fresh_kept, fresh_opening}

-- ONE INBOX

-- what came into it, what was taken from it, and what was taken by an End
abbrev pub came : What → List Message
came (did.Put h m true) = m ∷ []
came (did.Fire h m true) = m ∷ []
came _ = []

abbrev pub went : What → List Message
went (did.Take m left) = m ∷ []
went _ = []

abbrev pub ended : What → List Message
ended (did.End ms) = ms
ended _ = []

record Queues (i i2 : InboxState) (what : What) : Type 0 where
  pub queue : i.waiting ++ came what ≡ went what ++ (ended what ++ i2.waiting)
  pub gone : (ended what ≡ []) ⊎ (i2.status ≡ Gone)

queues_by : (i : InboxState) (d : What × InboxState) (what : What) (i2 : InboxState) → ◌≡◌ {A = Option (What × InboxState)} (Some d) (Some (what, i2)) → Queues i d.1 d.0 → Queues i i2 what
queues_by i d what i2 e p = let same : d ≡ (what, i2) = cc in subst (λ (z : What × InboxState). Queues i z.1 z.0) same p

put_queues : (to : Handle) (m : Message) (i : InboxState) (b : Bool) → Queues i (if b then record { status = i.status; waiting = i.waiting ++ m ∷ [] } else i) (did.Put to m b)
put_queues to m i true = record { queue = refl; gone = inl refl }
put_queues to m i false = record { queue = append-nil i.waiting; gone = inl refl }

fire_queues : (to : Handle) (m : Message) (i : InboxState) (b : Bool) → Queues i (if b then record { status = i.status; waiting = i.waiting ++ m ∷ [] } else i) (did.Fire to m b)
fire_queues to m i true = record { queue = refl; gone = inl refl }
fire_queues to m i false = record { queue = append-nil i.waiting; gone = inl refl }

take_queues : (status : InboxStatus) (waiting : List Message) (what : What) (i2 : InboxState) → take_first status waiting ≡ Some (what, i2) → Queues (inbox_of status waiting) i2 what
take_queues Live [] what i2 e = absurd (cc)
take_queues Live (m ∷ ms) what i2 e = queues_by (inbox_of Live (m ∷ ms)) (did.Take m (length ms), inbox_of Live ms) what i2 e (record { queue = ap (λ z. m ∷ z) (append-nil ms); gone = inl refl })
take_queues Closing waiting what i2 e = absurd (cc)
take_queues Gone waiting what i2 e = absurd (cc)

end_queues : (status : InboxStatus) (waiting : List Message) (what : What) (i2 : InboxState) → end status waiting ≡ Some (what, i2) → Queues (inbox_of status waiting) i2 what
end_queues Closing waiting what i2 e = queues_by (inbox_of Closing waiting) (did.End waiting, inbox_of Gone []) what i2 e (record { queue = refl; gone = inr refl })
end_queues Live waiting what i2 e = absurd (cc)
end_queues Gone waiting what i2 e = absurd (cc)

inbox_queues : (op : Op) (i i2 : InboxState) (what : What) → inbox_does op i ≡ Some (what, i2) → Queues i i2 what
inbox_queues (Asks (ask.Put h m)) i i2 what e = queues_by i (put h m i) what i2 e (put_queues h m i (accepts i.status))
inbox_queues (Fires h m) i i2 what e = queues_by i (fire h m i) what i2 e (fire_queues h m i (accepts i.status))
inbox_queues (Asks (ask.Mark h)) i i2 what e = queues_by i (mark h i) what i2 e (record { queue = append-nil i.waiting; gone = inl refl })
inbox_queues Takes i i2 what e = take_queues i.status i.waiting what i2 e
inbox_queues Ends i i2 what e = end_queues i.status i.waiting what i2 e
inbox_queues (Asks (ask.Look dest)) i i2 what e = absurd (cc)
inbox_queues (Asks (ask.Launch text args)) i i2 what e = absurd (cc)
inbox_queues (Asks (ask.Name text h)) i i2 what e = absurd (cc)
inbox_queues (Asks (ask.Retire h)) i i2 what e = absurd (cc)
inbox_queues (Asks (ask.Later n x)) i i2 what e = absurd (cc)
inbox_queues (Asks ask.Now) i i2 what e = absurd (cc)
inbox_queues Ticks i i2 what e = absurd (cc)

-- a gone inbox stays gone, and nothing is taken from it
pub gone_kept : (op : Op) (i i2 : InboxState) (what : What) → inbox_does op i ≡ Some (what, i2) → i.status ≡ Gone → (i2.status ≡ Gone) × (went what ≡ [])
gone_kept op i i2 what e g = go op i.status i.waiting refl refl e g where
  here : (d : What × InboxState) → ◌≡◌ {A = Option (What × InboxState)} (Some d) (Some (what, i2)) → (d.1.status ≡ Gone) × (went d.0 ≡ []) → (i2.status ≡ Gone) × (went what ≡ [])
  here d k p = let same : d ≡ (what, i2) = cc in subst (λ (z : What × InboxState). (z.1.status ≡ Gone) × (went z.0 ≡ [])) same p

  go : (o : Op) (status : InboxStatus) (waiting : List Message) → i.status ≡ status → i.waiting ≡ waiting → inbox_does o (inbox_of status waiting) ≡ Some (what, i2) → status ≡ Gone → (i2.status ≡ Gone) × (went what ≡ [])
  go o Live waiting s1 s2 k n = absurd (cc)
  go o Closing waiting s1 s2 k n = absurd (cc)
  go (Asks (ask.Put h m)) Gone waiting s1 s2 k n = here (put h m (inbox_of Gone waiting)) k (refl, refl)
  go (Fires h m) Gone waiting s1 s2 k n = here (fire h m (inbox_of Gone waiting)) k (refl, refl)
  go (Asks (ask.Mark h)) Gone waiting s1 s2 k n = here (mark h (inbox_of Gone waiting)) k (refl, refl)
  go Takes Gone waiting s1 s2 k n = absurd (cc)
  go Ends Gone waiting s1 s2 k n = absurd (cc)
  go (Asks (ask.Look dest)) Gone waiting s1 s2 k n = absurd (cc)
  go (Asks (ask.Launch text args)) Gone waiting s1 s2 k n = absurd (cc)
  go (Asks (ask.Name text h)) Gone waiting s1 s2 k n = absurd (cc)
  go (Asks (ask.Retire h)) Gone waiting s1 s2 k n = absurd (cc)
  go (Asks (ask.Later m x)) Gone waiting s1 s2 k n = absurd (cc)
  go (Asks ask.Now) Gone waiting s1 s2 k n = absurd (cc)
  go Ticks Gone waiting s1 s2 k n = absurd (cc)

-- WHO AND WHERE

-- what a Take or an End takes is in the own inbox
own_place : (own : Handle) (what : What) (to : Handle) → place_of own (op_of what) ≡ TheInbox to → ((went what ≡ []) × (ended what ≡ [])) ⊎ (own ≡ to)
own_place own (did.Take m left) to e = inr (cc)
own_place own (did.End ms) to e = inr (cc)
own_place own (did.Look dest found) to e = inl (refl, refl)
own_place own (did.Put h m taken) to e = inl (refl, refl)
own_place own (did.Launch text args found) to e = inl (refl, refl)
own_place own (did.Name text h named) to e = inl (refl, refl)
own_place own (did.Retire h retired) to e = inl (refl, refl)
own_place own (did.Mark h) to e = inl (refl, refl)
own_place own (did.Later n x) to e = inl (refl, refl)
own_place own (did.Now n) to e = inl (refl, refl)
own_place own (did.Tick due) to e = inl (refl, refl)
own_place own (did.Fire h m taken) to e = inl (refl, refl)

no_one : (m : Message) (h : Handle) → ClockDid (did.Put h m true) → ⊥
no_one m h k = go (did.Put h m true) k where
  timed : What → Type 0
  timed (did.Tick more) = Unit {0}
  timed (did.Fire to n b) = Unit {0}
  timed _ = ⊥

  go : (what : What) → ClockDid what → timed what
  go what (ticks due) = tt
  go what (fires to x b) = tt

put_same : (h to : Handle) (m n : Message) (b d : Bool) → did.Put h m b ≡ did.Put to n d → m ≡ n
put_same h to m n b d e = cc

-- a message that is put has the agent's own handle as source, or 0
author : {S : Type 0} (way : Way S) (sound : S → Type 0) → IsLawful way sound → (w : World S) (h : Handle) (a : Agent S) (to : Handle) (m : Message) → IsWorld way sound w → agent w h ≡ Some a → IsOne (Asks (ask.Put to m)) (ops way a) → (m.source.0 ≡ h.0) ⊎ (m.source.0 ≡ 0)
author way sound lawful w h (Times due) to m ok there may = absurd (no_one m to (clock_did due (did.Put to m true) may))
author {S = S} way sound lawful w h (Serves x) to m ok there may = go x (ok.services h x (agent_is w h x there)) may where
  go : (y : Service S) → ServiceOk way sound h y → IsOne (Asks (ask.Put to m)) (service_ops way y) → (m.source.0 ≡ h.0) ⊎ (m.source.0 ≡ 0)
  go (Serving s) k o = turn (subst (MayPut way s) (asks_then (way.next s) (ask.Put to m) o) (lawful.told s k.0).puts) where
    own : (way.handle s).0 ≡ h.0
    own = ap (λ (z : Handle). z.0) k.1

    turn : MayPut way s (Ask (ask.Put to m)) → (m.source.0 ≡ h.0) ⊎ (m.source.0 ≡ 0)
    turn (inl p) = inl (ap (λ (z : Handle). z.0) p.1 ∙ own)
    turn (inr (inl p)) = inr p.1
    turn (inr (inr p)) = inl (ap (λ (z : Handle). z.0) p.3.source ∙ own)
  go (Leaving e) k o = turn (bounce_did e.own e.found e.bounces (did.Put to m true) o) where
    turn : LooksBack e.own e.found e.bounces (did.Put to m true) ⊎ PutsBack e.own e.found e.bounces (did.Put to m true) → (m.source.0 ≡ h.0) ⊎ (m.source.0 ≡ 0)
    turn (inl p) = absurd (cc (p.4))
    turn (inr p) = inl (ap (λ (z : Message). z.source.0) (put_same to p.0.source m (bounce e.own p.0) true p.1 p.4) ∙ ap (λ (z : Handle). z.0) k)

-- LISTS OF ONE ACT

eq_true : (a b : ℕ) → a ≡ b → (a == b) ≡ true
eq_true a b e = grind (arith, nat_tests, e)

eq_is : (a b : ℕ) → (a == b) ≡ true → a ≡ b
eq_is a b e = grind (arith, nat_tests)

from_zero : (s : Handle) (m : Message) → 0 < s.0 → m.source.0 ≡ 0 → of s (m ∷ []) ≡ []
from_zero s m big e = let k : (m.source.0 == s.0) ≡ false = grind (arith, nat_tests, big, e) in rw k refl

-- put to d, and taken up
put_here : (s d h : Handle) (what : What) → 0 < s.0 → ((to : Handle) (m : Message) → what ≡ did.Put to m true → (to.0 ≡ d.0) × ((m.source.0 ≡ h.0) ⊎ (m.source.0 ≡ 0))) → ((to : Handle) (m : Message) (b : Bool) → what ≡ did.Fire to m b → m.source.0 ≡ 0)
    → put_now s d h what ≡ of s (came what)
put_here s d h (did.Put to m true) big puts fires2 = go (puts to m refl).1 where
  at_d : (to.0 == d.0) ≡ true
  at_d = eq_true to.0 d.0 (puts to m refl).0

  by : (b : Bool) → is_from s m ≡ b → m.source.0 ≡ h.0 → (if (h.0 == s.0) && (to.0 == d.0) then of s (m ∷ []) else []) ≡ of s (m ∷ [])
  by true e k = let same : (h.0 == s.0) ≡ true = eq_true h.0 s.0 (sym k ∙ eq_is m.source.0 s.0 e) in ap (λ x. if x && (to.0 == d.0) then of s (m ∷ []) else []) same ∙ ap (λ x. if x then of s (m ∷ []) else []) at_d
  by false e k = let none : of s (m ∷ []) ≡ [] = ap (λ x. if x then m ∷ [] else []) e in ap (λ (z : List Message). if (h.0 == s.0) && (to.0 == d.0) then z else []) none ∙ (both ((h.0 == s.0) && (to.0 == d.0)) ∙ sym none) where
    both : (x : Bool) → ◌≡◌ {A = List Message} (if x then [] else []) []
    both true = refl
    both false = refl

  go : (m.source.0 ≡ h.0) ⊎ (m.source.0 ≡ 0) → (if (h.0 == s.0) && (to.0 == d.0) then of s (m ∷ []) else []) ≡ of s (m ∷ [])
  go (inl k) = by (is_from s m) refl k
  go (inr k) = let none = from_zero s m big k in ap (λ (z : List Message). if (h.0 == s.0) && (to.0 == d.0) then z else []) none ∙ (both ((h.0 == s.0) && (to.0 == d.0)) ∙ sym none) where
    both : (x : Bool) → ◌≡◌ {A = List Message} (if x then [] else []) []
    both true = refl
    both false = refl
put_here s d h (did.Put to m false) big puts fires2 = refl
put_here s d h (did.Fire to m true) big puts fires2 = sym (from_zero s m big (fires2 to m true refl))
put_here s d h (did.Fire to m false) big puts fires2 = refl
put_here s d h (did.Look dest found) big puts fires2 = refl
put_here s d h (did.Launch text args found) big puts fires2 = refl
put_here s d h (did.Name text g named) big puts fires2 = refl
put_here s d h (did.Retire g retired) big puts fires2 = refl
put_here s d h (did.Mark g) big puts fires2 = refl
put_here s d h (did.Later n x) big puts fires2 = refl
put_here s d h (did.Now n) big puts fires2 = refl
put_here s d h (did.Take m left) big puts fires2 = refl
put_here s d h (did.End ms) big puts fires2 = refl
put_here s d h (did.Tick due) big puts fires2 = refl

if_none : (b : Bool) → ◌≡◌ {A = List Message} (if b then [] else []) []
if_none true = refl
if_none false = refl

-- where d is the agent
taken_here : (s d h : Handle) (what : What) → (h.0 == d.0) ≡ true → taken_now s d h what ≡ of s (went what)
taken_here s d h (did.Take m left) e = ap (λ x. if x then of s (m ∷ []) else []) e
taken_here s d h (did.End ms) e = refl
taken_here s d h (did.Put to m b) e = refl
taken_here s d h (did.Fire to m b) e = refl
taken_here s d h (did.Look dest found) e = refl
taken_here s d h (did.Launch text args found) e = refl
taken_here s d h (did.Name text g named) e = refl
taken_here s d h (did.Retire g retired) e = refl
taken_here s d h (did.Mark g) e = refl
taken_here s d h (did.Later n x) e = refl
taken_here s d h (did.Now n) e = refl
taken_here s d h (did.Tick due) e = refl

left_here : (s d h : Handle) (what : What) → (h.0 == d.0) ≡ true → left_now s d h what ≡ of s (ended what)
left_here s d h (did.End ms) e = ap (λ x. if x then of s ms else []) e
left_here s d h (did.Take m left) e = refl
left_here s d h (did.Put to m b) e = refl
left_here s d h (did.Fire to m b) e = refl
left_here s d h (did.Look dest found) e = refl
left_here s d h (did.Launch text args found) e = refl
left_here s d h (did.Name text g named) e = refl
left_here s d h (did.Retire g retired) e = refl
left_here s d h (did.Mark g) e = refl
left_here s d h (did.Later n x) e = refl
left_here s d h (did.Now n) e = refl
left_here s d h (did.Tick due) e = refl

-- where it is not, or nothing went
taken_away : (s d h : Handle) (what : What) → (went what ≡ []) ⊎ ((h.0 == d.0) ≡ false) → taken_now s d h what ≡ []
taken_away s d h (did.Take m left) (inl e) = absurd (cc)
taken_away s d h (did.Take m left) (inr e) = ap (λ x. if x then of s (m ∷ []) else []) e
taken_away s d h (did.End ms) e = refl
taken_away s d h (did.Put to m b) e = refl
taken_away s d h (did.Fire to m b) e = refl
taken_away s d h (did.Look dest found) e = refl
taken_away s d h (did.Launch text args found) e = refl
taken_away s d h (did.Name text g named) e = refl
taken_away s d h (did.Retire g retired) e = refl
taken_away s d h (did.Mark g) e = refl
taken_away s d h (did.Later n x) e = refl
taken_away s d h (did.Now n) e = refl
taken_away s d h (did.Tick due) e = refl

left_away : (s d h : Handle) (what : What) → (ended what ≡ []) ⊎ ((h.0 == d.0) ≡ false) → left_now s d h what ≡ []
left_away s d h (did.End ms) (inl e) = ap (λ (z : List Message). if h.0 == d.0 then of s z else []) e ∙ if_none (h.0 == d.0)
left_away s d h (did.End ms) (inr e) = ap (λ x. if x then of s ms else []) e
left_away s d h (did.Take m left) e = refl
left_away s d h (did.Put to m b) e = refl
left_away s d h (did.Fire to m b) e = refl
left_away s d h (did.Look dest found) e = refl
left_away s d h (did.Launch text args found) e = refl
left_away s d h (did.Name text g named) e = refl
left_away s d h (did.Retire g retired) e = refl
left_away s d h (did.Mark g) e = refl
left_away s d h (did.Later n x) e = refl
left_away s d h (did.Now n) e = refl
left_away s d h (did.Tick due) e = refl

and_false : (a b : Bool) → b ≡ false → (a && b) ≡ false
and_false true b e = e
and_false false b e = refl

put_away : (s d h : Handle) (what : What) → ((to : Handle) (m : Message) → what ≡ did.Put to m true → (to.0 == d.0) ≡ false) → put_now s d h what ≡ []
put_away s d h (did.Put to m true) e = ap (λ x. if x then of s (m ∷ []) else []) (and_false (h.0 == s.0) (to.0 == d.0) (e to m refl))
put_away s d h (did.Put to m false) e = refl
put_away s d h (did.Take m left) e = refl
put_away s d h (did.End ms) e = refl
put_away s d h (did.Fire to m b) e = refl
put_away s d h (did.Look dest found) e = refl
put_away s d h (did.Launch text args found) e = refl
put_away s d h (did.Name text g named) e = refl
put_away s d h (did.Retire g retired) e = refl
put_away s d h (did.Mark g) e = refl
put_away s d h (did.Later n x) e = refl
put_away s d h (did.Now n) e = refl
put_away s d h (did.Tick due) e = refl

-- THE INBOX OF d AFTER AN ACT

get_other : {X : Type 0} (xs : List X) (i j : ℕ) (x : X) → (i ≡ j → ⊥) → slice_get (slice_set xs i x) j ≡ slice_get xs j
get_other [] i j x n = refl
get_other (z ∷ xs) zero zero x n = absurd (n refl)
get_other (z ∷ xs) zero (suc j) x n = refl
get_other (z ∷ xs) (suc i) zero x n = refl
get_other (z ∷ xs) (suc i) (suc j) x n = get_other xs i j x (λ e. n (ap suc e))

at_other : {X : Type 0} (xs : List X) (h g : ℕ) (x : X) → 0 < h → (h == g) ≡ false → at (set_at xs h x) g ≡ at xs g
at_other {X = X} xs h g x big ne = go (g == 0) refl where
  go : (b : Bool) → (g == 0) ≡ b → at (set_at xs h x) g ≡ at xs g
  go true e = rw e refl
  go false e =
      let apart : h - 1 ≡ g - 1 → ⊥ = λ k. cc (ne, eq_true h g (grind (arith, nat_tests, big, e, k))) in
      rw e (get_other xs (h - 1) (g - 1) x apart)

abbrev pub fresh_inbox : List Datum → InboxState
fresh_inbox args = record { status = Live; waiting = init_message args ∷ [] }

grown_waiting : (s : Handle) (xs : List InboxState) (args : List Datum) (d : ℕ) → 0 < s.0 → waiting_in s (at (xs ++ fresh_inbox args ∷ []) d) ≡ waiting_in s (at xs d)
grown_waiting s xs args d big = go (at xs d) refl where
  last : (q : Option InboxState) → at (xs ++ fresh_inbox args ∷ []) d ≡ q → at xs d ≡ None → waiting_in s q ≡ []
  last None e none = refl
  last (Some y) e none = turn (at_push xs d (fresh_inbox args) y e) where
    turn : (((d ≡ length xs + 1) × (y ≡ fresh_inbox args)) ⊎ (at xs d ≡ Some y)) → of s y.waiting ≡ []
    turn (inl p) = ap (λ (i : InboxState). of s i.waiting) p.1 ∙ from_zero s (init_message args) big refl
    turn (inr p) = absurd (cc (none, p))

  go : (q : Option InboxState) → at xs d ≡ q → waiting_in s (at (xs ++ fresh_inbox args ∷ []) d) ≡ waiting_in s (at xs d)
  go (Some i) e = ap (waiting_in s) (at_front xs (fresh_inbox args ∷ []) d i e) ∙ sym (ap (waiting_in s) e)
  go None e = last (at (xs ++ fresh_inbox args ∷ []) d) refl e ∙ sym (ap (waiting_in s) e)

abbrev pub GoneAt : {S : Type 0} → Handle → World S → Type 0
GoneAt d w = (i : InboxState) × (at w.inboxes d.0 ≡ Some i) × (i.status ≡ Gone)

grown_gone : {S : Type 0} (way : Way S) (what : What) (mid w2 : World S) (d : Handle) → Grows way what mid w2 → GoneAt d mid → GoneAt d w2
grown_gone way what mid w2 d (inl p) g = (g.0, ap (λ (z : World _). at z.inboxes d.0) p.0 ∙ g.1, g.2)
grown_gone way what mid w2 d (inr p) g = (g.0, ap (λ (z : World _). at z.inboxes d.0) p.grown ∙ at_front mid.inboxes (fresh_inbox p.args ∷ []) d.0 g.0 g.1, g.2)

grown_wait : {S : Type 0} (way : Way S) (what : What) (mid w2 : World S) (s d : Handle) → 0 < s.0 → Grows way what mid w2 → waiting_in s (at w2.inboxes d.0) ≡ waiting_in s (at mid.inboxes d.0)
grown_wait way what mid w2 s d big (inl p) = ap (λ (z : World _). waiting_in s (at z.inboxes d.0)) p.0
grown_wait way what mid w2 s d big (inr p) = ap (λ (z : World _). waiting_in s (at z.inboxes d.0)) p.grown ∙ grown_waiting s mid.inboxes p.args d.0 big

record Orders {S : Type 0} (s d h : Handle) (w w2 : World S) (what : What) : Type 0 where
  pub queue : waiting_in s (at w.inboxes d.0) ++ put_now s d h what ≡ taken_now s d h what ++ (left_now s d h what ++ waiting_in s (at w2.inboxes d.0))
  pub gone : (left_now s d h what ≡ []) ⊎ GoneAt d w2

-- nothing was done at the inbox of d
quiet : {S : Type 0} (s d h : Handle) (w w2 : World S) (what : What) → put_now s d h what ≡ [] → taken_now s d h what ≡ [] → left_now s d h what ≡ [] → waiting_in s (at w2.inboxes d.0) ≡ waiting_in s (at w.inboxes d.0) → Orders s d h w w2 what
quiet s d h w w2 what p t l same = record {
  queue = ap (λ z. waiting_in s (at w.inboxes d.0) ++ z) p ∙ (append-nil (waiting_in s (at w.inboxes d.0)) ∙ (sym same ∙ (ap (λ z. z ++ waiting_in s (at w2.inboxes d.0)) (sym l) ∙ ap (λ z. z ++ (left_now s d h what ++ waiting_in s (at w2.inboxes d.0))) (sym t))));
  gone = inl l;
}

place_put : (own to g : Handle) (what : What) (m : Message) (b : Bool) → place_of own (op_of what) ≡ TheInbox to → what ≡ did.Put g m b → g ≡ to
place_put own to g what m b e is = let k : TheInbox g ≡ TheInbox to = sym (ap (λ z. place_of own (op_of z)) is) ∙ e in cc

-- two parts of a journal
joins : (V p t l W P T L W' PP TT LL : List Message) → V ++ p ≡ t ++ (l ++ W) → W ++ P ≡ T ++ (L ++ W') → (l ≡ []) ⊎ (T ≡ []) → PP ≡ p ++ P → TT ≡ t ++ T → LL ≡ l ++ L → V ++ PP ≡ TT ++ (LL ++ W')
joins V p t l W P T L W' PP TT LL one two swap ep et el = rw (ep, et, el) (start ∙ (ap (λ z. t ++ z) (middle swap) ∙ sym (append_assoc t T ((l ++ L) ++ W')))) where
  start : V ++ (p ++ P) ≡ t ++ (l ++ (T ++ (L ++ W')))
  start = sym (append_assoc V p P) ∙ (ap (λ z. z ++ P) one ∙ (append_assoc t (l ++ W) P ∙ ap (λ z. t ++ z) (append_assoc l W P ∙ ap (λ z. l ++ z) two)))

  middle : (l ≡ []) ⊎ (T ≡ []) → l ++ (T ++ (L ++ W')) ≡ T ++ ((l ++ L) ++ W')
  middle (inl z) = ap (λ y. y ++ (T ++ (L ++ W'))) z ∙ ap (λ y. T ++ ((y ++ L) ++ W')) (sym z)
  middle (inr z) = ap (λ y. l ++ (y ++ (L ++ W'))) z ∙ (sym (append_assoc l L W') ∙ ap (λ y. y ++ ((l ++ L) ++ W')) (sym z))

-- nothing of a service waits at first
opening_waits : (s : Handle) (d : ℕ) → 0 < s.0 → waiting_in s (at (empty_inbox ∷ empty_inbox ∷ start_inbox ∷ []) d) ≡ []
opening_waits s d big =
    grown_waiting s (empty_inbox ∷ empty_inbox ∷ []) [] d big ∙ third (at (empty_inbox ∷ empty_inbox ∷ []) d) refl where
      third : (q : Option InboxState) → at (empty_inbox ∷ empty_inbox ∷ []) d ≡ q → waiting_in s q ≡ []
      third None e = refl
      third (Some y) e = second (at_push (empty_inbox ∷ []) d empty_inbox y e) where
        second : (((d ≡ 2) × (y ≡ empty_inbox)) ⊎ (at (empty_inbox ∷ []) d ≡ Some y)) → of s y.waiting ≡ []
        second (inl p) = ap (λ (i : InboxState). of s i.waiting) p.1
        second (inr p) = first (at_push [] d empty_inbox y p) where
          first : (((d ≡ 1) × (y ≡ empty_inbox)) ⊎ (at [] d ≡ Some y)) → of s y.waiting ≡ []
          first (inl q) = ap (λ (i : InboxState). of s i.waiting) q.1
          first (inr q) = let there = at_is [] d y q in absurd (cc (there.1))

module _ {S : Type 0} (way : Way S) (sound : S → Type 0) (lawful : IsLawful way sound) where
  timer_zero : (a : Agent S) (what : What) (to : Handle) (m : Message) (b : Bool) → IsOne (op_of what) (ops way a) → what ≡ did.Fire to m b → m.source.0 ≡ 0
  timer_zero a what to m b may is =
      let t : IsTimely (op_of what) = timely way a what may in
      let k : IsTimely (Fires to m) = subst (λ z. IsTimely (op_of z)) is t in
      ap (λ (z : Message). z.source.0) k.1

  act_orders : (s d h : Handle) (w : World S) (r : What × World S) → 0 < s.0 → IsWorld way sound w → (x : Acted way w h r) → Orders s d h w r.1 r.0
  act_orders s d h w r big ok x = go x.inboxes where
    wrote : (to : Handle) (m : Message) → r.0 ≡ did.Put to m true → (m.source.0 ≡ h.0) ⊎ (m.source.0 ≡ 0)
    wrote to m is = author way sound lawful w h x.who to m ok x.there (subst (λ z. IsOne (op_of z) (ops way x.who)) is x.may)

    go : AtOne w h (op_of r.0) r.0 x.mid.inboxes ⊎ AtNone w h (op_of r.0) x.mid.inboxes → Orders s d h w r.1 r.0
    go (inr n) =
        quiet s d h w r.1 r.0 (put_away s d h r.0 (λ to m is. absurd (n.other to (ap (λ z. place_of h (op_of z)) is))))
        (taken_away s d h r.0 (inl (none_went h r.0 n.other).0)) (left_away s d h r.0 (inl (none_went h r.0 n.other).1))
        (grown_wait way r.0 x.mid r.1 s d big x.grows ∙ ap (λ z. waiting_in s (at z d.0)) n.kept) where
          none_went : (own : Handle) (what : What) → ((to : Handle) → place_of own (op_of what) ≢ TheInbox to) → (went what ≡ []) × (ended what ≡ [])
          none_went own (did.Take m left) other = absurd (other own refl)
          none_went own (did.End ms) other = absurd (other own refl)
          none_went own (did.Look dest found) other = (refl, refl)
          none_went own (did.Put g m taken) other = (refl, refl)
          none_went own (did.Launch text args found) other = (refl, refl)
          none_went own (did.Name text g named) other = (refl, refl)
          none_went own (did.Retire g retired) other = (refl, refl)
          none_went own (did.Mark g) other = (refl, refl)
          none_went own (did.Later n2 x2) other = (refl, refl)
          none_went own (did.Now n2) other = (refl, refl)
          none_went own (did.Tick due) other = (refl, refl)
          none_went own (did.Fire g m taken) other = (refl, refl)
    go (inl p) = at_to (p.to.0 == d.0) refl where
      away : (h ≡ p.to) → (p.to.0 == d.0) ≡ false → (h.0 == d.0) ≡ false
      away e ne = ap (λ (z : Handle). z.0 == d.0) e ∙ ne

      here : (h ≡ p.to) → (p.to.0 == d.0) ≡ true → (h.0 == d.0) ≡ true
      here e is = ap (λ (z : Handle). z.0 == d.0) e ∙ is

      -- what went is what d took
      takes_is : (p.to.0 == d.0) ≡ true → taken_now s d h r.0 ≡ of s (went r.0)
      takes_is is = turn (own_place h r.0 p.to p.place) where
        turn : ((went r.0 ≡ []) × (ended r.0 ≡ [])) ⊎ (h ≡ p.to) → taken_now s d h r.0 ≡ of s (went r.0)
        turn (inl z) = taken_away s d h r.0 (inl z.0) ∙ sym (ap (of s) z.0)
        turn (inr e) = taken_here s d h r.0 (here e is)

      leaves_is : (p.to.0 == d.0) ≡ true → left_now s d h r.0 ≡ of s (ended r.0)
      leaves_is is = turn (own_place h r.0 p.to p.place) where
        turn : ((went r.0 ≡ []) × (ended r.0 ≡ [])) ⊎ (h ≡ p.to) → left_now s d h r.0 ≡ of s (ended r.0)
        turn (inl z) = left_away s d h r.0 (inl z.1) ∙ sym (ap (of s) z.1)
        turn (inr e) = left_here s d h r.0 (here e is)

      none_of : ((went r.0 ≡ []) × (ended r.0 ≡ [])) ⊎ (h ≡ p.to) → (p.to.0 == d.0) ≡ false → (taken_now s d h r.0 ≡ []) × (left_now s d h r.0 ≡ [])
      none_of (inl z) ne = (taken_away s d h r.0 (inl z.0), left_away s d h r.0 (inl z.1))
      none_of (inr e) ne = (taken_away s d h r.0 (inr (away e ne)), left_away s d h r.0 (inr (away e ne)))

      at_to : (b : Bool) → (p.to.0 == d.0) ≡ b → Orders s d h w r.1 r.0
      at_to false ne =
          let z = none_of (own_place h r.0 p.to p.place) ne in
          quiet s d h w r.1 r.0 (put_away s d h r.0 (λ to m is. ap (λ (g : Handle). g.0 == d.0) (place_put h p.to to r.0 m true p.place is) ∙ ne)) z.0 z.1
          (grown_wait way r.0 x.mid r.1 s d big x.grows ∙ (ap (λ z2. waiting_in s (at z2 d.0)) p.set ∙ ap (waiting_in s) (at_other w.inboxes p.to.0 d.0 p.after (at_is w.inboxes p.to.0 p.before p.there).0 ne)))
      at_to true is =
          let same : p.to.0 ≡ d.0 = eq_is p.to.0 d.0 is in
          let q = inbox_queues (op_of r.0) p.before p.after r.0 p.does in
          let before : waiting_in s (at w.inboxes d.0) ≡ of s p.before.waiting = ap (λ n. waiting_in s (at w.inboxes n)) (sym same) ∙ ap (waiting_in s) p.there in
          let mid_is : at x.mid.inboxes d.0 ≡ Some p.after = ap (λ z. at z d.0) p.set ∙ (ap (at (set_at w.inboxes p.to.0 p.after)) (sym same) ∙ at_here w.inboxes p.to.0 p.after p.before p.there) in
          let after : waiting_in s (at r.1.inboxes d.0) ≡ of s p.after.waiting = grown_wait way r.0 x.mid r.1 s d big x.grows ∙ ap (waiting_in s) mid_is in
          let put_is : put_now s d h r.0 ≡ of s (came r.0) = put_here s d h r.0 big (λ to m e. (ap (λ (g : Handle). g.0) (place_put h p.to to r.0 m true p.place e) ∙ same, wrote to m e)) (λ to m b e. timer_zero x.who r.0 to m b x.may e) in
          let filtered : of s p.before.waiting ++ of s (came r.0) ≡ of s (went r.0) ++ (of s (ended r.0) ++ of s p.after.waiting) =
          sym (filter-append (is_from s) p.before.waiting (came r.0)) ∙ (ap (of s) q.queue ∙ (filter-append (is_from s) (went r.0) (ended r.0 ++ p.after.waiting) ∙ ap (λ z. of s (went r.0) ++ z) (filter-append (is_from s) (ended r.0) p.after.waiting))) in
          record {
            queue = ap (λ z. z ++ put_now s d h r.0) before ∙ (ap (λ z. of s p.before.waiting ++ z) put_is ∙ (filtered
                ∙ (ap (λ z. z ++ (of s (ended r.0) ++ of s p.after.waiting)) (sym (takes_is is)) ∙ (ap (λ z. taken_now s d h r.0 ++ (z ++ of s p.after.waiting)) (sym (leaves_is is)) ∙ ap (λ z. taken_now s d h r.0 ++ (left_now s d h r.0 ++ z)) (sym after)))));
            gone = ends q.gone mid_is;
          } where
            ends : (ended r.0 ≡ []) ⊎ (p.after.status ≡ Gone) → at x.mid.inboxes d.0 ≡ Some p.after → (left_now s d h r.0 ≡ []) ⊎ GoneAt d r.1
            ends (inl z) m = inl (left_away s d h r.0 (inl z))
            ends (inr z) m = inr (grown_gone way r.0 x.mid r.1 d x.grows (p.after, m, z))

  -- d has ended: its inbox stays gone, and it takes nothing more
  gone_step : (s d h : Handle) (w : World S) (r : What × World S) → GoneAt d w → (x : Acted way w h r) → GoneAt d r.1 × (taken_now s d h r.0 ≡ [])
  gone_step s d h w r g x = go x.inboxes where
    go : AtOne w h (op_of r.0) r.0 x.mid.inboxes ⊎ AtNone w h (op_of r.0) x.mid.inboxes → GoneAt d r.1 × (taken_now s d h r.0 ≡ [])
    go (inr n) = (grown_gone way r.0 x.mid r.1 d x.grows (g.0, ap (λ z. at z d.0) n.kept ∙ g.1, g.2), taken_away s d h r.0 (inl (none h r.0 n.other))) where
      none : (own : Handle) (what : What) → ((to : Handle) → place_of own (op_of what) ≢ TheInbox to) → went what ≡ []
      none own (did.Take m left) other = absurd (other own refl)
      none own (did.End ms) other = refl
      none own (did.Look dest found) other = refl
      none own (did.Put k m taken) other = refl
      none own (did.Launch text args found) other = refl
      none own (did.Name text k named) other = refl
      none own (did.Retire k retired) other = refl
      none own (did.Mark k) other = refl
      none own (did.Later n2 x2) other = refl
      none own (did.Now n2) other = refl
      none own (did.Tick due) other = refl
      none own (did.Fire k m taken) other = refl
    go (inl p) = at_to (p.to.0 == d.0) refl where
      at_to : (b : Bool) → (p.to.0 == d.0) ≡ b → GoneAt d r.1 × (taken_now s d h r.0 ≡ [])
      at_to false ne =
          let kept : at x.mid.inboxes d.0 ≡ Some g.0 = ap (λ z2. at z2 d.0) p.set ∙ (at_other w.inboxes p.to.0 d.0 p.after (at_is w.inboxes p.to.0 p.before p.there).0 ne ∙ g.1) in
          (grown_gone way r.0 x.mid r.1 d x.grows (g.0, kept, g.2), taken_away s d h r.0 (turn (own_place h r.0 p.to p.place))) where
            turn : ((went r.0 ≡ []) × (ended r.0 ≡ [])) ⊎ (h ≡ p.to) → (went r.0 ≡ []) ⊎ ((h.0 == d.0) ≡ false)
            turn (inl z) = inl z.0
            turn (inr e) = inr (ap (λ (z : Handle). z.0 == d.0) e ∙ ne)
      at_to true is =
          let same : p.to.0 ≡ d.0 = eq_is p.to.0 d.0 is in
          let before : Some p.before ≡ Some g.0 = sym p.there ∙ (ap (at w.inboxes) same ∙ g.1) in
          let before_is : p.before ≡ g.0 = cc in
          let k = gone_kept (op_of r.0) p.before p.after r.0 p.does (ap (λ (i : InboxState). i.status) before_is ∙ g.2) in
          let mid_is : at x.mid.inboxes d.0 ≡ Some p.after = ap (λ z. at z d.0) p.set ∙ (ap (at (set_at w.inboxes p.to.0 p.after)) (sym same) ∙ at_here w.inboxes p.to.0 p.after p.before p.there) in
          (grown_gone way r.0 x.mid r.1 d x.grows (p.after, mid_is, k.0), taken_away s d h r.0 (inl k.1))

  along_step : (f : Handle → What → List Message) (h : Handle) (hs : List Handle) (w : World S) (r : What × World S) → act way w h ≡ Some r → along way f (h ∷ hs) w ≡ f h r.0 ++ along way f hs r.1
  along_step f h hs w r e = ap (λ q. with_list q (f h) (λ v. along way f hs v)) e

  gone_takes : (s d : Handle) (hs : List Handle) (w w2 : World S) → GoneAt d w → after way hs w ≡ Some w2 → along way (taken_now s d) hs w ≡ []
  gone_takes s d [] w w2 g e = refl
  gone_takes s d (h ∷ hs) w w2 g e = go (λ v k x. gone_takes s d hs v w2 k x) (act way w h) refl e where
    go : ((v : World S) → GoneAt d v → after way hs v ≡ Some w2 → along way (taken_now s d) hs v ≡ []) → (q : Option (What × World S)) → act way w h ≡ q → go_on q (λ v. after way hs v) ≡ Some w2 → along way (taken_now s d) (h ∷ hs) w ≡ []
    go later None eq x = absurd (cc)
    go later (Some r) eq x =
        let k = gone_step s d h w r g (acted way w h r eq) in
        along_step (taken_now s d) h hs w r eq ∙ (ap (λ z. z ++ along way (taken_now s d) hs r.1) k.1 ∙ later r.1 k.0 x)

  in_order : (s d : Handle) (hs : List Handle) (w w2 : World S) → 0 < s.0 → IsFresh way sound w → after way hs w ≡ Some w2
      → waiting_in s (at w.inboxes d.0) ++ along way (put_now s d) hs w ≡ along way (taken_now s d) hs w ++ (along way (left_now s d) hs w ++ waiting_in s (at w2.inboxes d.0))
  in_order s d [] w w2 big fresh e = let same : w ≡ w2 = cc in append-nil (waiting_in s (at w.inboxes d.0)) ∙ ap (λ (z : World S). waiting_in s (at z.inboxes d.0)) same
  in_order s d (h ∷ hs) w w2 big fresh e = go (λ v f x. in_order s d hs v w2 big f x) (act way w h) refl e where
    go : ((v : World S) → IsFresh way sound v → after way hs v ≡ Some w2 → waiting_in s (at v.inboxes d.0) ++ along way (put_now s d) hs v ≡ along way (taken_now s d) hs v ++ (along way (left_now s d) hs v ++ waiting_in s (at w2.inboxes d.0)))
        → (q : Option (What × World S)) → act way w h ≡ q → go_on q (λ v. after way hs v) ≡ Some w2
        → waiting_in s (at w.inboxes d.0) ++ along way (put_now s d) (h ∷ hs) w ≡ along way (taken_now s d) (h ∷ hs) w ++ (along way (left_now s d) (h ∷ hs) w ++ waiting_in s (at w2.inboxes d.0))
    go later None eq x = absurd (cc)
    go later (Some r) eq x =
        let k = acted way w h r eq in
        let o = act_orders s d h w r big fresh.world k in
        joins (waiting_in s (at w.inboxes d.0)) (put_now s d h r.0) (taken_now s d h r.0) (left_now s d h r.0) (waiting_in s (at r.1.inboxes d.0)) (along way (put_now s d) hs r.1) (along way (taken_now s d) hs r.1) (along way (left_now s d) hs r.1) (waiting_in s (at w2.inboxes d.0))
        (along way (put_now s d) (h ∷ hs) w) (along way (taken_now s d) (h ∷ hs) w) (along way (left_now s d) (h ∷ hs) w)
        o.queue (later r.1 (fresh_kept way sound lawful w h r fresh k) x) (swaps o.gone) (along_step (put_now s d) h hs w r eq) (along_step (taken_now s d) h hs w r eq) (along_step (left_now s d) h hs w r eq) where
          swaps : (left_now s d h r.0 ≡ []) ⊎ GoneAt d r.1 → (left_now s d h r.0 ≡ []) ⊎ (along way (taken_now s d) hs r.1 ≡ [])
          swaps (inl z) = inl z
          swaps (inr g) = inr (gone_takes s d hs r.1 w2 g x)

  pub order_kept : (s d : Handle) (hs : List Handle) (w w2 : World S) → 0 < s.0 → IsOpening way sound w → after way hs w ≡ Some w2
      → along way (put_now s d) hs w ≡ along way (taken_now s d) hs w ++ (along way (left_now s d) hs w ++ waiting_in s (at w2.inboxes d.0))
  order_kept s d hs w w2 big o e = ap (λ z. z ++ along way (put_now s d) hs w) (sym (empty (at w.inboxes d.0) refl)) ∙ in_order s d hs w w2 big (fresh_opening way sound lawful w o) e where
    -- nothing of s waits at first
    empty : (q : Option InboxState) → at w.inboxes d.0 ≡ q → waiting_in s (at w.inboxes d.0) ≡ []
    empty q there = ap (λ (z : World S). waiting_in s (at z.inboxes d.0)) o.same ∙ opening_waits s d.0 big
