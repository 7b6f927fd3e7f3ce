-- A service serves exactly where its inbox is not gone; and a handle that is listed no more has an inbox that closes, or
-- its Mark is asked.
use Rattle.std.proofs.Common.{◌⊎◌, inl, inr, ℕ, ◌≡◌, ◌<◌, ◌+◌, Bool, true, false, List, [], ◌∷◌, ◌++◌, length, Option, Some, None, if◌then◌else◌, refl, ap, sym, ◌∙◌, subst}
use Rattle.message.specs.Actors.{Way, IsLawful, Fits, Marks}
use Rattle.message.specs.Inboxes.{accepts, added, put, fire, mark, marked, take_first, end}
use Rattle.message.specs.Registries.{Registry, at, set_at, retire, may_retire, may_name, name, does_look, does_launch, does_name, does_retire}
use Rattle.message.specs.Steps.{Op, Asks, Takes, Ends, Ticks, Fires, IsOne, next_ops, op_of, input_of, service_after, serving_after, inbox_does, registry_does, made}
use Rattle.sk_types.specs.declared.number.Handle.{Handle}
use Rattle.message.specs.declared.datum.Datum.{Datum}
use Rattle.message.specs.declared.request.Message.{Message}
use Rattle.message.specs.declared.request.Request.TheVariants as ask
use Rattle.message.specs.declared.request.Answer.TheVariants.{Flag}
use Rattle.message.specs.declared.request.Input.TheVariants.{Answer as Answers}
use Rattle.message.specs.declared.request.Next.{Next}
use Rattle.message.specs.declared.request.Next.TheVariants.{Ask}
use Rattle.message.specs.declared.record.What.{What}
use Rattle.message.specs.declared.record.What.TheVariants as did
use Rattle.message.specs.declared.place.InboxState.{InboxState}
use Rattle.message.specs.declared.place.InboxStatus.{InboxStatus}
use Rattle.message.specs.declared.place.InboxStatus.TheVariants.{Live, Closing, Gone}
use Rattle.message.specs.declared.place.Service.{Service}
use Rattle.message.specs.declared.place.Service.TheVariants.{Serving, Leaving}
use Rattle.call_fates.proofs.Forms.{asks_then}
use Rattle.call_fates.proofs.Lists.{handle_is, at_set, at_push, at_kept, at_front}
use Rattle.call_fates.proofs.Given.{given_listed, may_retire_listed}
use Rattle.call_fates.proofs.Speaks.{asks_only}

-- INBOXES

abbrev pub is_gone : InboxStatus → Bool
is_gone Live = false
is_gone Closing = false
is_gone Gone = true

abbrev pub is_live : InboxStatus → Bool
is_live Live = true
is_live Closing = false
is_live Gone = false

abbrev pub is_end : What → Bool
is_end (did.End ms) = true
is_end _ = false

-- what is done at an inbox, if it is no End
pub record Keeps (i j : InboxState) : Type 0 where
  pub gone : is_gone j.status ≡ is_gone i.status
  pub waiting : is_gone i.status ≡ true → j.waiting ≡ i.waiting
  pub live : is_live i.status ≡ false → is_live j.status ≡ false

-- an End
pub record Ended (j : InboxState) : Type 0 where
  pub gone : is_gone j.status ≡ true
  pub waiting : j.waiting ≡ []
  pub live : is_live j.status ≡ false

abbrev pub KeepsOrEnds : What → InboxState → InboxState → Type 0
KeepsOrEnds what i j = ((is_end what ≡ false) × Keeps i j) ⊎ ((is_end what ≡ true) × Ended j)

done_as : (i : InboxState) (d : What × InboxState) (what : What) (j : InboxState) → ◌≡◌ {A = Option (What × InboxState)} (Some d) (Some (what, j)) → KeepsOrEnds d.0 i d.1 → KeepsOrEnds what i j
done_as i d what j e k = let same : d ≡ (what, j) = cc in subst (λ (z : What × InboxState). KeepsOrEnds z.0 i z.1) same k

same_keeps : (i : InboxState) → Keeps i i
same_keeps i = record { gone = refl; waiting = λ g. refl; live = λ l. l }

added_keeps : (i : InboxState) (m : Message) → Keeps i (added i m)
added_keeps i m = go i.status refl where
  go : (s : InboxStatus) → i.status ≡ s → Keeps i (if accepts s then record { status = i.status; waiting = i.waiting ++ m ∷ [] } else i)
  go Live e = record { gone = refl; waiting = λ g. absurd (cc (ap is_gone e)); live = λ l. l }
  go Closing e = record { gone = refl; waiting = λ g. absurd (cc (ap is_gone e)); live = λ l. l }
  go Gone e = same_keeps i

mark_keeps : (i : InboxState) → Keeps i (record { status = marked i.status; waiting = i.waiting })
mark_keeps i = record { gone = gone i.status; waiting = λ g. refl; live = live i.status } where
  gone : (s : InboxStatus) → is_gone (marked s) ≡ is_gone s
  gone Live = refl
  gone Closing = refl
  gone Gone = refl

  live : (s : InboxStatus) → is_live s ≡ false → is_live (marked s) ≡ false
  live Live e = refl
  live Closing e = refl
  live Gone e = refl

take_keeps : (i : InboxState) (s : InboxStatus) (ms : List Message) (what : What) (j : InboxState) → i.status ≡ s → take_first s ms ≡ Some (what, j) → KeepsOrEnds what i j
take_keeps i Live [] what j e k = absurd (cc)
take_keeps i Live (m ∷ ms) what j e k = done_as i (did.Take m (length ms), record { status = Live; waiting = ms }) what j k (inl (refl, record { gone = sym (ap is_gone e); waiting = λ g. absurd (cc (ap is_gone e)); live = λ l. absurd (cc (ap is_live e)) }))
take_keeps i Closing ms what j e k = absurd (cc)
take_keeps i Gone ms what j e k = absurd (cc)

end_keeps : (i : InboxState) (s : InboxStatus) (ms : List Message) (what : What) (j : InboxState) → end s ms ≡ Some (what, j) → KeepsOrEnds what i j
end_keeps i Live ms what j k = absurd (cc)
end_keeps i Closing ms what j k = done_as i (did.End ms, record { status = Gone; waiting = [] }) what j k (inr (refl, record { gone = refl; waiting = refl; live = refl }))
end_keeps i Gone ms what j k = absurd (cc)

pub inbox_keeps : (op : Op) (i : InboxState) (what : What) (j : InboxState) → inbox_does op i ≡ Some (what, j) → KeepsOrEnds what i j
inbox_keeps (Asks (ask.Put to m)) i what j e = done_as i (put to m i) what j e (inl (refl, added_keeps i m))
inbox_keeps (Asks (ask.Mark to)) i what j e = done_as i (mark to i) what j e (inl (refl, mark_keeps i))
inbox_keeps Takes i what j e = take_keeps i i.status i.waiting what j refl e
inbox_keeps Ends i what j e = end_keeps i i.status i.waiting what j e
inbox_keeps (Fires to m) i what j e = done_as i (fire to m i) what j e (inl (refl, added_keeps i m))
inbox_keeps (Asks (ask.Look d)) i what j e = absurd (cc)
inbox_keeps (Asks (ask.Launch text args)) i what j e = absurd (cc)
inbox_keeps (Asks (ask.Name text to)) i what j e = absurd (cc)
inbox_keeps (Asks (ask.Retire to)) i what j e = absurd (cc)
inbox_keeps (Asks (ask.Later n x)) i what j e = absurd (cc)
inbox_keeps (Asks ask.Now) i what j e = absurd (cc)
inbox_keeps Ticks i what j e = absurd (cc)

-- A SERVICE AND ITS INBOX

-- a service serves where its inbox is not gone; where it has ended, nothing waits
abbrev pub IsHome : {S : Type 0} → Service S → InboxState → Type 0
IsHome (Serving s) i = is_gone i.status ≡ false
IsHome (Leaving e) i = (is_gone i.status ≡ true) × (i.waiting ≡ [])

-- a service that does not end serves on
serves_on : {S : Type 0} (way : Way S) (s : S) (what : What) → is_end what ≡ false → serving_after way s what ≡ Serving (way.fed s (input_of what))
serves_on way s (did.End ms) e = absurd (cc)
serves_on way s (did.Look d f) e = refl
serves_on way s (did.Put to m b) e = refl
serves_on way s (did.Launch text args f) e = refl
serves_on way s (did.Name text to b) e = refl
serves_on way s (did.Retire to b) e = refl
serves_on way s (did.Mark to) e = refl
serves_on way s (did.Later n x) e = refl
serves_on way s (did.Now n) e = refl
serves_on way s (did.Take m l) e = refl
serves_on way s (did.Tick due) e = refl
serves_on way s (did.Fire to m b) e = refl

pub service_stays : {S : Type 0} (way : Way S) (y : Service S) (i : InboxState) (what : What) → is_end what ≡ false → IsHome y i → IsHome (service_after way y what) i
service_stays way (Serving s) i what e k = subst (λ z. IsHome z i) (sym (serves_on way s what e)) k
service_stays way (Leaving a) i what e k = k

-- what ended has ended
pub end_is : (what : What) → is_end what ≡ true → (ms : List Message) × (what ≡ did.End ms)
end_is (did.End ms) e = (ms, refl)
end_is (did.Look d f) e = absurd (cc)
end_is (did.Put to m b) e = absurd (cc)
end_is (did.Launch text args f) e = absurd (cc)
end_is (did.Name text to b) e = absurd (cc)
end_is (did.Retire to b) e = absurd (cc)
end_is (did.Mark to) e = absurd (cc)
end_is (did.Later n x) e = absurd (cc)
end_is (did.Now n) e = absurd (cc)
end_is (did.Take m l) e = absurd (cc)
end_is (did.Tick due) e = absurd (cc)
end_is (did.Fire to m b) e = absurd (cc)

pub service_ends : {S : Type 0} (way : Way S) (y : Service S) (what : What) (j : InboxState) → is_end what ≡ true → Ended j → IsHome (service_after way y what) j
service_ends way (Serving s) what j e k = let p = end_is what e in subst (λ z. IsHome (serving_after way s z) j) (sym p.1) (k.gone, k.waiting)
service_ends way (Leaving a) what j e k = (k.gone, k.waiting)

inbox_keeps_home : {S : Type 0} (y : Service S) (i j : InboxState) → Keeps i j → IsHome y i → IsHome y j
inbox_keeps_home (Serving s) i j k o = k.gone ∙ o
inbox_keeps_home (Leaving e) i j k o = (k.gone ∙ o.0, k.waiting o.0 ∙ o.1)

-- the service that acts, at its own inbox
pub both_home : {S : Type 0} (way : Way S) (y : Service S) (i j : InboxState) (what : What) → KeepsOrEnds what i j → IsHome y i → IsHome (service_after way y what) j
both_home way y i j what (inl p) o = service_stays way y j what p.0 (inbox_keeps_home y i j p.1 o)
both_home way y i j what (inr p) o = service_ends way y what j p.0 p.1

-- at the inbox of another, which ends nothing
pub other_home : {S : Type 0} (y : Service S) (i j : InboxState) (what : What) → KeepsOrEnds what i j → is_end what ≡ false → IsHome y i → IsHome y j
other_home y i j what (inl p) e o = inbox_keeps_home y i j p.1 o
other_home y i j what (inr p) e o = absurd (cc (p.0))

-- WHO IS LISTED

-- the handle was listed no more before, or was retired now
abbrev pub WasOff : Registry → What → Handle → Type 0
WasOff r what g = (at r.listed g.0 ≡ Some false) ⊎ (what ≡ did.Retire g true)

off_by : (r : Registry) (d : What × Registry) (what : What) (r2 : Registry) (g : Handle) → ◌≡◌ {A = Option (What × Registry)} (Some d) (Some (what, r2)) → (at d.1.listed g.0 ≡ Some false → WasOff r d.0 g) → at r2.listed g.0 ≡ Some false → WasOff r what g
off_by r d what r2 g e k = let same : d ≡ (what, r2) = cc in subst (λ (z : What × Registry). at z.1.listed g.0 ≡ Some false → WasOff r z.0 g) same k

retire_off : (r : Registry) (h g : Handle) (b : Bool) → may_retire r h ≡ b → at (if b then retire r h else r).listed g.0 ≡ Some false → WasOff r (did.Retire h b) g
retire_off r h g true m e = go (at_set r.listed h.0 g.0 false false (above m) e) where
  above : may_retire r h ≡ true → 0 < h.0
  above k = (given_listed r.listed h (may_retire_listed r h k)).above

  go : ((g.0 ≡ h.0) × (◌≡◌ {A = Bool} false false)) ⊎ (at r.listed g.0 ≡ Some false) → WasOff r (did.Retire h true) g
  go (inl p) = inr (ap (λ z. did.Retire z true) (sym (handle_is g h p.0)))
  go (inr p) = inl p
retire_off r h g false m e = inl e

launch_off : {S : Type 0} (r : Registry) (text : List ℕ) (args : List Datum) (q : Option S) (g : Handle) → at (does_launch r text args q).1.listed g.0 ≡ Some false → WasOff r (does_launch r text args q).0 g
launch_off r text args None g e = inl e
launch_off r text args (Some s) g e = go (at_push r.listed g.0 true false e) where
  go : ((g.0 ≡ length r.listed + 1) × (◌≡◌ {A = Bool} false true)) ⊎ (at r.listed g.0 ≡ Some false) → WasOff r (does_launch r text args (Some s)).0 g
  go (inl p) = absurd (apart p.1) where
    apart : ◌≡◌ {A = Bool} false true → ⊥
    apart k = cc
  go (inr p) = inl p

name_off : (r : Registry) (text : List ℕ) (h g : Handle) (b : Bool) → at (if b then name r text h else r).listed g.0 ≡ Some false → WasOff r (did.Name text h b) g
name_off r text h g true e = inl e
name_off r text h g false e = inl e

pub registry_off : {S : Type 0} (way : Way S) (op : Op) (r : Registry) (what : What) (r2 : Registry) (g : Handle) → registry_does way op r ≡ Some (what, r2) → at r2.listed g.0 ≡ Some false → WasOff r what g
registry_off way (Asks (ask.Look d)) r what r2 g e = off_by r (does_look r d) what r2 g e (λ k. inl k)
registry_off way (Asks (ask.Launch text args)) r what r2 g e = off_by r (does_launch r text args (made way r text)) what r2 g e (launch_off r text args (made way r text) g)
registry_off way (Asks (ask.Name text h)) r what r2 g e = off_by r (does_name r text h) what r2 g e (name_off r text h g (may_name r text h))
registry_off way (Asks (ask.Retire h)) r what r2 g e = off_by r (does_retire r h) what r2 g e (retire_off r h g (may_retire r h) refl)
registry_off way (Asks (ask.Put to m)) r what r2 g e = absurd (cc)
registry_off way (Asks (ask.Mark to)) r what r2 g e = absurd (cc)
registry_off way (Asks (ask.Later n x)) r what r2 g e = absurd (cc)
registry_off way (Asks ask.Now) r what r2 g e = absurd (cc)
registry_off way Takes r what r2 g e = absurd (cc)
registry_off way Ends r what r2 g e = absurd (cc)
registry_off way Ticks r what r2 g e = absurd (cc)
registry_off way (Fires h m) r what r2 g e = absurd (cc)

-- what is listed no more stays so
abbrev pub StaysOff : Registry → Registry → Handle → Type 0
StaysOff r r2 g = at r.listed g.0 ≡ Some false → at r2.listed g.0 ≡ Some false

stays_by : (r : Registry) (d : What × Registry) (what : What) (r2 : Registry) (g : Handle) → ◌≡◌ {A = Option (What × Registry)} (Some d) (Some (what, r2)) → StaysOff r d.1 g → StaysOff r r2 g
stays_by r d what r2 g e k = let same : d ≡ (what, r2) = cc in subst (λ (z : What × Registry). StaysOff r z.1 g) same k

retire_stays : (r : Registry) (h g : Handle) (b : Bool) → may_retire r h ≡ b → StaysOff r (if b then retire r h else r) g
retire_stays r h g true m e = go (at_kept r.listed h.0 g.0 false false (given_listed r.listed h (may_retire_listed r h m)).above e) where
  go : (at (set_at r.listed h.0 false) g.0 ≡ Some false) ⊎ ((g.0 ≡ h.0) × (at (set_at r.listed h.0 false) g.0 ≡ Some false)) → at (set_at r.listed h.0 false) g.0 ≡ Some false
  go (inl p) = p
  go (inr p) = p.1
retire_stays r h g false m e = e

launch_stays : {S : Type 0} (r : Registry) (text : List ℕ) (args : List Datum) (q : Option S) (g : Handle) → StaysOff r (does_launch r text args q).1 g
launch_stays r text args None g e = e
launch_stays r text args (Some s) g e = at_front r.listed (true ∷ []) g.0 false e

name_stays : (r : Registry) (text : List ℕ) (h g : Handle) (b : Bool) → StaysOff r (if b then name r text h else r) g
name_stays r text h g true e = e
name_stays r text h g false e = e

pub registry_stays : {S : Type 0} (way : Way S) (op : Op) (r : Registry) (what : What) (r2 : Registry) (g : Handle) → registry_does way op r ≡ Some (what, r2) → StaysOff r r2 g
registry_stays way (Asks (ask.Look d)) r what r2 g e = stays_by r (does_look r d) what r2 g e (λ k. k)
registry_stays way (Asks (ask.Launch text args)) r what r2 g e = stays_by r (does_launch r text args (made way r text)) what r2 g e (launch_stays r text args (made way r text) g)
registry_stays way (Asks (ask.Name text h)) r what r2 g e = stays_by r (does_name r text h) what r2 g e (name_stays r text h g (may_name r text h))
registry_stays way (Asks (ask.Retire h)) r what r2 g e = stays_by r (does_retire r h) what r2 g e (retire_stays r h g (may_retire r h) refl)
registry_stays way (Asks (ask.Put to m)) r what r2 g e = absurd (cc)
registry_stays way (Asks (ask.Mark to)) r what r2 g e = absurd (cc)
registry_stays way (Asks (ask.Later n x)) r what r2 g e = absurd (cc)
registry_stays way (Asks ask.Now) r what r2 g e = absurd (cc)
registry_stays way Takes r what r2 g e = absurd (cc)
registry_stays way Ends r what r2 g e = absurd (cc)
registry_stays way Ticks r what r2 g e = absurd (cc)
registry_stays way (Fires h m) r what r2 g e = absurd (cc)

-- WHO ASKS A MARK

mark_what : (g : Handle) (what : What) → op_of what ≡ Asks (ask.Mark g) → what ≡ did.Mark g
mark_what g (did.Mark h) e = let same : h ≡ g = cc in ap did.Mark same
mark_what g (did.Look d f) e = absurd (cc)
mark_what g (did.Put h m taken) e = absurd (cc)
mark_what g (did.Launch text args found) e = absurd (cc)
mark_what g (did.Name text h named) e = absurd (cc)
mark_what g (did.Retire h retired) e = absurd (cc)
mark_what g (did.Later n x) e = absurd (cc)
mark_what g (did.Now n) e = absurd (cc)
mark_what g (did.Take m left) e = absurd (cc)
mark_what g (did.End ms) e = absurd (cc)
mark_what g (did.Tick due) e = absurd (cc)
mark_what g (did.Fire h m taken) e = absurd (cc)

pub asks_mark : (n : Next) (what : What) (g : Handle) → n ≡ Ask (ask.Mark g) → IsOne (op_of what) (next_ops n) → what ≡ did.Mark g
asks_mark n what g e may = mark_what g what (asks_only n (ask.Mark g) (op_of what) e may)

-- a marked inbox closes
pub mark_closes : (g : Handle) (i j : InboxState) → inbox_does (Asks (ask.Mark g)) i ≡ Some (did.Mark g, j) → is_live j.status ≡ false
mark_closes g i j e = closes (mark g i) (did.Mark g, j) e (not_live i.status) where
  not_live : (s : InboxStatus) → is_live (marked s) ≡ false
  not_live Live = refl
  not_live Closing = refl
  not_live Gone = refl

  closes : (d d2 : What × InboxState) → ◌≡◌ {A = Option (What × InboxState)} (Some d) (Some d2) → is_live d.1.status ≡ false → is_live d2.1.status ≡ false
  closes d d2 k l = let same : d ≡ d2 = cc in subst (λ (z : What × InboxState). is_live z.1.status ≡ false) same l

-- who retired a handle serves, and asks its Mark next
pub retires_then : {S : Type 0} (way : Way S) (sound : S → Type 0) → IsLawful way sound → (s : S) (g : Handle) → sound s → IsOne (Asks (ask.Retire g)) (next_ops (way.next s)) → way.next (way.fed s (Answers (Flag true))) ≡ Ask (ask.Mark g)
retires_then way sound lawful s g ok may =
    let is = asks_then (way.next s) (ask.Retire g) may in
    let step = (lawful.step s (Answers (Flag true)) ok (subst (λ n. Fits n (Answers (Flag true))) (sym is) tt)).1 in
    subst (λ n. Marks way (way.fed s (Answers (Flag true))) n (Answers (Flag true))) is step.marks
