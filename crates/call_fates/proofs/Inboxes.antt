-- What an act moves of a call at the inbox where it is done.
use Rattle.std.proofs.Common.{◌≡◌, ◌≢◌, ◌+◌, Bool, true, false, List, [], ◌∷◌, ◌++◌, length, Option, Some, if◌then◌else◌, refl, sym, subst, arith}
use Rattle.std.proofs.lemmas.List.Sums.{sum_by-append, sum_by-cons}
use Rattle.message.specs.Messages.{timer_message}
use Rattle.message.specs.Inboxes.{accepts, added, put, fire, mark, take_first, end}
use Rattle.message.specs.Steps.{Op, Asks, Takes, Ends, Ticks, Fires, op_of, place_of, inbox_does}
use Rattle.sk_types.specs.declared.number.Handle.{Handle}
use Rattle.sk_types.specs.declared.number.Session.{Session}
use Rattle.message.specs.declared.request.Message.{Message}
use Rattle.message.specs.declared.request.Request.TheVariants as ask
use Rattle.message.specs.declared.record.What.{What}
use Rattle.message.specs.declared.record.What.TheVariants as did
use Rattle.message.specs.declared.place.Place.TheVariants.{Inbox as TheInbox}
use Rattle.message.specs.declared.place.InboxState.{InboxState}
use Rattle.message.specs.declared.place.InboxStatus.{InboxStatus}
use Rattle.message.specs.declared.place.InboxStatus.TheVariants.{Live, Closing, Gone}
use Rattle.call_fates.specs.Calls.{Call, asks, replies, asks_in, replies_in}
use Rattle.call_fates.specs.Fates.{makes}
use Rattle.call_fates.specs.Flows.{receives, bounces, sent, fetched}

-- agent own did this at the inbox of to, which was i and is i2
pub record Passes (c : Call) (own to : Handle) (i i2 : InboxState) (what : What) : Type 0 where
  pub asked : asks_in c to.0 i2 + (receives c own.0 what + bounces c own.0 what) ≡ asks_in c to.0 i + makes c what
  pub replied : replies_in c to.0 i2 + fetched c own.0 what ≡ replies_in c to.0 i + sent c what

-- a timer's message is neither a request nor a reply
abbrev pub IsTimely : Op → Type 0
IsTimely (Fires h m) = (x : Session) × (m ≡ timer_message x)
IsTimely _ = Unit {0}

passes_by : (c : Call) (own to : Handle) (i : InboxState) (d : What × InboxState) (what : What) (i2 : InboxState) → ◌≡◌ {A = Option (What × InboxState)} (Some d) (Some (what, i2)) → Passes c own to i d.1 d.0 → Passes c own to i i2 what
passes_by c own to i d what i2 e p = let same : d ≡ (what, i2) = cc in subst (λ (z : What × InboxState). Passes c own to i z.1 z.0) same p

put_passes : (c : Call) (own to : Handle) (m : Message) (i : InboxState) (b : Bool) → accepts i.status ≡ b → Passes c own to i (if b then record { status = i.status; waiting = i.waiting ++ m ∷ [] } else i) (did.Put to m b)
put_passes c own to m i true e = record {
  asked = omega (arith, sum_by-append (asks c to.0) i.waiting (m ∷ []));
  replied = omega (arith, sum_by-append (replies c to.0) i.waiting (m ∷ []));
}
put_passes c own to m i false e = record { asked = omega arith; replied = omega arith }

fire_passes : (c : Call) (own to : Handle) (x : Session) (i : InboxState) (b : Bool) → accepts i.status ≡ b → Passes c own to i (if b then record { status = i.status; waiting = i.waiting ++ timer_message x ∷ [] } else i) (did.Fire to (timer_message x) b)
fire_passes c own to x i true e = record {
  asked = omega (arith, sum_by-append (asks c to.0) i.waiting (timer_message x ∷ []));
  replied = omega (arith, sum_by-append (replies c to.0) i.waiting (timer_message x ∷ []));
}
fire_passes c own to x i false e = record { asked = omega arith; replied = omega arith }

abbrev pub inbox_of : InboxStatus → List Message → InboxState
inbox_of status waiting = record { status = status; waiting = waiting }

take_passes : (c : Call) (own : Handle) (status : InboxStatus) (waiting : List Message) (what : What) (i2 : InboxState) → take_first status waiting ≡ Some (what, i2) → Passes c own own (inbox_of status waiting) i2 what
take_passes c own Live [] what i2 e = absurd (cc)
take_passes c own Live (m ∷ ms) what i2 e = passes_by c own own (inbox_of Live (m ∷ ms)) (did.Take m (length ms), inbox_of Live ms) what i2 e (record {
  asked = omega (arith, sum_by-cons (asks c own.0) m ms);
  replied = omega (arith, sum_by-cons (replies c own.0) m ms);
})
take_passes c own Closing waiting what i2 e = absurd (cc)
take_passes c own Gone waiting what i2 e = absurd (cc)

end_passes : (c : Call) (own : Handle) (status : InboxStatus) (waiting : List Message) (what : What) (i2 : InboxState) → end status waiting ≡ Some (what, i2) → Passes c own own (inbox_of status waiting) i2 what
end_passes c own Closing waiting what i2 e = passes_by c own own (inbox_of Closing waiting) (did.End waiting, inbox_of Gone []) what i2 e (record { asked = omega arith; replied = omega arith })
end_passes c own Live waiting what i2 e = absurd (cc)
end_passes c own Gone waiting what i2 e = absurd (cc)

pub inbox_passes : (c : Call) (own to : Handle) (op : Op) (i i2 : InboxState) (what : What) → place_of own op ≡ TheInbox to → IsTimely op → inbox_does op i ≡ Some (what, i2) → Passes c own to i i2 what
inbox_passes c own to (Asks (ask.Put h m)) i i2 what p t e =
    let same : h ≡ to = cc in
    passes_by c own to i (put h m i) what i2 e (subst (λ g. Passes c own g i (added i m) (did.Put h m (accepts i.status))) same (put_passes c own h m i (accepts i.status) refl))
inbox_passes c own to (Fires h m) i i2 what p t e =
    let same : h ≡ to = cc in
    let it : Passes c own h i (added i (timer_message t.0)) (did.Fire h (timer_message t.0) (accepts i.status)) = fire_passes c own h t.0 i (accepts i.status) refl in
    let it2 : Passes c own h i (added i m) (did.Fire h m (accepts i.status)) = subst (λ n. Passes c own h i (added i n) (did.Fire h n (accepts i.status))) (sym t.1) it in
    passes_by c own to i (fire h m i) what i2 e (subst (λ g. Passes c own g i (added i m) (did.Fire h m (accepts i.status))) same it2)
inbox_passes c own to (Asks (ask.Mark h)) i i2 what p t e = passes_by c own to i (mark h i) what i2 e (record { asked = omega arith; replied = omega arith })
inbox_passes c own to Takes i i2 what p t e =
    let same : own ≡ to = cc in
    subst (λ g. Passes c own g i i2 what) same (take_passes c own i.status i.waiting what i2 e)
inbox_passes c own to Ends i i2 what p t e =
    let same : own ≡ to = cc in
    subst (λ g. Passes c own g i i2 what) same (end_passes c own i.status i.waiting what i2 e)
inbox_passes c own to (Asks (ask.Look dest)) i i2 what p t e = absurd (cc)
inbox_passes c own to (Asks (ask.Launch text args)) i i2 what p t e = absurd (cc)
inbox_passes c own to (Asks (ask.Name text h)) i i2 what p t e = absurd (cc)
inbox_passes c own to (Asks (ask.Retire h)) i i2 what p t e = absurd (cc)
inbox_passes c own to (Asks (ask.Later n x)) i i2 what p t e = absurd (cc)
inbox_passes c own to (Asks ask.Now) i i2 what p t e = absurd (cc)
inbox_passes c own to Ticks i i2 what p t e = absurd (cc)

-- what is done elsewhere moves nothing of a call at an inbox
pub record PassesNone (c : Call) (own : Handle) (what : What) : Type 0 where
  pub asked : receives c own.0 what + bounces c own.0 what ≡ makes c what
  pub replied : fetched c own.0 what ≡ sent c what

pub passes_none : (c : Call) (own : Handle) (what : What) → ((to : Handle) → place_of own (op_of what) ≢ TheInbox to) → PassesNone c own what
passes_none c own (did.Look dest found) other = record { asked = refl; replied = refl }
passes_none c own (did.Launch text args found) other = record { asked = refl; replied = refl }
passes_none c own (did.Name text h named) other = record { asked = refl; replied = refl }
passes_none c own (did.Retire h retired) other = record { asked = refl; replied = refl }
passes_none c own (did.Later n x) other = record { asked = refl; replied = refl }
passes_none c own (did.Now n) other = record { asked = refl; replied = refl }
passes_none c own (did.Tick due) other = record { asked = refl; replied = refl }
passes_none c own (did.Put h m taken) other = absurd (other h refl)
passes_none c own (did.Mark h) other = absurd (other h refl)
passes_none c own (did.Take m left) other = absurd (other own refl)
passes_none c own (did.End ms) other = absurd (other own refl)
passes_none c own (did.Fire h m taken) other = absurd (other h refl)
