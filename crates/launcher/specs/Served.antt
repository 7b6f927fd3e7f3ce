-- Which request the launcher serves: at most one, the last that it took, and none when it is idle. This is the project's own.
use Rattle.std.specs.Prelude.{◌≡◌, ◌⊎◌, Bool, true, false, List, [], ◌∷◌, ◌++◌, find, Option, Some, None, refl}
use Rattle.std.proofs.Common.{ap, sym, ◌∙◌, subst, cond, inl, inr}
use Rattle.sk_types.specs.declared.number.Handle.{Handle}
use Rattle.message.specs.Messages.{is_request, held_of}
use Rattle.message.specs.declared.request.Message.{Message}
use Rattle.launcher.specs.declared.order.Order.{Order}
use Rattle.launcher.specs.declared.order.Order.TheVariants as order
use Rattle.launcher.specs.declared.desk.Role.{Role}
use Rattle.launcher.specs.declared.desk.Role.TheVariants.{Served, Pending, Kept}
use Rattle.launcher.specs.declared.desk.Taken.{Taken}
use Rattle.launcher.specs.declared.desk.Reply.{Reply}
use Rattle.launcher.specs.declared.desk.Reply.TheVariants as reply
use Rattle.launcher.specs.declared.desk.AfterReply.{AfterReply}
use Rattle.launcher.specs.declared.desk.AfterReply.TheVariants.{Rest, Report}
use Rattle.launcher.specs.declared.desk.Doing.{Doing}
use Rattle.launcher.specs.declared.desk.Doing.TheVariants.{Quiet, Launching, Telling, Retiring, Marking, Seeking, Sending}
use Rattle.launcher.specs.Rows.{Desk, without, at_first, is_served, is_served_as, is_pending, is_pending_as, does, answers, settles, unlisted, reply_of_removal, taken, heard_order, killed, after_reply, when_found}

abbrev pub NoneServed : List Taken → Type 0
NoneServed [] = Unit {0}
NoneServed (t ∷ ts) = (is_served t ≡ false) × NoneServed ts

-- if one is served it is the last
abbrev pub LastServed : List Taken → Type 0
LastServed ts = NoneServed ts ⊎ ((front : List Taken) × (t : Taken) × (ts ≡ front ++ t ∷ []) × NoneServed front × (is_served t ≡ true))

abbrev pub Serving : Bool → List Taken → Type 0
Serving true ts = LastServed ts
Serving false ts = NoneServed ts

abbrev pub serves_after : AfterReply → Bool
serves_after Rest = false
serves_after (Report retired) = true

-- whether a message is still to be answered
abbrev pub is_serving : Doing → Bool
is_serving Quiet = false
is_serving (Launching name args) = true
is_serving (Telling name) = true
is_serving (Retiring h) = true
is_serving (Marking h) = true
is_serving (Seeking x r after) = serves_after after
is_serving (Sending x r after) = serves_after after

abbrev pub IsServing : Desk → Type 0
IsServing l = Serving (is_serving l.doing) l.requests

-- LISTS

none_found_head : (t : Taken) (ts : List Taken) (b : Bool) → is_served t ≡ b → (find is_served ts ≡ None → NoneServed ts) → cond b (Some t) (find is_served ts) ≡ None → NoneServed (t ∷ ts)
none_found_head t ts true is ih e = absurd (cc)
none_found_head t ts false is ih e = (is, ih e)

none_found : (ts : List Taken) → find is_served ts ≡ None → NoneServed ts
none_found [] e = tt
none_found (t ∷ ts) e = none_found_head t ts (is_served t) refl (none_found ts) e

none_without_head : (test : Taken → Bool) (t : Taken) (ts : List Taken) (b : Bool) → NoneServed (t ∷ ts) → NoneServed (without test ts) → NoneServed (cond b ts (t ∷ without test ts))
none_without_head test t ts true n ih = n.1
none_without_head test t ts false n ih = (n.0, ih)

none_without : (test : Taken → Bool) (ts : List Taken) → NoneServed ts → NoneServed (without test ts)
none_without test [] n = tt
none_without test (t ∷ ts) n = none_without_head test t ts (test t) n (none_without test ts n.1)

none_more : (ts : List Taken) (t : Taken) → NoneServed ts → is_served t ≡ false → NoneServed (ts ++ t ∷ [])
none_more [] t n e = (e, tt)
none_more (x ∷ ts) t n e = (n.0, none_more ts t n.1 e)

served_out_head : (x : Taken) (front : List Taken) (t : Taken) (b : Bool) → is_served x ≡ b → is_served x ≡ false → NoneServed (without is_served (front ++ t ∷ [])) → NoneServed (cond b (front ++ t ∷ []) (x ∷ without is_served (front ++ t ∷ [])))
served_out_head x front t true is e ih = absurd (cc)
served_out_head x front t false is e ih = (is, ih)

served_out_last : (t : Taken) (b : Bool) → b ≡ true → NoneServed (cond b [] (t ∷ []))
served_out_last t true e = tt
served_out_last t false e = absurd (cc)

served_out : (front : List Taken) (t : Taken) → NoneServed front → is_served t ≡ true → NoneServed (without is_served (front ++ t ∷ []))
served_out [] t n e = served_out_last t (is_served t) e
served_out (x ∷ front) t n e = served_out_head x front t (is_served x) refl n.0 (served_out front t n.1 e)

-- once the one that is served is taken out, none is
last_out : (ts : List Taken) → LastServed ts → NoneServed (without is_served ts)
last_out ts (inl n) = none_without is_served ts n
last_out ts (inr w) = subst (λ xs. NoneServed (without is_served xs)) (sym w.2) (served_out w.0 w.1 w.3 w.4)

served_not_pending : (h : Handle) (r : Role) → is_served_as r ≡ true → is_pending_as h r ≡ false
served_not_pending h Served e = refl
served_not_pending h (Pending k) e = absurd (cc)
served_not_pending h Kept e = refl

pending_out_head : (h : Handle) (x : Taken) (front : List Taken) (t : Taken) (b : Bool) → without (is_pending h) (front ++ t ∷ []) ≡ without (is_pending h) front ++ t ∷ [] → cond b (front ++ t ∷ []) (x ∷ without (is_pending h) (front ++ t ∷ [])) ≡ cond b front (x ∷ without (is_pending h) front) ++ t ∷ []
pending_out_head h x front t true ih = refl
pending_out_head h x front t false ih = ap (λ l. x ∷ l) ih

pending_out_last : (t : Taken) (b : Bool) → b ≡ false → cond b [] (t ∷ []) ≡ t ∷ []
pending_out_last t true e = absurd (cc)
pending_out_last t false e = refl

pending_out : (h : Handle) (front : List Taken) (t : Taken) → is_pending h t ≡ false → without (is_pending h) (front ++ t ∷ []) ≡ without (is_pending h) front ++ t ∷ []
pending_out h [] t e = pending_out_last t (is_pending h t) e
pending_out h (x ∷ front) t e = pending_out_head h x front t (is_pending h x) (pending_out h front t e)

last_pending : (h : Handle) (ts : List Taken) → LastServed ts → LastServed (without (is_pending h) ts)
last_pending h ts (inl n) = inl (none_without (is_pending h) ts n)
last_pending h ts (inr w) =
    let same = ap (without (is_pending h)) w.2 ∙ pending_out h w.0 w.1 (served_not_pending h w.1.role w.4) in
    inr (without (is_pending h) w.0, w.1, same, none_without (is_pending h) w.0 w.3, w.4)

pends_head : (h : Handle) (t : Taken) (ts : List Taken) (b : Bool) → is_served t ≡ b → (b ≡ false → NoneServed (at_first is_served (λ x. record { role = Pending h; held = x.held }) ts)) → NoneServed ts ⊎ (b ≡ false) → NoneServed (cond b (record { role = Pending h; held = t.held } ∷ ts) (t ∷ at_first is_served (λ x. record { role = Pending h; held = x.held }) ts))
pends_head h t ts true is ih (inl n) = (refl, n)
pends_head h t ts true is ih (inr e) = absurd (cc)
pends_head h t ts false is ih n = (is, ih refl)

none_pends : (h : Handle) (ts : List Taken) → NoneServed ts → NoneServed (at_first is_served (λ x. record { role = Pending h; held = x.held }) ts)
none_pends h [] n = tt
none_pends h (t ∷ ts) n = pends_head h t ts (is_served t) refl (λ _. none_pends h ts n.1) (inl n.1)

served_pends : (h : Handle) (front : List Taken) (t : Taken) → NoneServed front → is_served t ≡ true → NoneServed (at_first is_served (λ x. record { role = Pending h; held = x.held }) (front ++ t ∷ []))
served_pends h [] t n e = pends_head h t [] (is_served t) refl (λ _. tt) (inl tt)
served_pends h (x ∷ front) t n e = pends_head h x (front ++ t ∷ []) (is_served x) refl (λ _. served_pends h front t n.1 e) (inr n.0)

-- a launch that is pending is served no more
pub last_pends : (h : Handle) (ts : List Taken) → LastServed ts → NoneServed (at_first is_served (λ x. record { role = Pending h; held = x.held }) ts)
last_pends h ts (inl n) = none_pends h ts n
last_pends h ts (inr w) = subst (λ xs. NoneServed (at_first is_served (λ x. record { role = Pending h; held = x.held }) xs)) (sym w.2) (served_pends h w.0 w.1 w.3 w.4)

-- ROWS

pub answers_serving : (l : Desk) (r : Reply) → LastServed l.requests → IsServing (answers l r)
answers_serving l r last = go (find is_served l.requests) refl
  where
    go : (o : Option Taken) → find is_served l.requests ≡ o → IsServing (when_found o (λ t. does (record l { requests = without is_served l.requests }) (Seeking t.held r Rest)) (does l Quiet))
    go None e = none_found l.requests e
    go (Some t) e = last_out l.requests last

settles_serving : (l : Desk) (h : Handle) (r : Reply) → NoneServed l.requests → IsServing (settles l h r)
settles_serving l h r n = go (find (is_pending h) l.requests)
  where
    go : (o : Option Taken) → IsServing (when_found o (λ t. does (record l { requests = without (is_pending h) l.requests }) (Seeking t.held r Rest)) (does l Quiet))
    go None = n
    go (Some t) = none_without (is_pending h) l.requests n

pub killed_serving : (l : Desk) (h : Handle) (b : Bool) → LastServed l.requests → IsServing (killed l h b)
killed_serving l h b last = go (find (is_pending h) l.requests)
  where
    go : (o : Option Taken) → IsServing (when_found o (λ t. does (record l { requests = without (is_pending h) l.requests }) (Seeking t.held reply.Failed (Report b))) (answers l (reply.Killed b)))
    go None = answers_serving l (reply.Killed b) last
    go (Some t) = last_pending h l.requests last

pub after_serving : (l : Desk) (after : AfterReply) → Serving (serves_after after) l.requests → IsServing (after_reply l after)
after_serving l Rest n = n
after_serving l (Report b) last = answers_serving l (reply.Killed b) last

-- a message that is to be answered is the last
taken_last : (l : Desk) (m : Message) (b : Bool) → NoneServed l.requests → LastServed (cond b (record l { requests = l.requests ++ (record { role = Served; held = held_of m }) ∷ [] }) l).requests
taken_last l m true n = inr (l.requests, record { role = Served; held = held_of m }, refl, n, refl)
taken_last l m false n = inl n

taken_none : (l : Desk) (m : Message) (b : Bool) → NoneServed l.requests → NoneServed (cond b (record l { requests = l.requests ++ (record { role = Kept; held = held_of m }) ∷ [] }) l).requests
taken_none l m true n = none_more l.requests (record { role = Kept; held = held_of m }) n refl
taken_none l m false n = n

pub heard_serving : (l : Desk) (m : Message) (o : Order) → NoneServed l.requests → IsServing (heard_order l m o)
heard_serving l m (order.Launch name args) n = taken_last l m (is_request m) n
heard_serving l m order.LaunchOk n = settles_serving (taken l m Kept) m.source (reply.Launched m.source) (taken_none l m (is_request m) n)
heard_serving l m order.Error n = settles_serving (unlisted (taken l m Kept) m.source) m.source reply.Failed (taken_none l m (is_request m) n)
heard_serving l m (order.Remove h b) n = settles_serving (unlisted (taken l m Kept) h) h (reply_of_removal b) (taken_none l m (is_request m) n)
heard_serving l m (order.Kill h) n = taken_last l m (is_request m) n
heard_serving l m order.List n = answers_serving (taken l m Served) reply.Services (taken_last l m (is_request m) n)
heard_serving l m order.Other n = answers_serving (taken l m Served) reply.Failed (taken_last l m (is_request m) n)
