-- A request leaves the held ones only as the reply whose caller is looked up next.
use Rattle.std.proofs.Common.{◌≡◌, ℕ, Bool, true, false, cond, not, List, [], ◌∷◌, ◌++◌, map, Option, Some, None, nat_eq, ◌||◌, ◌&&◌, ◌⊎◌, inl, inr, refl, sym, ap, ◌∙◌, subst, codes, pos, ℤ}
use Rattle.std.specs.Prelude.{int_lt, is_some}
use Rattle.std.specs.Ordering.{nat_cmp}
use Rattle.std.specs.Option.{option_map}
use Rattle.std.specs.Map.{lookup, remove_entry}
use Rattle.std.specs.BTreeMap.{is_at, insert_entry}
use Rattle.sk_types.specs.declared.number.Session.{Session}
use Rattle.sk_types.specs.declared.number.Kind.{Kind}
use Rattle.sk_types.specs.declared.number.Kind.TheVariants as kind
use Rattle.message.specs.Messages.{is_lua, held_of as held_as}
use Rattle.message.specs.declared.datum.Datum.{Datum}
use Rattle.message.specs.declared.datum.Datum.TheVariants as datum
use Rattle.message.specs.declared.request.Held.{Held}
use Rattle.message.specs.declared.request.Message.{Message}
use Rattle.message.specs.declared.request.Dest.{Dest}
use Rattle.message.specs.declared.request.Dest.TheVariants as dest
use Rattle.message.specs.declared.request.Request.{Request}
use Rattle.message.specs.declared.request.Request.TheVariants as request
use Rattle.message.specs.declared.request.Answer.{Answer}
use Rattle.message.specs.declared.request.Answer.TheVariants.{Found, Flag, Clock, Done}
use Rattle.session_table.specs.declared.words.ThreadNo.{ThreadNo}
use Rattle.session_table.specs.declared.words.ResponseNo.{ResponseNo}
use Rattle.session_table.specs.declared.words.Token.{Token}
use Rattle.session_table.specs.declared.words.Owed.{Owed}
use Rattle.session_table.specs.declared.words.Owed.TheVariants as owe
use Rattle.session_table.specs.declared.words.Owed.TheVariants.{Note}
use Rattle.session_table.specs.Keys.{thread_cmp, is_session, is_thread, is_response}
use Rattle.session_table.specs.Table.{Table, Taken, when_found, held_of, held_by, with_held, without_taken, taken_more, first_woken, wakeups_left, next_woken, after_wakeup, without_waiter, without_sleeper, waiter, drawn, after_draw, last_session, owes, owed, without_owed, answers, answer_of, without_answer, taken_over, sleeping, woken, with_sleeper}
use Rattle.service_exit.specs.declared.Exit.{Exit}
use Rattle.service_exit.specs.declared.Exit.TheVariants as exit
use Rattle.service_exit.specs.declared.Leave.{Leave}
use Rattle.service_exit.specs.Endings.{next_request, after_next}
use Rattle.service_library.specs.declared.words.AfterReply.{AfterReply}
use Rattle.service_library.specs.declared.words.AfterReply.TheVariants.{GoOn, Log, Rest}
use Rattle.service_library.specs.declared.words.LibStep.TheVariants as step
use Rattle.service_library.specs.declared.words.LibCall.{LibCall}
use Rattle.service_library.specs.declared.words.LibCall.TheVariants as call
use Rattle.service_library.specs.declared.words.ThreadStop.{ThreadStop}
use Rattle.service_library.specs.declared.words.ThreadStop.TheVariants as stop
use Rattle.service_library.specs.declared.words.Reason.{Reason}
use Rattle.service_library.specs.declared.words.Reason.TheVariants as reason
use Rattle.service_library.specs.declared.words.Resume.TheVariants as go
use Rattle.service_library.specs.declared.words.Doing.{Doing}
use Rattle.service_library.specs.declared.words.Doing.TheVariants.{Quiet, Sending, Sent, Calling, Called, Replying, Replied, Given, Sleeping, Asking, Finding, Naming, Seeking, Leaving, Told, Over}
use Rattle.service_library.specs.State.{Lib}
use Rattle.service_library.specs.Rows.{Stepped, thread_ended, next, next_failed, next_fork, called, stopped, ends, leaves, with_session, with_alarm, sleeps, blocked_for, is_that, kills, thread_raises, replies, asks, gives, rests, runs, logs, waits, marks_own, alarm, launch, own_response, own_message, kind_of, body_of, after_answer, after_reply, arrives_as, text_arrives, response_arrives, error_arrives, call_fails, brings, why, joins_failed}
use Rattle.service_library.specs.Laws.{IsOfThread, held_in, HaveSessions, LeftOut, KeepsHeld, request_of}
use Rattle.service_library.proofs.Choices.{of_found, of_test}

-- LISTS

pub nothing_more : {X : Type 0} (xs : List X) → xs ≡ xs ++ []
nothing_more [] = refl
nothing_more (x ∷ xs) = ap (λ l. x ∷ l) (nothing_more xs)

abbrev seconds : List (ℕ × Held) → List Held
seconds es = map (λ e. e.1) es

second_more : (es : List (ℕ × Held)) (e : ℕ × Held) → seconds (es ++ e ∷ []) ≡ seconds es ++ e.1 ∷ []
second_more [] e = refl
second_more (x ∷ es) e = ap (λ l. x.1 ∷ l) (second_more es e)

entry_left_head : (test : ℕ → Bool) (y : ℕ × Held) (ys : List (ℕ × Held)) (x : Held) (b : Bool) → (lookup test ys ≡ Some x → LeftOut (seconds ys) x (seconds (remove_entry test ys))) → cond b (Some y.1) (lookup test ys) ≡ Some x → LeftOut (y.1 ∷ seconds ys) x (seconds (cond b ys (y ∷ remove_entry test ys)))
entry_left_head test y ys x true ih e =
    let same : y.1 ≡ x = cc in
    ([], seconds ys, ap (λ z. z ∷ seconds ys) same, refl)
entry_left_head test y ys x false ih e =
    let h = ih e in
    (y.1 ∷ h.0, h.1, ap (λ l. y.1 ∷ l) h.2, ap (λ l. y.1 ∷ l) h.3)

-- what a search finds is left out with it
entry_left : (test : ℕ → Bool) (es : List (ℕ × Held)) (x : Held) → lookup test es ≡ Some x → LeftOut (seconds es) x (seconds (remove_entry test es))
entry_left test [] x e = absurd (cc)
entry_left test (y ∷ ys) x e = entry_left_head test y ys x (test y.0) (entry_left test ys x) e

has_session_in : (front : List Held) (x : Held) (back : List Held) → HaveSessions (front ++ x ∷ back) → nat_eq x.session.0 0 ≡ false
has_session_in [] x back h = h.0
has_session_in (y ∷ front) x back h = has_session_in front x back h.1

has_session : (all : List Held) (x : Held) (rest : List Held) → LeftOut all x rest → HaveSessions all → nat_eq x.session.0 0 ≡ false
has_session all x rest l h = has_session_in l.0 x l.1 (subst HaveSessions l.2 h)

rest_in : (front : List Held) (x : Held) (back : List Held) → HaveSessions (front ++ x ∷ back) → HaveSessions (front ++ back)
rest_in [] x back h = h.1
rest_in (y ∷ front) x back h = (h.0, rest_in front x back h.1)

-- where all have sessions, those that are left have them
pub keeps_sessions : (all : List Held) (row : Stepped) → KeepsHeld all row → HaveSessions all → HaveSessions (held_in row.1)
keeps_sessions all row (inl e) h = subst HaveSessions (sym e) h
keeps_sessions all row (inr (x, left, is)) h = subst HaveSessions (sym left.3) (rest_in left.0 x left.1 (subst HaveSessions left.2 h))

both_have : (xs ys : List Held) → HaveSessions xs → HaveSessions ys → HaveSessions (xs ++ ys)
both_have [] ys h k = k
both_have (x ∷ xs) ys h k = (h.0, both_have xs ys h.1 k)

request_has_at : (m : Message) (lua b : Bool) → nat_eq m.session.0 0 ≡ b → HaveSessions (cond (lua && not b) (held_as m ∷ []) [])
request_has_at m false b e = tt
request_has_at m true true e = tt
request_has_at m true false e = (e, tt)

pub message_has : (l : Lib) (m : Message) → HaveSessions (held_in l) → HaveSessions (held_in l ++ request_of m)
message_has l m h = both_have (held_in l) (request_of m) h (request_has_at m (is_lua m.kind) (nat_eq m.session.0 0) refl)

-- WHAT IS OWED

-- x is held no more, or it wanted no answer and nothing changes
abbrev Left : Taken → Held → Taken → Type 0
Left t x u = ((held_of u ≡ held_of t) × (nat_eq x.session.0 0 ≡ true)) ⊎ (LeftOut (held_of t) x (held_of u) × (nat_eq x.session.0 0 ≡ false))

taken_left : (t : Taken) (o : Owed) (x : Held) → held_by t o ≡ Some x → HaveSessions (held_of t) → Left t x (without_taken t o)
taken_left t (owe.Request n) x e h =
    let l = entry_left (is_at (nat_cmp n)) t.held x e in
    inr (l, has_session (held_of t) x (held_of (without_taken t (owe.Request n))) l h)
taken_left t (Note source) x e h =
    let same : record { source = source; session = record { 0 = 0 } } ≡ x = cc in
    inl (refl, ap (λ (y : Held). nat_eq y.session.0 0) (sym same))

pair_of : (t : Taken) (o : Owed) (p : Owed × Held) → with_held t o ≡ Some p → held_by t p.0 ≡ Some p.1
pair_of t o p e = go (held_by t o) refl e
  where
    go : (h : Option Held) → held_by t o ≡ h → option_map (λ h. (o, h)) h ≡ Some p → held_by t p.0 ≡ Some p.1
    go None f e = absurd (cc)
    go (Some h) f e =
        let same : (o, h) ≡ p = cc in
        subst (λ (q : Owed × Held). held_by t q.0 ≡ Some q.1) same f

found_pair : (t : Taken) (o : Option Owed) (p : Owed × Held) → when_found o (with_held t) None ≡ Some p → held_by t p.0 ≡ Some p.1
found_pair t None p e = absurd (cc)
found_pair t (Some o) p e = pair_of t o p e

left_by : (t : Table) (q : Option (Owed × Held)) (rest : Owed × Held → Table) (x : Held) → ((p : Owed × Held) → q ≡ Some p → held_by t.taken p.0 ≡ Some p.1) → ((p : Owed × Held) → (rest p).taken ≡ without_taken t.taken p.0) → option_map (λ o. o.1) q ≡ Some x → HaveSessions (held_of t.taken) → Left t.taken x (when_found q rest t).taken
left_by t None rest x is taken e h = absurd (cc)
left_by t (Some p) rest x is taken e h =
    let same : p.1 ≡ x = cc in
    let l = taken_left t.taken p.0 p.1 (is p refl) h in
    subst (λ u. Left t.taken x u) (sym (taken p)) (subst (λ y. Left t.taken y (without_taken t.taken p.0)) same l)

owed_left : (t : Table) (thread : ThreadNo) (x : Held) → owed t thread ≡ Some x → HaveSessions (held_of t.taken) → Left t.taken x (without_owed t thread).taken
owed_left t thread x e h =
    left_by t (owes t thread) _ x (λ p f. found_pair t.taken (lookup (is_thread thread) t.threads) p f) (λ p. refl) e h

answer_left : (t : Table) (r : ResponseNo) (x : Held) → answer_of t r ≡ Some x → HaveSessions (held_of t.taken) → Left t.taken x (without_answer t r).taken
answer_left t r x e h =
    left_by t (answers t r) _ x (λ p f. found_pair t.taken (lookup (is_response r) t.functions) p f) (λ p. refl) e h

-- an answer takes the request from the held ones and looks its caller up
answer_keeps : (l m : Lib) (x : Held) (k : Kind) (body : List Datum) (after : AfterReply) (other : Stepped) → Left l.table.taken x m.table.taken → held_in other.1 ≡ held_in m → KeepsHeld (held_in l) (cond (nat_eq x.session.0 0) other (replies m x k body after))
answer_keeps l m x k body after other (inl (same, z)) e =
    subst (λ b. KeepsHeld (held_in l) (cond b other (replies m x k body after))) (sym z) (inl (e ∙ same))
answer_keeps l m x k body after other (inr (left, z)) e =
    subst (λ b. KeepsHeld (held_in l) (cond b other (replies m x k body after))) (sym z) (inr (x, left, (refl, refl)))

ret_keeps : (l : Lib) (body : List Datum) → HaveSessions (held_in l) → KeepsHeld (held_in l) (called l (call.Ret body))
ret_keeps l body h =
    of_found (KeepsHeld (held_in l)) (owed l.table l.running) _ _
    (λ x e. let m : Lib = record l { table = without_owed l.table l.running } in
    answer_keeps l m x kind.Response body GoOn (gives m (datum.Bool false ∷ [])) (owed_left l.table l.running x e h) refl)
    (λ _. inl refl)

respond_keeps : (l : Lib) (r : ResponseNo) (given : Option (List Datum)) → HaveSessions (held_in l) → KeepsHeld (held_in l) (called l (call.Respond r given))
respond_keeps l r given h =
    of_found (KeepsHeld (held_in l)) (answer_of l.table r) _ _
    (λ x e. let m : Lib = record l { table = without_answer l.table r } in
    answer_keeps l m x (kind_of given) (body_of given) GoOn (gives m (datum.Bool false ∷ [])) (answer_left l.table r x e h) refl)
    (λ _. inl refl)

raises_keeps : (l : Lib) (text : List ℕ) → HaveSessions (held_in l) → KeepsHeld (held_in l) (thread_raises l text)
raises_keeps l text h =
    of_found (KeepsHeld (held_in l)) (owed l.table l.running) _ _
    (λ x e. let m : Lib = record l { table = without_owed l.table l.running } in
    answer_keeps l m x kind.Error [] (Log text) (asks m (logs m text) Told) (owed_left l.table l.running x e h) refl)
    (λ _. inl refl)

-- ROWS THAT LEAVE THE HELD REQUESTS

abbrev Same : Lib → Stepped → Type 0
Same l row = held_in row.1 ≡ held_in l

over_same : (l : Lib) (t : ThreadNo) → held_of (taken_over l.table t).taken ≡ held_in l
over_same l t = of_found (λ (u : Table). held_of u.taken ≡ held_in l) (owes l.table t) _ _ (λ _ _. refl) (λ _. refl)

token_same : (t : Table) (k : Option Token) → (without_sleeper t k).taken ≡ t.taken
token_same t None = refl
token_same t (Some k) = refl

waiter_same : (t : Table) (s : Session) → (without_waiter t s).taken ≡ t.taken
waiter_same t s =
    of_found (λ (u : Table). u.taken ≡ t.taken) (lookup (is_session s) t.waits) _ _
    (λ w _. token_same (record t { waits = remove_entry (is_session s) t.waits }) w.token)
    (λ _. refl)

wakeup_same : (t : Table) → (after_wakeup t).taken ≡ t.taken
wakeup_same t =
    let after : Table = record t { wakeups = wakeups_left t.wakeups t.waits } in
    of_found (λ (u : Table). u.taken ≡ t.taken) (first_woken t.wakeups t.waits) _ _ (λ s _. waiter_same after s) (λ _. refl)

fork_same : (l : Lib) (ts : List ThreadNo) → Same l (next_fork l ts)
fork_same l [] = refl
fork_same l (t ∷ ts) = refl

failed_same : (l : Lib) (ts : List ThreadNo) → Same l (next_failed l ts)
failed_same l [] = fork_same l l.forks
failed_same l (t ∷ ts) = refl

next_same : (l : Lib) → Same l (next l)
next_same l =
    let after : Lib = record l { table = after_wakeup l.table } in
    let same = ap held_of (wakeup_same l.table) in
    of_found (Same l) (next_woken l.table) _ _ (λ _ _. same) (λ _. failed_same after after.failed ∙ same)

ends_same : (l : Lib) (e : Exit) → Same l (ends l e)
ends_same l exit.Own = refl
ends_same l (exit.Limit text) = refl
ends_same l (exit.Raised text) = refl
ends_same l (exit.Kill h) = refl

leaves_same : (l : Lib) (leave : Leave) (last : Option Answer) (marked : Bool) → Same l (leaves l leave last marked)
leaves_same l leave last marked =
    of_found {A = Request} (Same l) (next_request leave last) (λ r. asks l r (Leaving (after_next leave) (marks_own l.own marked r))) (cond marked (step.Idle, record l { doing = Over }) (gives l []))
    (λ _ _. refl)
    (λ _. of_test (Same l) marked (step.Idle, record l { doing = Over }) (gives l []) refl refl)

drawn_same : (l : Lib) → held_of (after_draw l.table).taken ≡ held_in l
drawn_same l = of_test (λ (t : Table). held_of t.taken ≡ held_in l) (nat_eq l.table.last last_session) _ _ refl refl

session_same : (l : Lib) (what : Session → Lib → Stepped) → ((s : Session) (m : Lib) → Same m (what s m)) → Same l (with_session l what)
session_same l what h =
    of_found (Same l) (drawn l.table) _ _
    (λ s _. h s (record l { table = after_draw l.table }) ∙ drawn_same l)
    (λ _. ends_same l (exit.Limit (codes "budget spent")))

alarm_same : (l : Lib) (n : ℤ) (what : Session → Lib → Stepped) → ((s : Session) (m : Lib) → Same m (what s m)) → Same l (with_alarm l n what)
alarm_same l n what h = of_test (Same l) (int_lt (pos 2147483647) n) _ _ refl (session_same l what h)

sleeps_same : (l : Lib) (s : Session) (token : Token) (why : Reason) → Same l (sleeps l s token why)
sleeps_same l s token why =
    let m : Lib = blocked_for (record l { table = with_sleeper l.table token s l.running }) l.running why in
    of_test (Same l) (is_some (sleeping l.table token)) _ _ refl (next_same m)

woken_same : (l : Lib) (token : Token) → held_of (woken l.table token).taken ≡ held_in l
woken_same l token = of_found (λ (t : Table). held_of t.taken ≡ held_in l) (sleeping l.table token) _ _ (λ _ _. refl) (λ _. refl)

kills_same : (l : Lib) (to : Dest) (text : Bool) → Same l (kills l to text)
kills_same l (dest.Number n) false = ends_same l (exit.Kill (record { 0 = n }))
kills_same l (dest.Number n) true = refl
kills_same l (dest.Name name) text = refl

pub called_keeps : (l : Lib) (c : LibCall) → IsOfThread c → HaveSessions (held_in l) → KeepsHeld (held_in l) (called l c)
called_keeps l (call.Message m t) i h = absurd i
called_keeps l (call.Answer a) i h = absurd i
called_keeps l (call.Start t) i h =
    inl (of_found (Same l) l.start _ _ (λ _ _. refl) (λ _. session_same l (λ s m. asks (waits (record m { start = Some t }) s t reason.Begin) (own_response m s) Given) (λ s m. refl)))
called_keeps l call.Dispatch i h = inl refl
called_keeps l (call.Send to body) i h = inl refl
called_keeps l (call.Call to body) i h = inl (session_same l (λ s m. asks m (request.Look to) (Calling s body)) (λ s m. refl))
called_keeps l (call.Ret body) i h = ret_keeps l body h
called_keeps l call.Response i h = inl (of_test (Same l) (is_some (owed l.table l.running)) _ _ (over_same l l.running) refl)
called_keeps l (call.Respond r given) i h = respond_keeps l r given h
called_keeps l (call.Unused r) i h = inl refl
called_keeps l (call.Fork t) i h = inl refl
called_keeps l (call.Timeout n t) i h = inl (alarm_same l n (λ s m. asks (waits m s t reason.Begin) (alarm m n s) Given) (λ s m. refl))
called_keeps l (call.Sleep n token) i h = inl (alarm_same l n (λ s m. asks m (alarm m n s) (Sleeping s token)) (λ s m. refl))
called_keeps l (call.Wait token) i h = inl (session_same l (λ s m. sleeps m s token reason.Wait) (λ s m. sleeps_same m s token reason.Wait))
called_keeps l (call.Wakeup token) i h = inl (of_test (Same l) (is_some (sleeping l.table token)) _ _ (woken_same l token) refl)
called_keeps l call.Now i h = inl refl
called_keeps l (call.LocalName name) i h = inl refl
called_keeps l (call.Name name n) i h = inl refl
called_keeps l (call.NewService name args) i h =
    inl (session_same l (λ s m. asks m (request.Put (record { 0 = 2 }) (own_message m s kind.Lua (launch name args))) (Called s)) (λ s m. refl))
called_keeps l (call.Kill to text) i h = inl (kills_same l to text)
called_keeps l call.Exit i h = inl (ends_same l exit.Own)
called_keeps l (call.Log text) i h = inl refl

pub stopped_keeps : (l : Lib) (s : ThreadStop) → HaveSessions (held_in l) → KeepsHeld (held_in l) (stopped l s)
stopped_keeps l stop.Return h = inl (of_test (Same l) (is_that l.start l.running) _ _ refl (next_same (thread_ended l)))
stopped_keeps l (stop.Raise text) h =
    of_test (KeepsHeld (held_in l)) (is_that l.start l.running || is_that l.chunk l.running) _ _ (inl (ends_same l (exit.Raised text))) (raises_keeps l text h)
stopped_keeps l (stop.Limit text) h = inl (ends_same l (exit.Limit text))

-- MESSAGES

brings_same : (l : Lib) (t : ThreadNo) (r : Option Reason) (body : List Datum) → Same l (brings l t r body)
brings_same l t None body = refl
brings_same l t (Some reason.Call) body = refl
brings_same l t (Some reason.Begin) body = refl
brings_same l t (Some reason.Sleep) body = refl
brings_same l t (Some reason.Wait) body = refl

response_same : (l : Lib) (s : Session) (body : List Datum) → Same l (response_arrives l s body)
response_same l s body =
    of_found (Same l) (waiter l.table s) _ _
    (λ t _. let m : Lib = record l { table = without_waiter l.table s } in
    brings_same m t (why l t) body ∙ ap held_of (waiter_same l.table s))
    (λ _. refl)

failure_same : (l : Lib) (s : Session) (t : ThreadNo) (r : Option Reason) → Same l (call_fails l s t r)
failure_same l s t None = refl
failure_same l s t (Some reason.Begin) = refl
failure_same l s t (Some reason.Sleep) = refl
failure_same l s t (Some reason.Wait) = refl
failure_same l s t (Some reason.Call) =
    let m : Lib = joins_failed l s t in
    next_same m ∙ ap held_of (waiter_same l.table s)

error_same : (l : Lib) (s : Session) → Same l (error_arrives l s)
error_same l s = of_found (Same l) (waiter l.table s) _ _ (λ t _. failure_same l s t (why l t)) (λ _. refl)

lua_keeps : (l : Lib) (m : Message) (t : ThreadNo) (lua d b : Bool) → lua ≡ true → KeepsHeld (held_in l ++ cond (lua && not b) (held_as m ∷ []) [])
    (cond d
    (runs (record l { table = cond b (record l.table { threads = insert_entry thread_cmp l.table.threads t (Note m.source) }) (record l.table { taken = taken_more l.table.taken (held_as m); threads = insert_entry thread_cmp l.table.threads t (owe.Request l.table.taken.next) }) }) t (go.Dispatch m.source m.session m.body))
    (cond b (rests l) (replies l (held_as m) kind.Error [] Rest)))
lua_keeps l m t false d b is = absurd (cc)
lua_keeps l m t true true true is = inl (nothing_more (held_in l))
lua_keeps l m t true true false is = inl (second_more l.table.taken.held (l.table.taken.next, held_as m))
lua_keeps l m t true false true is = inl (nothing_more (held_in l))
lua_keeps l m t true false false is = inr (held_as m, (held_in l, [], refl, nothing_more (held_in l)), (refl, refl))

-- a message that is no request leaves them
plain_keeps : (l : Lib) (m : Message) (row : Stepped) → is_lua m.kind ≡ false → Same l row → KeepsHeld (held_in l ++ request_of m) row
plain_keeps l m row e same = inl (same ∙ nothing_more (held_in l) ∙ ap (λ b. held_in l ++ cond (b && not (nat_eq m.session.0 0)) (held_as m ∷ []) []) (sym e))

message_keeps_as : (l : Lib) (m : Message) (t : ThreadNo) (k : Kind) → m.kind ≡ k → KeepsHeld (held_in l ++ request_of m) (arrives_as l m t k)
message_keeps_as l m t kind.Text e = plain_keeps l m (text_arrives l m.body t) (ap is_lua e) (of_found (Same l) l.chunk _ _ (λ _ _. refl) (λ _. refl))
message_keeps_as l m t kind.Response e = plain_keeps l m (response_arrives l m.session m.body) (ap is_lua e) (response_same l m.session m.body)
message_keeps_as l m t kind.Error e = plain_keeps l m (error_arrives l m.session) (ap is_lua e) (error_same l m.session)
message_keeps_as l m t kind.Lua e = lua_keeps l m t (is_lua m.kind) l.dispatches (nat_eq m.session.0 0) (ap is_lua e)

pub message_keeps : (l : Lib) (m : Message) (t : ThreadNo) → KeepsHeld (held_in l ++ request_of m) (called l (call.Message m t))
message_keeps l m t = message_keeps_as l m t m.kind refl

-- ANSWERS

after_same : (l : Lib) (after : AfterReply) (taken : Bool) → Same l (after_reply l after taken)
after_same l GoOn taken = refl
after_same l (Log text) taken = refl
after_same l Rest taken = next_same l

answer_same_at : (l : Lib) (d : Doing) (a : Answer) → Same l (after_answer l d a)
answer_same_at l (Sending body) (Found (Some h)) = refl
answer_same_at l (Sending body) (Found None) = refl
answer_same_at l (Sending body) (Flag f) = refl
answer_same_at l (Sending body) (Clock n) = refl
answer_same_at l (Sending body) Done = refl
answer_same_at l Sent (Flag true) = refl
answer_same_at l Sent (Flag false) = refl
answer_same_at l Sent (Found f) = refl
answer_same_at l Sent (Clock n) = refl
answer_same_at l Sent Done = refl
answer_same_at l (Calling s body) (Found (Some h)) = refl
answer_same_at l (Calling s body) (Found None) = refl
answer_same_at l (Calling s body) (Flag f) = refl
answer_same_at l (Calling s body) (Clock n) = refl
answer_same_at l (Calling s body) Done = refl
answer_same_at l (Called s) (Flag true) = next_same (waits l s l.running reason.Call)
answer_same_at l (Called s) (Flag false) = refl
answer_same_at l (Called s) (Found f) = refl
answer_same_at l (Called s) (Clock n) = refl
answer_same_at l (Called s) Done = refl
answer_same_at l (Replying x k body after) (Found (Some h)) = refl
answer_same_at l (Replying x k body after) (Found None) = after_same l after false
answer_same_at l (Replying x k body after) (Flag f) = refl
answer_same_at l (Replying x k body after) (Clock n) = refl
answer_same_at l (Replying x k body after) Done = refl
answer_same_at l (Replied x after) (Flag taken) = after_same l after taken
answer_same_at l (Replied x after) (Found f) = refl
answer_same_at l (Replied x after) (Clock n) = refl
answer_same_at l (Replied x after) Done = refl
answer_same_at l Given a = refl
answer_same_at l (Sleeping s token) (Flag f) = sleeps_same l s token reason.Sleep
answer_same_at l (Sleeping s token) Done = sleeps_same l s token reason.Sleep
answer_same_at l (Sleeping s token) (Found f) = refl
answer_same_at l (Sleeping s token) (Clock n) = refl
answer_same_at l Asking (Clock n) = refl
answer_same_at l Asking (Found f) = refl
answer_same_at l Asking (Flag f) = refl
answer_same_at l Asking Done = refl
answer_same_at l Finding (Found (Some h)) = refl
answer_same_at l Finding (Found None) = refl
answer_same_at l Finding (Flag f) = refl
answer_same_at l Finding (Clock n) = refl
answer_same_at l Finding Done = refl
answer_same_at l Naming (Flag true) = refl
answer_same_at l Naming (Flag false) = refl
answer_same_at l Naming (Found f) = refl
answer_same_at l Naming (Clock n) = refl
answer_same_at l Naming Done = refl
answer_same_at l Seeking (Found (Some h)) = ends_same l (exit.Kill h)
answer_same_at l Seeking (Found None) = refl
answer_same_at l Seeking (Flag f) = refl
answer_same_at l Seeking (Clock n) = refl
answer_same_at l Seeking Done = refl
answer_same_at l (Leaving leave marked) a = leaves_same l leave (Some a) marked
answer_same_at l Told a = next_same l
answer_same_at l Quiet a = refl
answer_same_at l Over a = refl

pub answer_same : (l : Lib) (a : Answer) → held_in (called l (call.Answer a)).1 ≡ held_in l
answer_same l a = answer_same_at l l.doing a

-- each call
pub called_sessions : (l : Lib) (c : LibCall) → HaveSessions (held_in l) → HaveSessions (held_in (called l c).1)
called_sessions l (call.Message m t) h = keeps_sessions (held_in l ++ request_of m) (called l (call.Message m t)) (message_keeps l m t) (message_has l m h)
called_sessions l (call.Answer a) h = subst HaveSessions (sym (answer_same l a)) h
called_sessions l (call.Start t) h = keeps_sessions (held_in l) (called l (call.Start t)) (called_keeps l (call.Start t) tt h) h
called_sessions l call.Dispatch h = keeps_sessions (held_in l) (called l call.Dispatch) (called_keeps l call.Dispatch tt h) h
called_sessions l (call.Send to body) h = keeps_sessions (held_in l) (called l (call.Send to body)) (called_keeps l (call.Send to body) tt h) h
called_sessions l (call.Call to body) h = keeps_sessions (held_in l) (called l (call.Call to body)) (called_keeps l (call.Call to body) tt h) h
called_sessions l (call.Ret body) h = keeps_sessions (held_in l) (called l (call.Ret body)) (called_keeps l (call.Ret body) tt h) h
called_sessions l call.Response h = keeps_sessions (held_in l) (called l call.Response) (called_keeps l call.Response tt h) h
called_sessions l (call.Respond r given) h = keeps_sessions (held_in l) (called l (call.Respond r given)) (called_keeps l (call.Respond r given) tt h) h
called_sessions l (call.Unused r) h = keeps_sessions (held_in l) (called l (call.Unused r)) (called_keeps l (call.Unused r) tt h) h
called_sessions l (call.Fork t) h = keeps_sessions (held_in l) (called l (call.Fork t)) (called_keeps l (call.Fork t) tt h) h
called_sessions l (call.Timeout n t) h = keeps_sessions (held_in l) (called l (call.Timeout n t)) (called_keeps l (call.Timeout n t) tt h) h
called_sessions l (call.Sleep n token) h = keeps_sessions (held_in l) (called l (call.Sleep n token)) (called_keeps l (call.Sleep n token) tt h) h
called_sessions l (call.Wait token) h = keeps_sessions (held_in l) (called l (call.Wait token)) (called_keeps l (call.Wait token) tt h) h
called_sessions l (call.Wakeup token) h = keeps_sessions (held_in l) (called l (call.Wakeup token)) (called_keeps l (call.Wakeup token) tt h) h
called_sessions l call.Now h = keeps_sessions (held_in l) (called l call.Now) (called_keeps l call.Now tt h) h
called_sessions l (call.LocalName name) h = keeps_sessions (held_in l) (called l (call.LocalName name)) (called_keeps l (call.LocalName name) tt h) h
called_sessions l (call.Name name n) h = keeps_sessions (held_in l) (called l (call.Name name n)) (called_keeps l (call.Name name n) tt h) h
called_sessions l (call.NewService name args) h = keeps_sessions (held_in l) (called l (call.NewService name args)) (called_keeps l (call.NewService name args) tt h) h
called_sessions l (call.Kill to text) h = keeps_sessions (held_in l) (called l (call.Kill to text)) (called_keeps l (call.Kill to text) tt h) h
called_sessions l call.Exit h = keeps_sessions (held_in l) (called l call.Exit) (called_keeps l call.Exit tt h) h
called_sessions l (call.Log text) h = keeps_sessions (held_in l) (called l (call.Log text)) (called_keeps l (call.Log text) tt h) h

pub stopped_sessions : (l : Lib) (s : ThreadStop) → HaveSessions (held_in l) → HaveSessions (held_in (stopped l s).1)
stopped_sessions l s h = keeps_sessions (held_in l) (stopped l s) (stopped_keeps l s h) h
