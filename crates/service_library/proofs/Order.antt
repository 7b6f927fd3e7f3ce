-- Which thread goes on: the first that is ready, the one that runs, or the one that a message is for.
use Rattle.std.proofs.Common.{◌≡◌, ℕ, Bool, true, false, cond, not, List, [], ◌∷◌, Option, Some, None, nat_eq, ◌||◌, inl, inr, refl, sym, ap, ◌∙◌, subst, codes}
use Rattle.std.specs.Prelude.{is_some}
use Rattle.std.specs.Map.{lookup}
use Rattle.sk_types.specs.declared.number.Session.{Session}
use Rattle.sk_types.specs.declared.number.Kind.{Kind}
use Rattle.sk_types.specs.declared.number.Kind.TheVariants as kind
use Rattle.message.specs.Messages.{held_of as held_as}
use Rattle.message.specs.declared.datum.Datum.{Datum}
use Rattle.message.specs.declared.request.Held.{Held}
use Rattle.message.specs.declared.request.Message.{Message}
use Rattle.message.specs.declared.request.Request.{Request}
use Rattle.message.specs.declared.request.Answer.{Answer}
use Rattle.message.specs.declared.request.Answer.TheVariants.{Found, Flag, Clock, Done}
use Rattle.session_table.specs.declared.words.ThreadNo.{ThreadNo}
use Rattle.session_table.specs.declared.words.Token.{Token}
use Rattle.session_table.specs.Keys.{is_token}
use Rattle.session_table.specs.Table.{Table, with_owed, when_found, next_woken, after_wakeup, without_waiter, waiter, drawn, after_draw, last_session, owes, owed, without_owed, sleeping}
use Rattle.service_exit.specs.declared.Exit.{Exit}
use Rattle.service_exit.specs.declared.Exit.TheVariants as exit
use Rattle.service_exit.specs.declared.Leave.{Leave}
use Rattle.service_exit.specs.Endings.{next_request, after_next}
use Rattle.service_library.specs.declared.words.AfterReply.TheVariants.{GoOn, Log, Rest}
use Rattle.service_library.specs.declared.words.LibStep.{LibStep}
use Rattle.service_library.specs.declared.words.LibStep.TheVariants as step
use Rattle.service_library.specs.declared.words.LibCall.TheVariants as call
use Rattle.service_library.specs.declared.words.ThreadStop.{ThreadStop}
use Rattle.service_library.specs.declared.words.ThreadStop.TheVariants as stop
use Rattle.service_library.specs.declared.words.Reason.{Reason}
use Rattle.service_library.specs.declared.words.Reason.TheVariants as reason
use Rattle.service_library.specs.declared.words.Resume.{Resume as How}
use Rattle.service_library.specs.declared.words.Doing.{Doing}
use Rattle.service_library.specs.declared.words.Doing.TheVariants.{Quiet, Sending, Sent, Calling, Called, Replying, Replied, Given, Sleeping, Asking, Finding, Naming, Seeking, Leaving, Told, Over}
use Rattle.service_library.specs.State.{Lib}
use Rattle.service_library.specs.Rows.{Stepped, asleep, lua_arrives, raises, fails, thread_ended, next, next_failed, next_fork, called, stopped, ends, leaves, sleeps, is_that, thread_raises, asks, gives, waits, marks_own, after_answer, arrives_as, text_arrives, response_arrives, error_arrives, call_fails, brings, why, joins_failed}
use Rattle.service_library.proofs.Choices.{of_found, of_test}
use Rattle.service_library.specs.Order.{SameReady, IsFirst, FirstAt, FirstGoesOn, OwnGoesOn, suspends, GoesOn, MessageAt}
use Rattle.service_library.proofs.Ready.{after_wakeups, waiter_same}

abbrev same_ready : (l : Lib) → SameReady l l
same_ready l = (refl, refl, refl)

-- what comes next: the first that is ready, or nothing
abbrev NextAt : Lib → LibStep → Lib → Type 0
NextAt l (step.Resume t how) m = IsFirst l t how m
NextAt l (step.Ask r) m = ⊥
NextAt l (step.Raise text) m = ⊥
NextAt l step.Idle m = Unit {0}

abbrev IsNext : Lib → Stepped → Type 0
IsNext l row = NextAt l row.0 row.1

forks_next : (l : Lib) (ts : List ThreadNo) → l.forks ≡ ts → next_woken l.table ≡ None → l.failed ≡ [] → IsNext l (next_fork (record l { table = after_wakeup l.table }) ts)
forks_next l [] e none f = tt
forks_next l (t ∷ ts) e none f =
    inr (inr (record { unwoken = none; wakeups = after_wakeups l.table; answered = f; failed = refl; first = e; told = refl }))

failed_next : (l : Lib) (ts : List ThreadNo) → l.failed ≡ ts → next_woken l.table ≡ None → IsNext l (next_failed (record l { table = after_wakeup l.table }) ts)
failed_next l [] e none = forks_next l l.forks refl none e
failed_next l (t ∷ ts) e none =
    inr (inl (record { unwoken = none; wakeups = after_wakeups l.table; first = e; forks = refl; told = refl }))

next_is : (l : Lib) → IsNext l (next l)
next_is l =
    of_found (IsNext l) (next_woken l.table) _ _
    (λ t e. inl (record { first = e; wakeups = after_wakeups l.table; failed = refl; forks = refl; told = refl }))
    (λ none. failed_next l l.failed refl none)

first_of : (l : Lib) (s : LibStep) (m : Lib) → NextAt l s m → FirstAt l s m
first_of l (step.Resume t how) m h = h
first_of l (step.Ask r) m h = absurd h
first_of l (step.Raise text) m h = h
first_of l step.Idle m h = h

-- the next thread is the first of those that are ready
next_first : (l : Lib) → FirstGoesOn l (next l)
next_first l = first_of l (next l).0 (next l).1 (next_is l)

-- the end of a thread readies nobody
ended_is : (l : Lib) (t : ThreadNo) (how : How) (m : Lib) → IsFirst (thread_ended l) t how m → IsFirst l t how m
ended_is l t how m (inl h) = inl (record { first = h.first; wakeups = h.wakeups; failed = h.failed; forks = h.forks; told = h.told })
ended_is l t how m (inr (inl h)) =
    inr (inl (record { unwoken = h.unwoken; wakeups = h.wakeups; first = h.first; forks = h.forks; told = h.told }))
ended_is l t how m (inr (inr h)) =
    inr (inr (record { unwoken = h.unwoken; wakeups = h.wakeups; answered = h.answered; failed = h.failed; first = h.first; told = h.told }))

ended_first : (l : Lib) (s : LibStep) (m : Lib) → NextAt (thread_ended l) s m → FirstAt l s m
ended_first l (step.Resume t how) m h = ended_is l t how m h
ended_first l (step.Ask r) m h = absurd h
ended_first l (step.Raise text) m h = h
ended_first l step.Idle m h = h

ends_first : (l : Lib) (e : Exit) → FirstGoesOn l (ends l e)
ends_first l exit.Own = same_ready l
ends_first l (exit.Limit text) = same_ready l
ends_first l (exit.Raised text) = same_ready l
ends_first l (exit.Kill h) = same_ready l

fails_first : (l m : Lib) (text : List ℕ) (x : Held) → SameReady l m → FirstGoesOn l (fails m text x)
fails_first l m text x same = of_test (FirstGoesOn l) (nat_eq x.session.0 0) _ _ same same

owed_ready : (l : Lib) (t : ThreadNo) → SameReady l (record l { table = without_owed l.table t })
owed_ready l t = of_found (λ u. SameReady l (record l { table = u })) (owes l.table t) _ _ (λ _ _. (refl, refl, refl)) (λ _. (refl, refl, refl))

raises_first : (l : Lib) (text : List ℕ) → FirstGoesOn l (thread_raises l text)
raises_first l text =
    of_found (FirstGoesOn l) (owed l.table l.running) _ _
    (λ x _. fails_first l (record l { table = without_owed l.table l.running }) text x (owed_ready l l.running))
    (λ _. same_ready l)

pub stopped_first : (l : Lib) (s : ThreadStop) → FirstGoesOn l (stopped l s)
stopped_first l stop.Return = of_test (FirstGoesOn l) (is_that l.start l.running) _ _ (refl, refl, refl)
    (ended_first l (next (thread_ended l)).0 (next (thread_ended l)).1 (next_is (thread_ended l)))
stopped_first l (stop.Raise text) =
    of_test (FirstGoesOn l) (is_that l.start l.running || is_that l.chunk l.running) _ _ (ends_first l (exit.Raised text)) (raises_first l text)
stopped_first l (stop.Limit text) = ends_first l (exit.Limit text)

-- ANSWERS

leaves_own : (l : Lib) (leave : Leave) (last : Option Answer) (marked : Bool) → OwnGoesOn l (leaves l leave last marked)
leaves_own l leave last marked =
    of_found {A = Request} (OwnGoesOn l) (next_request leave last) (λ r. asks l r (Leaving (after_next leave) (marks_own l.own marked r))) (cond marked (step.Idle, record l { doing = Over }) (gives l []))
    (λ _ _. (refl, same_ready l))
    (λ _. of_test (OwnGoesOn l) marked (step.Idle, record l { doing = Over }) (gives l []) tt (refl, same_ready l))

sleeps_go : (l : Lib) (s : Session) (token : Token) (b : Bool) → GoesOn l (Sleeping s token) (not b) (cond b (raises l (codes "token already used")) (next (asleep l s token reason.Sleep)))
sleeps_go l s token true = (refl, same_ready l)
sleeps_go l s token false = next_first (asleep l s token reason.Sleep)

pub answered_goes : (l : Lib) (d : Doing) (a : Answer) → GoesOn l d (suspends l d a) (after_answer l d a)
answered_goes l (Sending body) (Found (Some h)) = (refl, same_ready l)
answered_goes l (Sending body) (Found None) = (refl, same_ready l)
answered_goes l (Sending body) (Flag f) = tt
answered_goes l (Sending body) (Clock n) = tt
answered_goes l (Sending body) Done = tt
answered_goes l Sent (Flag true) = (refl, same_ready l)
answered_goes l Sent (Flag false) = (refl, same_ready l)
answered_goes l Sent (Found f) = tt
answered_goes l Sent (Clock n) = tt
answered_goes l Sent Done = tt
answered_goes l (Calling s body) (Found (Some h)) = (refl, same_ready l)
answered_goes l (Calling s body) (Found None) = (refl, same_ready l)
answered_goes l (Calling s body) (Flag f) = tt
answered_goes l (Calling s body) (Clock n) = tt
answered_goes l (Calling s body) Done = tt
answered_goes l (Called s) (Flag true) = next_first (waits l s l.running reason.Call)
answered_goes l (Called s) (Flag false) = (refl, same_ready l)
answered_goes l (Called s) (Found f) = tt
answered_goes l (Called s) (Clock n) = tt
answered_goes l (Called s) Done = tt
answered_goes l (Replying x k body GoOn) (Found (Some h)) = (refl, same_ready l)
answered_goes l (Replying x k body (Log text)) (Found (Some h)) = (refl, same_ready l)
answered_goes l (Replying x k body Rest) (Found (Some h)) = (refl, same_ready l)
answered_goes l (Replying x k body GoOn) (Found None) = (refl, same_ready l)
answered_goes l (Replying x k body (Log text)) (Found None) = (refl, same_ready l)
answered_goes l (Replying x k body Rest) (Found None) = next_first l
answered_goes l (Replying x k body GoOn) (Flag f) = tt
answered_goes l (Replying x k body (Log text)) (Flag f) = tt
answered_goes l (Replying x k body Rest) (Flag f) = tt
answered_goes l (Replying x k body GoOn) (Clock n) = tt
answered_goes l (Replying x k body (Log text)) (Clock n) = tt
answered_goes l (Replying x k body Rest) (Clock n) = tt
answered_goes l (Replying x k body GoOn) Done = tt
answered_goes l (Replying x k body (Log text)) Done = tt
answered_goes l (Replying x k body Rest) Done = tt
answered_goes l (Replied x GoOn) (Flag taken) = (refl, same_ready l)
answered_goes l (Replied x (Log text)) (Flag taken) = (refl, same_ready l)
answered_goes l (Replied x Rest) (Flag taken) = next_first l
answered_goes l (Replied x GoOn) (Found f) = tt
answered_goes l (Replied x (Log text)) (Found f) = tt
answered_goes l (Replied x Rest) (Found f) = tt
answered_goes l (Replied x GoOn) (Clock n) = tt
answered_goes l (Replied x (Log text)) (Clock n) = tt
answered_goes l (Replied x Rest) (Clock n) = tt
answered_goes l (Replied x GoOn) Done = tt
answered_goes l (Replied x (Log text)) Done = tt
answered_goes l (Replied x Rest) Done = tt
answered_goes l Given a = (refl, same_ready l)
answered_goes l (Sleeping s token) (Flag f) = sleeps_go l s token (is_some (sleeping l.table token))
answered_goes l (Sleeping s token) Done = sleeps_go l s token (is_some (sleeping l.table token))
answered_goes l (Sleeping s token) (Found f) = tt
answered_goes l (Sleeping s token) (Clock n) = tt
answered_goes l Asking (Clock n) = (refl, same_ready l)
answered_goes l Asking (Found f) = tt
answered_goes l Asking (Flag f) = tt
answered_goes l Asking Done = tt
answered_goes l Finding (Found (Some h)) = (refl, same_ready l)
answered_goes l Finding (Found None) = (refl, same_ready l)
answered_goes l Finding (Flag f) = tt
answered_goes l Finding (Clock n) = tt
answered_goes l Finding Done = tt
answered_goes l Naming (Flag true) = (refl, same_ready l)
answered_goes l Naming (Flag false) = (refl, same_ready l)
answered_goes l Naming (Found f) = tt
answered_goes l Naming (Clock n) = tt
answered_goes l Naming Done = tt
answered_goes l Seeking (Found (Some h)) = (refl, same_ready l)
answered_goes l Seeking (Found None) = (refl, same_ready l)
answered_goes l Seeking (Flag f) = tt
answered_goes l Seeking (Clock n) = tt
answered_goes l Seeking Done = tt
answered_goes l (Leaving leave marked) a = leaves_own l leave (Some a) marked
answered_goes l Told a = next_first l
answered_goes l Quiet a = tt
answered_goes l Over a = tt

draw_sleepers : (t : Table) → (after_draw t).sleepers ≡ t.sleepers
draw_sleepers t = of_test (λ (u : Table). u.sleepers ≡ t.sleepers) (nat_eq t.last last_session) _ _ refl refl

-- a thread that waits under a token which was free
pub wait_first : (l : Lib) (token : Token) (s : Session) → drawn l.table ≡ Some s → sleeping l.table token ≡ None → FirstGoesOn (asleep (record l { table = after_draw l.table }) s token reason.Wait) (called l (call.Wait token))
wait_first l token s e free =
    let m : Lib = record l { table = after_draw l.table } in
    let none : sleeping m.table token ≡ None = ap (λ (es : List (Token × Session)). lookup (is_token token) es) (draw_sleepers l.table) ∙ free in
    subst (λ o. FirstGoesOn (asleep m s token reason.Wait) (when_found o (λ r. sleeps m r token reason.Wait) (ends l (exit.Limit (codes "budget spent"))))) (sym e)
    (subst (λ (o : Option Session). FirstGoesOn (asleep m s token reason.Wait) (cond (is_some o) (raises m (codes "token already used")) (next (asleep m s token reason.Wait)))) (sym none)
    (next_first (asleep m s token reason.Wait)))

-- MESSAGES

text_goes : (l : Lib) (s : Session) (body : List Datum) (t : ThreadNo) → MessageAt l s t kind.Text (text_arrives l body t).0 (text_arrives l body t).1
text_goes l s body t =
    of_found (λ (row : Stepped). MessageAt l s t kind.Text row.0 row.1) l.chunk _ _ (λ _ _. tt) (λ _. (refl, same_ready l))

brings_goes : (l m : Lib) (s : Session) (t u : ThreadNo) (r : Option Reason) (body : List Datum) → waiter l.table s ≡ Some u → SameReady l m → MessageAt l s t kind.Response (brings m u r body).0 (brings m u r body).1
brings_goes l m s t u None body e same = (e, same)
brings_goes l m s t u (Some reason.Call) body e same = (e, same)
brings_goes l m s t u (Some reason.Begin) body e same = (e, same)
brings_goes l m s t u (Some reason.Sleep) body e same = (e, same)
brings_goes l m s t u (Some reason.Wait) body e same = (e, same)

response_goes : (l : Lib) (s : Session) (body : List Datum) (t : ThreadNo) → MessageAt l s t kind.Response (response_arrives l s body).0 (response_arrives l s body).1
response_goes l s body t =
    of_found (λ (row : Stepped). MessageAt l s t kind.Response row.0 row.1) (waiter l.table s) _ _
    (λ u e. brings_goes l (record l { table = without_waiter l.table s }) s t u (why l u) body e (waiter_same l.table s, refl, refl))
    (λ _. tt)

-- the first that is ready goes on once the call of u has failed
first_for : (l : Lib) (s : Session) (t u : ThreadNo) (a : LibStep) (m : Lib) → waiter l.table s ≡ Some u → NextAt (joins_failed l s u) a m → MessageAt l s t kind.Error a m
first_for l s t u (step.Resume v how) m e h = (u, e, h)
first_for l s t u (step.Ask r) m e h = absurd h
first_for l s t u (step.Raise text) m e h = h
first_for l s t u step.Idle m e h = h

fails_for : (l : Lib) (s : Session) (t u : ThreadNo) (r : Option Reason) → waiter l.table s ≡ Some u → MessageAt l s t kind.Error (call_fails l s u r).0 (call_fails l s u r).1
fails_for l s t u None e = tt
fails_for l s t u (Some reason.Begin) e = tt
fails_for l s t u (Some reason.Sleep) e = tt
fails_for l s t u (Some reason.Wait) e = tt
fails_for l s t u (Some reason.Call) e =
    let row : Stepped = next (joins_failed l s u) in
    first_for l s t u row.0 row.1 e (next_is (joins_failed l s u))

error_goes : (l : Lib) (s : Session) (t : ThreadNo) → MessageAt l s t kind.Error (error_arrives l s).0 (error_arrives l s).1
error_goes l s t =
    of_found (λ (row : Stepped). MessageAt l s t kind.Error row.0 row.1) (waiter l.table s) _ _ (λ u e. fails_for l s t u (why l u) e) (λ _. tt)

held_ready : (l : Lib) (t : ThreadNo) (x : Held) → SameReady l (record l { table = with_owed l.table t x })
held_ready l t x = of_test (λ u. SameReady l (record l { table = u })) (nat_eq x.session.0 0) _ _ (refl, refl, refl) (refl, refl, refl)

lua_goes : (l : Lib) (m : Message) (t : ThreadNo) → MessageAt l m.session t kind.Lua (lua_arrives l m t).0 (lua_arrives l m t).1
lua_goes l m t =
    of_test (λ (row : Stepped). MessageAt l m.session t kind.Lua row.0 row.1) l.dispatches _ _ (refl, held_ready l t (held_as m))
    (of_test (λ (row : Stepped). MessageAt l m.session t kind.Lua row.0 row.1) (nat_eq m.session.0 0) _ _ tt (refl, refl, refl))

pub message_goes : (l : Lib) (m : Message) (t : ThreadNo) (k : Kind) → MessageAt l m.session t k (arrives_as l m t k).0 (arrives_as l m t k).1
message_goes l m t kind.Text = text_goes l m.session m.body t
message_goes l m t kind.Response = response_goes l m.session m.body t
message_goes l m t kind.Error = error_goes l m.session t
message_goes l m t kind.Lua = lua_goes l m t
