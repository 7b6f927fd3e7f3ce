-- What skynet.lua does: what each message, each answer, each call of a thread and each way in which a thread stops makes
-- of the library's state, and what comes next (skynet.lua: raw_dispatch_message, suspend, dispatch_wakeup,
-- dispatch_error_queue, fork_queue, and its calls, each by its name).
use Rattle.std.specs.Prelude.{ℕ, Bool, true, false, ◌==◌, if◌then◌else◌, Option, Some, None, is_some, Result, IfOk, ◌≡◌, List, [], ◌∷◌, ◌++◌, pos, negsuc, ℤ, nat_le, ◌||◌, int_le, int_lt, codes}
use Rattle.std.specs.Int.{cast_signed, w64}
use Rattle.std.specs.Map.{lookup, remove_entry}
use Rattle.std.specs.BTreeMap.{insert_entry}
use Rattle.sk_types.specs.declared.memory.NoMemory.{NoMemory}
use Rattle.sk_types.specs.declared.number.Handle.{Handle}
use Rattle.sk_types.specs.declared.number.Session.{Session}
use Rattle.sk_types.specs.declared.number.Kind.{Kind}
use Rattle.sk_types.specs.declared.number.Kind.TheVariants as kind
use Rattle.message.specs.Messages.{timer_message, held_of}
use Rattle.message.specs.declared.datum.Datum.{Datum}
use Rattle.message.specs.declared.datum.Datum.TheVariants as datum
use Rattle.message.specs.declared.request.Held.{Held}
use Rattle.message.specs.declared.request.Message.{Message}
use Rattle.message.specs.declared.request.Dest.{Dest}
use Rattle.message.specs.declared.request.Dest.TheVariants as dest
use Rattle.message.specs.declared.request.Request.{Request}
use Rattle.message.specs.declared.request.Request.TheVariants as request
use Rattle.message.specs.declared.request.Answer.{Answer}
use Rattle.message.specs.declared.request.Answer.TheVariants.{Found, Flag, Clock, Done}
use Rattle.session_table.specs.Keys.{thread_cmp, is_thread}
use Rattle.session_table.specs.Table.{drawn, after_draw, waiter, without_waiter, with_waiter, with_owed, owed, without_owed, without_thread, taken_over, answer_of, without_answer, sleeping, with_sleeper, woken, next_woken, after_wakeup, when_found}
use Rattle.session_table.specs.declared.words.ThreadNo.{ThreadNo}
use Rattle.session_table.specs.declared.words.Token.{Token}
use Rattle.service_exit.specs.Words.{to_logger, to_launcher}
use Rattle.service_exit.specs.Endings.{ending, next_request, after_next}
use Rattle.service_exit.specs.declared.Exit.{Exit}
use Rattle.service_exit.specs.declared.Exit.TheVariants as exit
use Rattle.service_exit.specs.declared.Leave.{Leave}
use Rattle.service_library.specs.State.{Lib}
use Rattle.service_library.specs.declared.words.Reason.{Reason}
use Rattle.service_library.specs.declared.words.Reason.TheVariants as reason
use Rattle.service_library.specs.declared.words.AfterReply.{AfterReply}
use Rattle.service_library.specs.declared.words.AfterReply.TheVariants.{GoOn, Log, Rest}
use Rattle.service_library.specs.declared.words.Doing.{Doing}
use Rattle.service_library.specs.declared.words.Doing.TheVariants.{Quiet, Sending, Sent, Calling, Called, Replying, Replied, Given, Sleeping, Asking, Finding, Naming, Seeking, Leaving, Told, Over}
use Rattle.service_library.specs.declared.words.LibCall.{LibCall}
use Rattle.service_library.specs.declared.words.LibCall.TheVariants as call
use Rattle.service_library.specs.declared.words.LibStep.{LibStep}
use Rattle.service_library.specs.declared.words.LibStep.TheVariants as step
use Rattle.service_library.specs.declared.words.Resume.{Resume}
use Rattle.service_library.specs.declared.words.Resume.TheVariants as go
use Rattle.service_library.specs.declared.words.ThreadStop.{ThreadStop}
use Rattle.service_library.specs.declared.words.ThreadStop.TheVariants as stop

-- what comes next, and the state then
abbrev pub Stepped : Type 0
Stepped = LibStep × Lib

-- a request is asked, and what it is for is kept
abbrev pub asks : Lib → Request → Doing → Stepped
asks l r d = (step.Ask r, record l { doing = d })

-- the running thread goes on with these values
abbrev pub gives : Lib → List Datum → Stepped
gives l values = (step.Resume l.running (go.Values values), record l { doing = Quiet })

-- its call raises
abbrev pub raises : Lib → List ℕ → Stepped
raises l text = (step.Raise text, record l { doing = Quiet })

-- a thread runs
abbrev pub runs : Lib → ThreadNo → Resume → Stepped
runs l thread how = (step.Resume thread how, record l { running = thread; doing = Quiet })

-- the message is done
abbrev pub rests : Lib → Stepped
rests l = (step.Idle, record l { doing = Quiet })

-- THREADS

-- why a thread waits
abbrev pub why : Lib → ThreadNo → Option Reason
why l thread = lookup (is_thread thread) l.blocked

abbrev pub blocked_for : Lib → ThreadNo → Reason → Lib
blocked_for l thread why = record l { blocked = insert_entry thread_cmp l.blocked thread why }

abbrev pub unblocked : Lib → ThreadNo → Lib
unblocked l thread = record l { blocked = remove_entry (is_thread thread) l.blocked }

-- a sleeper that was woken is told so
abbrev pub values_of_wakeup : Option Reason → List Datum
values_of_wakeup (Some reason.Sleep) = datum.Text (codes "BREAK") ∷ []
values_of_wakeup (Some reason.Wait) = []
values_of_wakeup (Some reason.Call) = []
values_of_wakeup (Some reason.Begin) = []
values_of_wakeup None = []

abbrev pub next_fork : Lib → List ThreadNo → Stepped
next_fork l [] = rests l
next_fork l (t ∷ ts) = runs (record l { forks = ts }) t (go.Begin [])

abbrev pub next_failed : Lib → List ThreadNo → Stepped
next_failed l [] = next_fork l l.forks
next_failed l (t ∷ ts) = runs (record l { failed = ts }) t (go.Fail (codes "call failed"))

abbrev pub wakes : Lib → ThreadNo → Stepped
wakes l t = runs (unblocked l t) t (go.Values (values_of_wakeup (why l t)))

-- A thread suspends or ends: the first wakeup goes on, else the first failed call, else the first fork begins; else the
-- message is done.
abbrev pub next : Lib → Stepped
next l =
    let after : Lib = record l { table = after_wakeup l.table } in
    when_found (next_woken l.table) (wakes after) (next_failed after l.failed)

-- THE SERVICE'S OWN MESSAGES

abbrev pub own_message : Lib → Session → Kind → List Datum → Message
own_message l session k body = record { source = l.own; session = session; kind = k; body = body }

abbrev pub no_session : Session
no_session = record { 0 = 0 }

-- what a timer brings, put at once
abbrev pub own_response : Lib → Session → Request
own_response l session = request.Put l.own (timer_message session)

abbrev pub logs : Lib → List ℕ → Request
logs l text = to_logger l.own (datum.Text text ∷ [])

abbrev pub started : Lib → Request
started l = to_launcher l.own (datum.Text (codes "LAUNCHOK") ∷ [])

abbrev pub launch : List ℕ → List Datum → List Datum
launch name args = (datum.Text (codes "LAUNCH") ∷ datum.Text (codes "snlua") ∷ datum.Text name ∷ []) ++ args

-- ENDINGS

-- whether the Mark of the service itself was asked, once this request is asked
abbrev pub marks_own : Handle → Bool → Request → Bool
marks_own own marked (request.Mark h) = h.0 == own.0
marks_own own marked _ = marked

-- The requests of an ending, one after another. A service whose own Mark was asked runs nothing more; else it had
-- killed another, and the thread goes on.
abbrev pub leaves : Lib → Leave → Option Answer → Bool → Stepped
leaves l leave last marked =
    when_found (next_request leave last)
    (λ r. asks l r (Leaving (after_next leave) (marks_own l.own marked r)))
    (if marked then (step.Idle, record l { doing = Over }) else gives l [])

abbrev pub ends : Lib → Exit → Stepped
ends l e = leaves l (ending l.own e) None false

-- SESSIONS

-- a session is drawn for what follows; where none is left the service ends as one whose budget is spent
abbrev pub with_session : Lib → (Session → Lib → Stepped) → Stepped
with_session l what =
    when_found (drawn l.table) (λ s. what s (record l { table = after_draw l.table })) (ends l (exit.Limit (codes "budget spent")))

-- a thread waits for a session
abbrev pub waits : Lib → Session → ThreadNo → Reason → Lib
waits l session thread why =
    blocked_for (record l { table = with_waiter l.table session (record { thread = thread; token = None }) }) thread why

-- the running thread waits for the answer to its call
abbrev pub calls : Lib → Session → Stepped
calls l session = next (waits l session l.running reason.Call)

-- the running thread waits under a token
abbrev pub asleep : Lib → Session → Token → Reason → Lib
asleep l session token why = blocked_for (record l { table = with_sleeper l.table token session l.running }) l.running why

-- the running thread sleeps under a token, where nobody else does
abbrev pub sleeps : Lib → Session → Token → Reason → Stepped
sleeps l session token why =
    if is_some (sleeping l.table token)
    then raises l (codes "token already used")
    else next (asleep l session token why)

-- the ticks of a timer, and the handle that an integer names
abbrev pub ticks_of : ℤ → ℕ
ticks_of (pos n) = n
ticks_of (negsuc n) = 0

abbrev pub handle_of : ℤ → ℕ
handle_of (pos n) = if nat_le n 4294967295 then n else 0
handle_of (negsuc n) = 0

-- what brings a session after some ticks
abbrev pub alarm : Lib → ℤ → Session → Request
alarm l n session = if int_le n (pos 0) then own_response l session else request.Later (ticks_of n) session

-- a timer of some ticks for a session that is drawn
abbrev pub with_alarm : Lib → ℤ → (Session → Lib → Stepped) → Stepped
with_alarm l n what = if int_lt (pos 2147483647) n then raises l (codes "timeout out of range") else with_session l what

-- REPLIES

-- the caller is looked up, and then the reply is put
abbrev pub replies : Lib → Held → Kind → List Datum → AfterReply → Stepped
replies l held k body after = asks l (request.Look (dest.Number held.source.0)) (Replying held k body after)

-- what is owed is answered; a message that wanted no answer gets none
abbrev pub answers_held : Lib → Held → Kind → List Datum → Stepped
answers_held l held k body = if held.session.0 == 0 then gives l (datum.Bool false ∷ []) else replies l held k body GoOn

abbrev pub after_reply : Lib → AfterReply → Bool → Stepped
after_reply l GoOn taken = gives l (datum.Bool taken ∷ [])
after_reply l (Log text) taken = asks l (logs l text) Told
after_reply l Rest taken = next l

-- ANSWERS

-- one row for each request, by what it was for
abbrev pub after_answer : Lib → Doing → Answer → Stepped
after_answer l (Sending body) (Found (Some h)) = asks l (request.Put h (own_message l no_session kind.Lua body)) Sent
after_answer l (Sending body) (Found None) = gives l []
after_answer l Sent (Flag true) = gives l (datum.Int (pos 0) ∷ [])
after_answer l Sent (Flag false) = gives l []
after_answer l (Calling s body) (Found (Some h)) = asks l (request.Put h (own_message l s kind.Lua body)) (Called s)
after_answer l (Calling s body) (Found None) = raises l (codes "invalid destination")
after_answer l (Called s) (Flag true) = calls l s
after_answer l (Called s) (Flag false) = raises l (codes "invalid destination")
after_answer l (Replying held k body after) (Found (Some h)) = asks l (request.Put held.source (own_message l held.session k body)) (Replied held after)
after_answer l (Replying held k body after) (Found None) = after_reply l after false
after_answer l (Replied held after) (Flag taken) = after_reply l after taken
after_answer l Given a = gives l []
after_answer l (Sleeping s token) (Flag taken) = sleeps l s token reason.Sleep
after_answer l (Sleeping s token) Done = sleeps l s token reason.Sleep
after_answer l Asking (Clock now) = gives l (datum.Int (cast_signed w64 now) ∷ [])
after_answer l Finding (Found (Some h)) = gives l (datum.Int (pos h.0) ∷ [])
after_answer l Finding (Found None) = gives l (datum.Nil ∷ [])
after_answer l Naming (Flag true) = gives l []
after_answer l Naming (Flag false) = raises l (codes "name refused")
after_answer l Seeking (Found (Some h)) = ends l (exit.Kill h)
after_answer l Seeking (Found None) = gives l []
after_answer l (Leaving leave marked) a = leaves l leave (Some a) marked
after_answer l Told a = next l
-- no request has an answer of another form
after_answer l _ a = rests l

-- MESSAGES

-- a thread goes on with what its session brought
abbrev pub brings : Lib → ThreadNo → Option Reason → List Datum → Stepped
brings l t (Some reason.Call) body = runs (unblocked l t) t (go.Unpack body)
brings l t (Some reason.Begin) body = runs (unblocked l t) t (go.Begin [])
brings l t (Some reason.Sleep) body = runs (unblocked l t) t (go.Values [])
brings l t (Some reason.Wait) body = runs (unblocked l t) t (go.Values [])
brings l t None body = runs (unblocked l t) t (go.Values [])

-- a Response for which nobody waits is dropped
abbrev pub response_arrives : Lib → Session → List Datum → Stepped
response_arrives l s body =
    when_found (waiter l.table s) (λ t. brings (record l { table = without_waiter l.table s }) t (why l t) body) (rests l)

-- an open call joins the failed ones, and waits no more
abbrev pub joins_failed : Lib → Session → ThreadNo → Lib
joins_failed l s t = record (unblocked l t) { table = without_waiter l.table s; failed = l.failed ++ t ∷ [] }

abbrev pub call_fails : Lib → Session → ThreadNo → Option Reason → Stepped
call_fails l s t (Some reason.Call) = next (joins_failed l s t)
call_fails l s t (Some reason.Begin) = rests l
call_fails l s t (Some reason.Sleep) = rests l
call_fails l s t (Some reason.Wait) = rests l
call_fails l s t None = rests l

-- an Error of no open call is dropped
abbrev pub error_arrives : Lib → Session → Stepped
error_arrives l s = when_found (waiter l.table s) (λ t. call_fails l s t (why l t)) (rests l)

-- a message for the dispatch function runs in a new thread, which is to answer it; where none is set, a request gets an Error
abbrev pub lua_arrives : Lib → Message → ThreadNo → Stepped
lua_arrives l m t =
    if l.dispatches
    then runs (record l { table = with_owed l.table t (held_of m) }) t (go.Dispatch m.source m.session m.body)
    else (if m.session.0 == 0 then rests l else replies l (held_of m) kind.Error [] Rest)

-- the init message, which is the first of kind Text, runs the script's chunk; any other text is dropped
abbrev pub text_arrives : Lib → List Datum → ThreadNo → Stepped
text_arrives l body t = when_found l.chunk (λ _. rests l) (runs (record l { chunk = Some t }) t (go.Begin body))

abbrev pub arrives_as : Lib → Message → ThreadNo → Kind → Stepped
arrives_as l m t kind.Text = text_arrives l m.body t
arrives_as l m t kind.Response = response_arrives l m.session m.body
arrives_as l m t kind.Error = error_arrives l m.session
arrives_as l m t kind.Lua = lua_arrives l m t

abbrev pub arrives : Lib → Message → ThreadNo → Stepped
arrives l m t = arrives_as l m t m.kind

-- CALLS

-- a response function answers with the values of a Response, or with an Error
abbrev pub kind_of : Option (List Datum) → Kind
kind_of None = kind.Error
kind_of (Some body) = kind.Response

abbrev pub body_of : Option (List Datum) → List Datum
body_of None = []
body_of (Some body) = body

-- a service that is named by a text is looked up first
abbrev pub kills : Lib → Dest → Bool → Stepped
kills l (dest.Number n) false = ends l (exit.Kill (record { 0 = n }))
kills l (dest.Number n) true = asks l (request.Look (dest.Number n)) Seeking
kills l (dest.Name name) text = asks l (request.Look (dest.Name name)) Seeking

-- one row for each
abbrev pub called : Lib → LibCall → Stepped
called l (call.Message m t) = arrives l m t
called l (call.Answer a) = after_answer l l.doing a
called l (call.Start t) =
    when_found l.start (λ _. raises l (codes "already started"))
    (with_session l (λ s m. asks (waits (record m { start = Some t }) s t reason.Begin) (own_response m s) Given))
called l call.Dispatch = gives (record l { dispatches = true }) []
called l (call.Send to body) = asks l (request.Look to) (Sending body)
called l (call.Call to body) = with_session l (λ s m. asks m (request.Look to) (Calling s body))
called l (call.Ret body) =
    when_found (owed l.table l.running)
    (λ held. answers_held (record l { table = without_owed l.table l.running }) held kind.Response body)
    (raises l (codes "no session"))
called l call.Response =
    if is_some (owed l.table l.running)
    then (step.Resume l.running (go.Response (record { 0 = l.table.responses })), record l { table = taken_over l.table l.running; doing = Quiet })
    else raises l (codes "no session")
called l (call.Respond r given) =
    when_found (answer_of l.table r)
    (λ held. answers_held (record l { table = without_answer l.table r }) held (kind_of given) (body_of given))
    (raises l (codes "response already used"))
called l (call.Unused r) = gives l (datum.Bool (is_some (answer_of l.table r)) ∷ [])
called l (call.Fork t) = gives (record l { forks = l.forks ++ t ∷ [] }) []
called l (call.Timeout n t) = with_alarm l n (λ s m. asks (waits m s t reason.Begin) (alarm m n s) Given)
called l (call.Sleep n token) = with_alarm l n (λ s m. asks m (alarm m n s) (Sleeping s token))
called l (call.Wait token) = with_session l (λ s m. sleeps m s token reason.Wait)
called l (call.Wakeup token) =
    if is_some (sleeping l.table token)
    then gives (record l { table = woken l.table token }) (datum.Bool true ∷ [])
    else gives l []
called l call.Now = asks l request.Now Asking
called l (call.LocalName name) = asks l (request.Look (dest.Name name)) Finding
called l (call.Name name n) = asks l (request.Name name (record { 0 = handle_of n })) Naming
called l (call.NewService name args) =
    with_session l (λ s m. asks m (request.Put (record { 0 = 2 }) (own_message m s kind.Lua (launch name args))) (Called s))
called l (call.Kill to text) = kills l to text
called l call.Exit = ends l exit.Own
called l (call.Log text) = asks l (logs l text) Given

-- STOPS

-- whether it is this thread
abbrev pub is_that : Option ThreadNo → ThreadNo → Bool
is_that None t = false
is_that (Some s) t = s.0 == t.0

-- The error of a thread is logged. Before that, the caller of a request that it was to answer gets an Error.
abbrev pub fails : Lib → List ℕ → Held → Stepped
fails l text held = if held.session.0 == 0 then asks l (logs l text) Told else replies l held kind.Error [] (Log text)

abbrev pub thread_raises : Lib → List ℕ → Stepped
thread_raises l text =
    when_found (owed l.table l.running)
    (λ held. fails (record l { table = without_owed l.table l.running }) text held)
    (asks l (logs l text) Told)

-- the running thread has ended
abbrev pub thread_ended : Lib → Lib
thread_ended l = record l { table = without_thread l.table l.running }

-- one row for each way in which the running thread stops
abbrev pub stopped : Lib → ThreadStop → Stepped
stopped l stop.Return = if is_that l.start l.running then asks (thread_ended l) (started l) Told else next (thread_ended l)
stopped l (stop.Raise text) =
    if is_that l.start l.running || is_that l.chunk l.running
    then ends l (exit.Raised text)
    else thread_raises l text
stopped l (stop.Limit text) = ends l (exit.Limit text)

-- WHAT A CALL ANSWERS

-- what it answered and left is this row
abbrev pub Is : LibStep → Lib → Stepped → Type 0
Is given new row = (given ≡ row.0) × (new ≡ row.1)

abbrev pub Steps : Result LibStep NoMemory → Lib → Stepped → Type 0
Steps result new row = IfOk result (λ given. Is given new row)
