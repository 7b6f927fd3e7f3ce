-- A Look is followed by the Put that it is for, and a Retire by its Mark.
use Rattle.std.proofs.Common.{◌≡◌, Bool, true, false, cond, List, [], ◌∷◌, Option, Some, None, nat_eq, ◌||◌, refl, ap, codes, pos, ℤ}
use Rattle.std.specs.Prelude.{int_lt, int_le, is_some}
use Rattle.sk_types.specs.declared.number.Handle.{Handle}
use Rattle.sk_types.specs.declared.number.Session.{Session}
use Rattle.sk_types.specs.declared.number.Kind.{Kind}
use Rattle.sk_types.specs.declared.number.Kind.TheVariants as kind
use Rattle.message.specs.declared.datum.Datum.{Datum}
use Rattle.message.specs.declared.request.Held.{Held}
use Rattle.message.specs.declared.request.Message.{Message}
use Rattle.message.specs.declared.request.Dest.{Dest}
use Rattle.message.specs.declared.request.Dest.TheVariants as dest
use Rattle.message.specs.declared.request.Request.TheVariants as request
use Rattle.message.specs.declared.request.Answer.{Answer}
use Rattle.message.specs.declared.request.Answer.TheVariants.{Found, Flag, Clock, Done}
use Rattle.session_table.specs.declared.words.ThreadNo.{ThreadNo}
use Rattle.session_table.specs.declared.words.Token.{Token}
use Rattle.session_table.specs.Table.{next_woken, after_wakeup, waiter, without_waiter, drawn, after_draw, when_found, owed, without_owed, answer_of, without_answer, sleeping, with_sleeper}
use Rattle.service_exit.specs.declared.Exit.{Exit}
use Rattle.service_exit.specs.declared.Exit.TheVariants as exit
use Rattle.service_exit.specs.declared.Stage.{Stage}
use Rattle.service_exit.specs.declared.Stage.TheVariants as stage
use Rattle.service_exit.specs.declared.Leave.{Leave}
use Rattle.service_exit.specs.Endings.{ended, spares, ending, after_next}
use Rattle.service_library.specs.declared.words.AfterReply.{AfterReply}
use Rattle.service_library.specs.declared.words.AfterReply.TheVariants.{GoOn, Log, Rest}
use Rattle.service_library.specs.declared.words.LibCall.{LibCall}
use Rattle.service_library.specs.declared.words.LibCall.TheVariants as call
use Rattle.service_library.specs.declared.words.LibStep.{LibStep}
use Rattle.service_library.specs.declared.words.LibStep.TheVariants as step
use Rattle.service_library.specs.declared.words.LibStep.TheVariants.{Ask}
use Rattle.service_library.specs.declared.words.ThreadStop.{ThreadStop}
use Rattle.service_library.specs.declared.words.ThreadStop.TheVariants as stop
use Rattle.service_library.specs.declared.words.Reason.{Reason}
use Rattle.service_library.specs.declared.words.Reason.TheVariants as reason
use Rattle.service_library.specs.declared.words.Doing.{Doing}
use Rattle.service_library.specs.declared.words.Doing.TheVariants.{Quiet, Sending, Sent, Calling, Called, Replying, Replied, Given, Sleeping, Asking, Finding, Naming, Seeking, Leaving, Told, Over}
use Rattle.service_library.specs.State.{Lib}
use Rattle.service_library.specs.Rows.{Stepped, thread_ended, next, next_failed, next_fork, called, stopped, ends, leaves, with_session, with_alarm, sleeps, blocked_for, answers_held, is_that, kills, asks, gives, marks_own, ticks_of, waits, alarm, launch, own_response, own_message, no_session, kind_of, body_of, after_answer, after_reply, arrives_as, call_fails, brings, why, joins_failed}
use Rattle.service_library.specs.Laws.{letter, IsOrderly}
use Rattle.service_library.proofs.Choices.{of_found, of_test}

same_put : (p q : Handle × Message) → ◌≡◌ {A = Option (Handle × Message)} (Some p) (Some q) → ◌≡◌ {A = LibStep} (Ask (request.Put p.0 p.1)) (Ask (request.Put q.0 q.1))
same_put p q e =
    let s : p ≡ q = cc in
    ap (λ (r : Handle × Message). Ask (request.Put r.0 r.1)) s

puts_at : (l : Lib) (d : Doing) (h to : Handle) (m : Message) → letter l d h ≡ Some (to, m) → (after_answer l d (Found (Some h))).0 ≡ Ask (request.Put to m)
puts_at l (Sending body) h to m e = same_put (h, own_message l no_session kind.Lua body) (to, m) e
puts_at l (Calling s body) h to m e = same_put (h, own_message l s kind.Lua body) (to, m) e
puts_at l (Replying x k body after) h to m e = same_put (x.source, own_message l x.session k body) (to, m) e
puts_at l Quiet h to m e = absurd (cc)
puts_at l Sent h to m e = absurd (cc)
puts_at l (Called s) h to m e = absurd (cc)
puts_at l (Replied x after) h to m e = absurd (cc)
puts_at l Given h to m e = absurd (cc)
puts_at l (Sleeping s token) h to m e = absurd (cc)
puts_at l Asking h to m e = absurd (cc)
puts_at l Finding h to m e = absurd (cc)
puts_at l Naming h to m e = absurd (cc)
puts_at l Seeking h to m e = absurd (cc)
puts_at l (Leaving leave marked) h to m e = absurd (cc)
puts_at l Told h to m e = absurd (cc)
puts_at l Over h to m e = absurd (cc)

pub puts : (l : Lib) (h to : Handle) (m : Message) → letter l l.doing h ≡ Some (to, m) → (called l (call.Answer (Found (Some h)))).0 ≡ Ask (request.Put to m)
puts l h to m e = puts_at l l.doing h to m e

fork_orderly : (l : Lib) (ts : List ThreadNo) → IsOrderly (next_fork l ts)
fork_orderly l [] = tt
fork_orderly l (t ∷ ts) = tt

failed_orderly : (l : Lib) (ts : List ThreadNo) → IsOrderly (next_failed l ts)
failed_orderly l [] = fork_orderly l l.forks
failed_orderly l (t ∷ ts) = tt

next_orderly : (l : Lib) → IsOrderly (next l)
next_orderly l =
    let after : Lib = record l { table = after_wakeup l.table } in
    of_found IsOrderly (next_woken l.table) _ _ (λ _ _. tt) (λ _. failed_orderly after after.failed)

mark_orderly : (l : Lib) (leave : Leave) (h : Handle) (marked b : Bool) → IsOrderly (when_found (cond b None (Some (request.Mark h))) (λ r. asks l r (Leaving (after_next leave) (marks_own l.own marked r))) (cond marked (step.Idle, record l { doing = Over }) (gives l [])))
mark_orderly l leave h marked false = tt
mark_orderly l leave h true true = tt
mark_orderly l leave h false true = tt

-- a Retire of an ending is followed by its Mark
leaves_orderly_at : (l : Lib) (own : Handle) (e : Exit) (at : Stage) (last : Option Answer) (marked : Bool) → IsOrderly (leaves l (record { own = own; exit = e; stage = at }) last marked)
leaves_orderly_at l own e stage.Line last marked = tt
leaves_orderly_at l own exit.Own stage.Report last marked = tt
leaves_orderly_at l own (exit.Limit text) stage.Report last marked = tt
leaves_orderly_at l own (exit.Raised text) stage.Report last marked = tt
leaves_orderly_at l own (exit.Kill h) stage.Report last marked = tt
leaves_orderly_at l own exit.Own stage.Retire last marked = refl
leaves_orderly_at l own (exit.Limit text) stage.Retire last marked = refl
leaves_orderly_at l own (exit.Raised text) stage.Retire last marked = refl
leaves_orderly_at l own (exit.Kill h) stage.Retire last marked = refl
leaves_orderly_at l own e stage.Mark last marked = mark_orderly l (record { own = own; exit = e; stage = stage.Mark }) (ended own e) marked (spares e last)
leaves_orderly_at l own e stage.Over last true = tt
leaves_orderly_at l own e stage.Over last false = tt

leaves_orderly : (l : Lib) (leave : Leave) (last : Option Answer) (marked : Bool) → IsOrderly (leaves l leave last marked)
leaves_orderly l leave last marked = leaves_orderly_at l leave.own leave.exit leave.stage last marked

ends_orderly : (l : Lib) (e : Exit) → IsOrderly (ends l e)
ends_orderly l e = leaves_orderly l (ending l.own e) None false

session_orderly : (l : Lib) (what : Session → Lib → Stepped) → ((s : Session) (m : Lib) → IsOrderly (what s m)) → IsOrderly (with_session l what)
session_orderly l what h =
    of_found IsOrderly (drawn l.table) _ _ (λ s _. h s (record l { table = after_draw l.table })) (λ _. ends_orderly l (exit.Limit (codes "budget spent")))

alarm_orderly : (l : Lib) (n : ℤ) (what : Session → Lib → Stepped) → ((s : Session) (m : Lib) → IsOrderly (what s m)) → IsOrderly (with_alarm l n what)
alarm_orderly l n what h = of_test IsOrderly (int_lt (pos 2147483647) n) _ _ tt (session_orderly l what h)

-- what brings a session is neither a Look nor a Retire
brought_orderly : (l m : Lib) (n : ℤ) (s : Session) (d : Doing) → IsOrderly (asks m (alarm l n s) d)
brought_orderly l m n s d = of_test (λ r. IsOrderly (asks m r d)) (int_le n (pos 0)) (own_response l s) (request.Later (ticks_of n) s) tt tt

sleeps_orderly : (l : Lib) (s : Session) (token : Token) (why : Reason) → IsOrderly (sleeps l s token why)
sleeps_orderly l s token why =
    let m : Lib = blocked_for (record l { table = with_sleeper l.table token s l.running }) l.running why in
    of_test IsOrderly (is_some (sleeping l.table token)) _ _ tt (next_orderly m)

kills_orderly : (l : Lib) (to : Dest) (text : Bool) → IsOrderly (kills l to text)
kills_orderly l (dest.Number n) false = ends_orderly l (exit.Kill (record { 0 = n }))
kills_orderly l (dest.Number n) true = tt
kills_orderly l (dest.Name name) text = tt

held_orderly : (l : Lib) (x : Held) (k : Kind) (body : List Datum) → IsOrderly (answers_held l x k body)
held_orderly l x k body = of_test IsOrderly (nat_eq x.session.0 0) _ _ tt tt

after_orderly : (l : Lib) (after : AfterReply) (taken : Bool) → IsOrderly (after_reply l after taken)
after_orderly l GoOn taken = tt
after_orderly l (Log text) taken = tt
after_orderly l Rest taken = next_orderly l

answer_orderly : (l : Lib) (d : Doing) (a : Answer) → IsOrderly (after_answer l d a)
answer_orderly l (Sending body) (Found (Some h)) = tt
answer_orderly l (Sending body) (Found None) = tt
answer_orderly l (Sending body) (Flag f) = tt
answer_orderly l (Sending body) (Clock n) = tt
answer_orderly l (Sending body) Done = tt
answer_orderly l Sent (Flag true) = tt
answer_orderly l Sent (Flag false) = tt
answer_orderly l Sent (Found f) = tt
answer_orderly l Sent (Clock n) = tt
answer_orderly l Sent Done = tt
answer_orderly l (Calling s body) (Found (Some h)) = tt
answer_orderly l (Calling s body) (Found None) = tt
answer_orderly l (Calling s body) (Flag f) = tt
answer_orderly l (Calling s body) (Clock n) = tt
answer_orderly l (Calling s body) Done = tt
answer_orderly l (Called s) (Flag true) = next_orderly (waits l s l.running reason.Call)
answer_orderly l (Called s) (Flag false) = tt
answer_orderly l (Called s) (Found f) = tt
answer_orderly l (Called s) (Clock n) = tt
answer_orderly l (Called s) Done = tt
answer_orderly l (Replying x k body after) (Found (Some h)) = tt
answer_orderly l (Replying x k body after) (Found None) = after_orderly l after false
answer_orderly l (Replying x k body after) (Flag f) = tt
answer_orderly l (Replying x k body after) (Clock n) = tt
answer_orderly l (Replying x k body after) Done = tt
answer_orderly l (Replied x after) (Flag taken) = after_orderly l after taken
answer_orderly l (Replied x after) (Found f) = tt
answer_orderly l (Replied x after) (Clock n) = tt
answer_orderly l (Replied x after) Done = tt
answer_orderly l Given a = tt
answer_orderly l (Sleeping s token) (Flag f) = sleeps_orderly l s token reason.Sleep
answer_orderly l (Sleeping s token) Done = sleeps_orderly l s token reason.Sleep
answer_orderly l (Sleeping s token) (Found f) = tt
answer_orderly l (Sleeping s token) (Clock n) = tt
answer_orderly l Asking (Clock n) = tt
answer_orderly l Asking (Found f) = tt
answer_orderly l Asking (Flag f) = tt
answer_orderly l Asking Done = tt
answer_orderly l Finding (Found (Some h)) = tt
answer_orderly l Finding (Found None) = tt
answer_orderly l Finding (Flag f) = tt
answer_orderly l Finding (Clock n) = tt
answer_orderly l Finding Done = tt
answer_orderly l Naming (Flag true) = tt
answer_orderly l Naming (Flag false) = tt
answer_orderly l Naming (Found f) = tt
answer_orderly l Naming (Clock n) = tt
answer_orderly l Naming Done = tt
answer_orderly l Seeking (Found (Some h)) = ends_orderly l (exit.Kill h)
answer_orderly l Seeking (Found None) = tt
answer_orderly l Seeking (Flag f) = tt
answer_orderly l Seeking (Clock n) = tt
answer_orderly l Seeking Done = tt
answer_orderly l (Leaving leave marked) a = leaves_orderly l leave (Some a) marked
answer_orderly l Told a = next_orderly l
answer_orderly l Quiet a = tt
answer_orderly l Over a = tt

brings_orderly : (l : Lib) (t : ThreadNo) (r : Option Reason) (body : List Datum) → IsOrderly (brings l t r body)
brings_orderly l t None body = tt
brings_orderly l t (Some reason.Call) body = tt
brings_orderly l t (Some reason.Begin) body = tt
brings_orderly l t (Some reason.Sleep) body = tt
brings_orderly l t (Some reason.Wait) body = tt

failure_orderly : (l : Lib) (s : Session) (t : ThreadNo) (r : Option Reason) → IsOrderly (call_fails l s t r)
failure_orderly l s t None = tt
failure_orderly l s t (Some reason.Begin) = tt
failure_orderly l s t (Some reason.Sleep) = tt
failure_orderly l s t (Some reason.Wait) = tt
failure_orderly l s t (Some reason.Call) = next_orderly (joins_failed l s t)

message_orderly : (l : Lib) (m : Message) (t : ThreadNo) (k : Kind) → IsOrderly (arrives_as l m t k)
message_orderly l m t kind.Text = of_found IsOrderly l.chunk _ _ (λ _ _. tt) (λ _. tt)
message_orderly l m t kind.Response =
    of_found IsOrderly (waiter l.table m.session) _ _
    (λ t2 _. brings_orderly (record l { table = without_waiter l.table m.session }) t2 (why l t2) m.body)
    (λ _. tt)
message_orderly l m t kind.Error = of_found IsOrderly (waiter l.table m.session) _ _ (λ t2 _. failure_orderly l m.session t2 (why l t2)) (λ _. tt)
message_orderly l m t kind.Lua = of_test IsOrderly l.dispatches _ _ tt (of_test IsOrderly (nat_eq m.session.0 0) _ _ tt tt)

pub called_orderly : (l : Lib) (c : LibCall) → IsOrderly (called l c)
called_orderly l (call.Message m t) = message_orderly l m t m.kind
called_orderly l (call.Answer a) = answer_orderly l l.doing a
called_orderly l (call.Start t) =
    of_found IsOrderly l.start _ _ (λ _ _. tt) (λ _. session_orderly l (λ s m. asks (waits (record m { start = Some t }) s t reason.Begin) (own_response m s) Given) (λ s m. tt))
called_orderly l call.Dispatch = tt
called_orderly l (call.Send to body) = tt
called_orderly l (call.Call to body) = session_orderly l (λ s m. asks m (request.Look to) (Calling s body)) (λ s m. tt)
called_orderly l (call.Ret body) =
    of_found IsOrderly (owed l.table l.running) _ _ (λ x _. held_orderly (record l { table = without_owed l.table l.running }) x kind.Response body) (λ _. tt)
called_orderly l call.Response = of_test IsOrderly (is_some (owed l.table l.running)) _ _ tt tt
called_orderly l (call.Respond r given) =
    of_found IsOrderly (answer_of l.table r) _ _ (λ x _. held_orderly (record l { table = without_answer l.table r }) x (kind_of given) (body_of given)) (λ _. tt)
called_orderly l (call.Unused r) = tt
called_orderly l (call.Fork t) = tt
called_orderly l (call.Timeout n t) = alarm_orderly l n (λ s m. asks (waits m s t reason.Begin) (alarm m n s) Given) (λ s m. brought_orderly m (waits m s t reason.Begin) n s Given)
called_orderly l (call.Sleep n token) = alarm_orderly l n (λ s m. asks m (alarm m n s) (Sleeping s token)) (λ s m. brought_orderly m m n s (Sleeping s token))
called_orderly l (call.Wait token) = session_orderly l (λ s m. sleeps m s token reason.Wait) (λ s m. sleeps_orderly m s token reason.Wait)
called_orderly l (call.Wakeup token) = of_test IsOrderly (is_some (sleeping l.table token)) _ _ tt tt
called_orderly l call.Now = tt
called_orderly l (call.LocalName name) = tt
called_orderly l (call.Name name n) = tt
called_orderly l (call.NewService name args) = session_orderly l (λ s m. asks m (request.Put (record { 0 = 2 }) (own_message m s kind.Lua (launch name args))) (Called s)) (λ s m. tt)
called_orderly l (call.Kill to text) = kills_orderly l to text
called_orderly l call.Exit = ends_orderly l exit.Own
called_orderly l (call.Log text) = tt

pub stopped_orderly : (l : Lib) (s : ThreadStop) → IsOrderly (stopped l s)
stopped_orderly l stop.Return = of_test IsOrderly (is_that l.start l.running) _ _ tt (next_orderly (thread_ended l))
stopped_orderly l (stop.Raise text) =
    of_test IsOrderly (is_that l.start l.running || is_that l.chunk l.running) _ _ (ends_orderly l (exit.Raised text))
    (of_found IsOrderly (owed l.table l.running) _ _ (λ x _. of_test IsOrderly (nat_eq x.session.0 0) _ _ tt tt) (λ _. tt))
stopped_orderly l (stop.Limit text) = ends_orderly l (exit.Limit text)
