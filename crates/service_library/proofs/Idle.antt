-- A service is idle where no thread is ready, or where it has ended.
use Rattle.std.proofs.Common.{◌≡◌, Bool, true, false, cond, List, [], ◌∷◌, Option, Some, None, nat_eq, ◌||◌, refl, ap, subst, ◌∙◌, inl, inr, length, arith, codes, pos, ℤ}
use Rattle.std.specs.Prelude.{int_lt, int_le, is_some}
use Rattle.std.specs.Option.{option_map}
use Rattle.std.specs.Map.{lookup}
use Rattle.sk_types.specs.declared.number.Session.{Session}
use Rattle.sk_types.specs.declared.number.Kind.{Kind}
use Rattle.sk_types.specs.declared.number.Kind.TheVariants as kind
use Rattle.message.specs.declared.datum.Datum.{Datum}
use Rattle.message.specs.declared.request.Held.{Held}
use Rattle.message.specs.declared.request.Message.{Message}
use Rattle.message.specs.declared.request.Dest.{Dest}
use Rattle.message.specs.declared.request.Dest.TheVariants as dest
use Rattle.message.specs.declared.request.Request.{Request}
use Rattle.message.specs.declared.request.Request.TheVariants as request
use Rattle.message.specs.declared.request.Answer.{Answer}
use Rattle.message.specs.declared.request.Answer.TheVariants.{Found, Flag, Clock, Done}
use Rattle.session_table.specs.declared.words.ThreadNo.{ThreadNo}
use Rattle.session_table.specs.declared.words.Token.{Token}
use Rattle.session_table.specs.declared.words.Waiter.{Waiter}
use Rattle.session_table.specs.Keys.{is_session}
use Rattle.session_table.specs.Table.{first_woken, wakeups_left, after_wakeup, waiter, without_waiter, drawn, after_draw, when_found, owed, without_owed, answer_of, without_answer, sleeping, with_sleeper}
use Rattle.service_exit.specs.declared.Exit.{Exit}
use Rattle.service_exit.specs.declared.Exit.TheVariants as exit
use Rattle.service_exit.specs.declared.Leave.{Leave}
use Rattle.service_exit.specs.Endings.{ending, next_request, after_next}
use Rattle.service_library.specs.declared.words.AfterReply.{AfterReply}
use Rattle.service_library.specs.declared.words.AfterReply.TheVariants.{GoOn, Log, Rest}
use Rattle.service_library.specs.declared.words.LibCall.{LibCall}
use Rattle.service_library.specs.declared.words.LibCall.TheVariants as call
use Rattle.service_library.specs.declared.words.LibStep.TheVariants as step
use Rattle.service_library.specs.declared.words.LibStep.TheVariants.{Ask}
use Rattle.service_library.specs.declared.words.ThreadStop.{ThreadStop}
use Rattle.service_library.specs.declared.words.ThreadStop.TheVariants as stop
use Rattle.service_library.specs.declared.words.Reason.{Reason}
use Rattle.service_library.specs.declared.words.Reason.TheVariants as reason
use Rattle.service_library.specs.declared.words.Doing.{Doing}
use Rattle.service_library.specs.declared.words.Doing.TheVariants.{Quiet, Sending, Sent, Calling, Called, Replying, Replied, Given, Sleeping, Asking, Finding, Naming, Seeking, Leaving, Told, Over}
use Rattle.service_library.specs.State.{Lib}
use Rattle.service_library.specs.Rows.{Stepped, thread_ended, next, next_failed, next_fork, wakes, called, stopped, ends, leaves, with_session, with_alarm, sleeps, blocked_for, answers_held, is_that, kills, asks, gives, marks_own, ticks_of, waits, alarm, launch, own_response, own_message, kind_of, body_of, after_answer, after_reply, arrives_as, call_fails, brings, why, joins_failed}
use Rattle.service_library.specs.Laws.{ready, IsDone, FitsDoing, IsOfThread}
use Rattle.service_library.proofs.Choices.{of_found, of_test}
use Rattle.service_library.proofs.Ready.{after_wakeups}

first_waits_head : (s : Session) (ss : List Session) (ws : List (Session × Waiter)) (r : Session) (b : Bool) → is_some (lookup (is_session s) ws) ≡ b → (first_woken ss ws ≡ Some r → is_some (lookup (is_session r) ws) ≡ true) → cond b (Some s) (first_woken ss ws) ≡ Some r → is_some (lookup (is_session r) ws) ≡ true
first_waits_head s ss ws r true is ih e =
    let same : s ≡ r = cc in
    subst (λ x. is_some (lookup (is_session x) ws) ≡ true) same is
first_waits_head s ss ws r false is ih e = ih e

-- the first wakeup that is found has a thread that waits
first_waits : (ss : List Session) (ws : List (Session × Waiter)) (r : Session) → first_woken ss ws ≡ Some r → is_some (lookup (is_session r) ws) ≡ true
first_waits [] ws r e = absurd (cc)
first_waits (s ∷ ss) ws r e = first_waits_head s ss ws r (is_some (lookup (is_session s) ws)) refl (first_waits ss ws r) e

none_left_head : (s : Session) (ss : List Session) (ws : List (Session × Waiter)) (b : Bool) → (first_woken ss ws ≡ None → wakeups_left ss ws ≡ []) → cond b (Some s) (first_woken ss ws) ≡ None → cond b ss (wakeups_left ss ws) ≡ []
none_left_head s ss ws true ih e = absurd (cc)
none_left_head s ss ws false ih e = ih e

none_left : (ss : List Session) (ws : List (Session × Waiter)) → first_woken ss ws ≡ None → wakeups_left ss ws ≡ []
none_left [] ws e = refl
none_left (s ∷ ss) ws e = none_left_head s ss ws (is_some (lookup (is_session s) ws)) (none_left ss ws) e

no_thread : (o : Option Waiter) → is_some o ≡ true → option_map (λ (w : Waiter). w.thread) o ≡ None → ⊥
no_thread None s e = absurd (cc)
no_thread (Some w) s e = absurd (cc)

fork_done : (l : Lib) (ts : List ThreadNo) → l.table.wakeups ≡ [] → l.failed ≡ [] → l.forks ≡ ts → IsDone (next_fork l ts)
fork_done l [] w f e = inl (omega (arith, ap (λ (ss : List Session). length ss) w, ap (λ (us : List ThreadNo). length us) f, ap (λ (us : List ThreadNo). length us) e))
fork_done l (t ∷ ts) w f e = tt

failed_done : (l : Lib) (ts : List ThreadNo) → l.table.wakeups ≡ [] → l.failed ≡ ts → IsDone (next_failed l ts)
failed_done l [] w e = fork_done l l.forks w e refl
failed_done l (t ∷ ts) w e = tt

next_done : (l : Lib) → IsDone (next l)
next_done l = go (first_woken l.table.wakeups l.table.waits) refl
  where
    after : Lib
    after = record l { table = after_wakeup l.table }

    go : (o : Option Session) → first_woken l.table.wakeups l.table.waits ≡ o → IsDone (when_found (when_found o (waiter l.table) None) (wakes after) (next_failed after after.failed))
    go None e = failed_done after after.failed (after_wakeups l.table ∙ none_left l.table.wakeups l.table.waits e) refl
    go (Some s) e =
        of_found IsDone (waiter l.table s) _ _ (λ _ _. tt)
        (λ n. absurd (no_thread (lookup (is_session s) l.table.waits) (first_waits l.table.wakeups l.table.waits s e) n))

mark_done : (l : Lib) (leave : Leave) (r : Option Request) (marked : Bool) → IsDone (when_found r (λ r. asks l r (Leaving (after_next leave) (marks_own l.own marked r))) (cond marked (step.Idle, record l { doing = Over }) (gives l [])))
mark_done l leave (Some r) marked = tt
mark_done l leave None true = inr refl
mark_done l leave None false = tt

leaves_done : (l : Lib) (leave : Leave) (last : Option Answer) (marked : Bool) → IsDone (leaves l leave last marked)
leaves_done l leave last marked = mark_done l leave (next_request leave last) marked

ends_done : (l : Lib) (e : Exit) → IsDone (ends l e)
ends_done l e = leaves_done l (ending l.own e) None false

session_done : (l : Lib) (what : Session → Lib → Stepped) → ((s : Session) (m : Lib) → IsDone (what s m)) → IsDone (with_session l what)
session_done l what h =
    of_found IsDone (drawn l.table) _ _ (λ s _. h s (record l { table = after_draw l.table })) (λ _. ends_done l (exit.Limit (codes "budget spent")))

alarm_done : (l : Lib) (n : ℤ) (what : Session → Lib → Stepped) → ((s : Session) (m : Lib) → IsDone (what s m)) → IsDone (with_alarm l n what)
alarm_done l n what h = of_test IsDone (int_lt (pos 2147483647) n) _ _ tt (session_done l what h)

-- what brings a session is neither a Look nor a Retire
brought_done : (l m : Lib) (n : ℤ) (s : Session) (d : Doing) → IsDone (asks m (alarm l n s) d)
brought_done l m n s d = of_test (λ r. IsDone (asks m r d)) (int_le n (pos 0)) (own_response l s) (request.Later (ticks_of n) s) tt tt

sleeps_done : (l : Lib) (s : Session) (token : Token) (why : Reason) → IsDone (sleeps l s token why)
sleeps_done l s token why =
    let m : Lib = blocked_for (record l { table = with_sleeper l.table token s l.running }) l.running why in
    of_test IsDone (is_some (sleeping l.table token)) _ _ tt (next_done m)

kills_done : (l : Lib) (to : Dest) (text : Bool) → IsDone (kills l to text)
kills_done l (dest.Number n) false = ends_done l (exit.Kill (record { 0 = n }))
kills_done l (dest.Number n) true = tt
kills_done l (dest.Name name) text = tt

held_done : (l : Lib) (x : Held) (k : Kind) (body : List Datum) → IsDone (answers_held l x k body)
held_done l x k body = of_test IsDone (nat_eq x.session.0 0) _ _ tt tt

after_done : (l : Lib) (after : AfterReply) (taken : Bool) → IsDone (after_reply l after taken)
after_done l GoOn taken = tt
after_done l (Log text) taken = tt
after_done l Rest taken = next_done l

answer_done : (l : Lib) (d : Doing) (a : Answer) → FitsDoing d a → IsDone (after_answer l d a)
answer_done l (Sending body) (Found (Some h)) i = tt
answer_done l (Sending body) (Found None) i = tt
answer_done l (Sending body) (Flag f) i = absurd i
answer_done l (Sending body) (Clock n) i = absurd i
answer_done l (Sending body) Done i = absurd i
answer_done l Sent (Flag true) i = tt
answer_done l Sent (Flag false) i = tt
answer_done l Sent (Found f) i = absurd i
answer_done l Sent (Clock n) i = absurd i
answer_done l Sent Done i = absurd i
answer_done l (Calling s body) (Found (Some h)) i = tt
answer_done l (Calling s body) (Found None) i = tt
answer_done l (Calling s body) (Flag f) i = absurd i
answer_done l (Calling s body) (Clock n) i = absurd i
answer_done l (Calling s body) Done i = absurd i
answer_done l (Called s) (Flag true) i = next_done (waits l s l.running reason.Call)
answer_done l (Called s) (Flag false) i = tt
answer_done l (Called s) (Found f) i = absurd i
answer_done l (Called s) (Clock n) i = absurd i
answer_done l (Called s) Done i = absurd i
answer_done l (Replying x k body after) (Found (Some h)) i = tt
answer_done l (Replying x k body after) (Found None) i = after_done l after false
answer_done l (Replying x k body after) (Flag f) i = absurd i
answer_done l (Replying x k body after) (Clock n) i = absurd i
answer_done l (Replying x k body after) Done i = absurd i
answer_done l (Replied x after) (Flag taken) i = after_done l after taken
answer_done l (Replied x after) (Found f) i = absurd i
answer_done l (Replied x after) (Clock n) i = absurd i
answer_done l (Replied x after) Done i = absurd i
answer_done l Given a i = tt
answer_done l (Sleeping s token) (Flag f) i = sleeps_done l s token reason.Sleep
answer_done l (Sleeping s token) Done i = sleeps_done l s token reason.Sleep
answer_done l (Sleeping s token) (Found f) i = absurd i
answer_done l (Sleeping s token) (Clock n) i = absurd i
answer_done l Asking (Clock n) i = tt
answer_done l Asking (Found f) i = absurd i
answer_done l Asking (Flag f) i = absurd i
answer_done l Asking Done i = absurd i
answer_done l Finding (Found (Some h)) i = tt
answer_done l Finding (Found None) i = tt
answer_done l Finding (Flag f) i = absurd i
answer_done l Finding (Clock n) i = absurd i
answer_done l Finding Done i = absurd i
answer_done l Naming (Flag true) i = tt
answer_done l Naming (Flag false) i = tt
answer_done l Naming (Found f) i = absurd i
answer_done l Naming (Clock n) i = absurd i
answer_done l Naming Done i = absurd i
answer_done l Seeking (Found (Some h)) i = ends_done l (exit.Kill h)
answer_done l Seeking (Found None) i = tt
answer_done l Seeking (Flag f) i = absurd i
answer_done l Seeking (Clock n) i = absurd i
answer_done l Seeking Done i = absurd i
answer_done l (Leaving leave marked) a i = leaves_done l leave (Some a) marked
answer_done l Told a i = next_done l
answer_done l Quiet a i = absurd i
answer_done l Over a i = absurd i

brings_done : (l : Lib) (t : ThreadNo) (r : Option Reason) (body : List Datum) → IsDone (brings l t r body)
brings_done l t None body = tt
brings_done l t (Some reason.Call) body = tt
brings_done l t (Some reason.Begin) body = tt
brings_done l t (Some reason.Sleep) body = tt
brings_done l t (Some reason.Wait) body = tt

failure_done : (l : Lib) (s : Session) (t : ThreadNo) (r : Option Reason) → ready l ≡ 0 → IsDone (call_fails l s t r)
failure_done l s t None e = inl e
failure_done l s t (Some reason.Begin) e = inl e
failure_done l s t (Some reason.Sleep) e = inl e
failure_done l s t (Some reason.Wait) e = inl e
failure_done l s t (Some reason.Call) e = next_done (joins_failed l s t)

message_done_as : (l : Lib) (m : Message) (t : ThreadNo) (k : Kind) → ready l ≡ 0 → IsDone (arrives_as l m t k)
message_done_as l m t kind.Text e = of_found IsDone l.chunk _ _ (λ _ _. inl e) (λ _. tt)
message_done_as l m t kind.Response e =
    of_found IsDone (waiter l.table m.session) _ _
    (λ t2 _. brings_done (record l { table = without_waiter l.table m.session }) t2 (why l t2) m.body)
    (λ _. inl e)
message_done_as l m t kind.Error e = of_found IsDone (waiter l.table m.session) _ _ (λ t2 _. failure_done l m.session t2 (why l t2) e) (λ _. inl e)
message_done_as l m t kind.Lua e = of_test IsDone l.dispatches _ _ tt (of_test IsDone (nat_eq m.session.0 0) _ _ (inl e) tt)

pub message_done : (l : Lib) (m : Message) (t : ThreadNo) → ready l ≡ 0 → IsDone (called l (call.Message m t))
message_done l m t e = message_done_as l m t m.kind e

pub answered_done : (l : Lib) (a : Answer) → FitsDoing l.doing a → IsDone (called l (call.Answer a))
answered_done l a i = answer_done l l.doing a i

pub called_done : (l : Lib) (c : LibCall) → IsOfThread c → IsDone (called l c)
called_done l (call.Message m t) i = absurd i
called_done l (call.Answer a) i = absurd i
called_done l (call.Start t) i =
    of_found IsDone l.start _ _ (λ _ _. tt) (λ _. session_done l (λ s m. asks (waits (record m { start = Some t }) s t reason.Begin) (own_response m s) Given) (λ s m. tt))
called_done l call.Dispatch i = tt
called_done l (call.Send to body) i = tt
called_done l (call.Call to body) i = session_done l (λ s m. asks m (request.Look to) (Calling s body)) (λ s m. tt)
called_done l (call.Ret body) i =
    of_found IsDone (owed l.table l.running) _ _ (λ x _. held_done (record l { table = without_owed l.table l.running }) x kind.Response body) (λ _. tt)
called_done l call.Response i = of_test IsDone (is_some (owed l.table l.running)) _ _ tt tt
called_done l (call.Respond r given) i =
    of_found IsDone (answer_of l.table r) _ _ (λ x _. held_done (record l { table = without_answer l.table r }) x (kind_of given) (body_of given)) (λ _. tt)
called_done l (call.Unused r) i = tt
called_done l (call.Fork t) i = tt
called_done l (call.Timeout n t) i = alarm_done l n (λ s m. asks (waits m s t reason.Begin) (alarm m n s) Given) (λ s m. brought_done m (waits m s t reason.Begin) n s Given)
called_done l (call.Sleep n token) i = alarm_done l n (λ s m. asks m (alarm m n s) (Sleeping s token)) (λ s m. brought_done m m n s (Sleeping s token))
called_done l (call.Wait token) i = session_done l (λ s m. sleeps m s token reason.Wait) (λ s m. sleeps_done m s token reason.Wait)
called_done l (call.Wakeup token) i = of_test IsDone (is_some (sleeping l.table token)) _ _ tt tt
called_done l call.Now i = tt
called_done l (call.LocalName name) i = tt
called_done l (call.Name name n) i = tt
called_done l (call.NewService name args) i = session_done l (λ s m. asks m (request.Put (record { 0 = 2 }) (own_message m s kind.Lua (launch name args))) (Called s)) (λ s m. tt)
called_done l (call.Kill to text) i = kills_done l to text
called_done l call.Exit i = ends_done l exit.Own
called_done l (call.Log text) i = tt

pub stopped_done : (l : Lib) (s : ThreadStop) → IsDone (stopped l s)
stopped_done l stop.Return = of_test IsDone (is_that l.start l.running) _ _ tt (next_done (thread_ended l))
stopped_done l (stop.Raise text) =
    of_test IsDone (is_that l.start l.running || is_that l.chunk l.running) _ _ (ends_done l (exit.Raised text))
    (of_found IsDone (owed l.table l.running) _ _ (λ x _. of_test IsDone (nat_eq x.session.0 0) _ _ tt tt) (λ _. tt))
stopped_done l (stop.Limit text) = ends_done l (exit.Limit text)
