-- A row readies at most one thread more.
use Rattle.std.proofs.Common.{◌≡◌, ℕ, suc, ◌+◌, ◌≤◌, Bool, true, false, cond, List, [], ◌∷◌, length, Option, Some, None, nat_eq, refl, ap, subst, arith, length-append, codes, pos, ℤ}
use Rattle.std.specs.Prelude.{int_lt, is_some}
use Rattle.std.specs.Map.{lookup, remove_entry}
use Rattle.sk_types.specs.declared.number.Session.{Session}
use Rattle.sk_types.specs.declared.number.Kind.{Kind}
use Rattle.sk_types.specs.declared.number.Kind.TheVariants as kind
use Rattle.message.specs.declared.datum.Datum.{Datum}
use Rattle.message.specs.declared.request.Held.{Held}
use Rattle.message.specs.declared.request.Dest.{Dest}
use Rattle.message.specs.declared.request.Dest.TheVariants as dest
use Rattle.message.specs.declared.request.Request.TheVariants as request
use Rattle.session_table.specs.declared.words.ThreadNo.{ThreadNo}
use Rattle.session_table.specs.declared.words.ResponseNo.{ResponseNo}
use Rattle.session_table.specs.declared.words.Token.{Token}
use Rattle.session_table.specs.declared.words.Waiter.{Waiter}
use Rattle.session_table.specs.Keys.{is_session}
use Rattle.session_table.specs.Table.{Table, when_found, first_woken, wakeups_left, after_wakeup, without_waiter, without_sleeper, waiter, drawn, after_draw, last_session, owes, owed, without_owed, answers, answer_of, without_answer, taken_over, sleeping, woken, with_sleeper}
use Rattle.service_exit.specs.declared.Exit.{Exit}
use Rattle.service_exit.specs.declared.Exit.TheVariants as exit
use Rattle.service_library.specs.declared.words.LibCall.{LibCall}
use Rattle.service_library.specs.declared.words.LibCall.TheVariants as call
use Rattle.service_library.specs.declared.words.LibStep.{LibStep}
use Rattle.service_library.specs.declared.words.LibStep.TheVariants as step
use Rattle.service_library.specs.declared.words.Reason.{Reason}
use Rattle.service_library.specs.declared.words.Reason.TheVariants as reason
use Rattle.service_library.specs.declared.words.Doing.TheVariants.{Given, Calling, Called, Sleeping}
use Rattle.service_library.specs.State.{Lib}
use Rattle.service_library.specs.Rows.{Stepped, next, next_failed, next_fork, wakes, called, ends, with_session, with_alarm, sleeps, blocked_for, answers_held, kills, asks, waits, alarm, launch, own_response, own_message, kind_of, body_of}
use Rattle.service_library.specs.Laws.{ready, IsOfThread}
use Rattle.service_library.proofs.Choices.{of_found, of_test}

-- whether a thread runs next
abbrev runs_next : LibStep → ℕ
runs_next (step.Resume t how) = 1
runs_next (step.Raise text) = 1
runs_next (step.Ask r) = 0
runs_next step.Idle = 0

-- what a row leaves ready, with a thread that runs next
abbrev Small : ℕ → Stepped → Type 0
Small n row = ready row.1 + runs_next row.0 ≤ n

abbrev Fits : ℕ → Stepped → Type 0
Fits n row = ready row.1 ≤ n

woken_fewer_head : (s : Session) (ss : List Session) (ws : List (Session × Waiter)) (b : Bool) → when_found (first_woken ss ws) (λ _. 1) 0 + length (wakeups_left ss ws) ≤ length ss → when_found (cond b (Some s) (first_woken ss ws)) (λ _. 1) 0 + length (cond b ss (wakeups_left ss ws)) ≤ suc (length ss)
woken_fewer_head s ss ws true h = omega arith
woken_fewer_head s ss ws false h = omega (arith, h)

woken_fewer : (ss : List Session) (ws : List (Session × Waiter)) → when_found (first_woken ss ws) (λ _. 1) 0 + length (wakeups_left ss ws) ≤ length ss
woken_fewer [] ws = omega arith
woken_fewer (s ∷ ss) ws = woken_fewer_head s ss ws (is_some (lookup (is_session s) ws)) (woken_fewer ss ws)

fork_small : (l : Lib) (ts : List ThreadNo) → l.forks ≡ ts → Small (ready l) (next_fork l ts)
fork_small l [] e = omega arith
fork_small l (t ∷ ts) e = omega (arith, ap length e)

failed_small : (l : Lib) (ts : List ThreadNo) → l.failed ≡ ts → Small (ready l) (next_failed l ts)
failed_small l [] e = fork_small l l.forks refl
failed_small l (t ∷ ts) e = omega (arith, ap length e)

token_same : (t : Table) (k : Option Token) → (without_sleeper t k).wakeups ≡ t.wakeups
token_same t None = refl
token_same t (Some k) = refl

-- a waiter that goes on changes no wakeups
pub waiter_same : (t : Table) (s : Session) → (without_waiter t s).wakeups ≡ t.wakeups
waiter_same t s =
    of_found (λ (u : Table). u.wakeups ≡ t.wakeups) (lookup (is_session s) t.waits) _ _
    (λ w _. token_same (record t { waits = remove_entry (is_session s) t.waits }) w.token)
    (λ _. refl)

pub after_wakeups : (t : Table) → (after_wakeup t).wakeups ≡ wakeups_left t.wakeups t.waits
after_wakeups t =
    let after : Table = record t { wakeups = wakeups_left t.wakeups t.waits } in
    of_found (λ (u : Table). u.wakeups ≡ wakeups_left t.wakeups t.waits) (first_woken t.wakeups t.waits) _ _ (λ s _. waiter_same after s) (λ _. refl)

-- the next thread was ready
pub next_small : (l : Lib) → Small (ready l) (next l)
next_small l = go (first_woken l.table.wakeups l.table.waits) refl
  where
    after : Lib
    after = record l { table = after_wakeup l.table }

    left : length (after_wakeup l.table).wakeups ≡ length (wakeups_left l.table.wakeups l.table.waits)
    left = ap (λ (ss : List Session). length ss) (after_wakeups l.table)

    fewer : (o : Option Session) → first_woken l.table.wakeups l.table.waits ≡ o → when_found o (λ _. 1) 0 + length (wakeups_left l.table.wakeups l.table.waits) ≤ length l.table.wakeups
    fewer o e = subst (λ p. when_found p (λ _. 1) 0 + length (wakeups_left l.table.wakeups l.table.waits) ≤ length l.table.wakeups) e (woken_fewer l.table.wakeups l.table.waits)

    go : (o : Option Session) → first_woken l.table.wakeups l.table.waits ≡ o → Small (ready l) (when_found (when_found o (waiter l.table) None) (wakes after) (next_failed after after.failed))
    go None e = let rest = failed_small after after.failed refl in omega (arith, rest, left, fewer None e)
    go (Some s) e =
        of_found (Small (ready l)) (waiter l.table s) _ _
        (λ t _. omega (arith, left, fewer (Some s) e))
        (λ _. let rest = failed_small after after.failed refl in omega (arith, rest, left, fewer (Some s) e))

ends_small : (l : Lib) (e : Exit) → Small (ready l) (ends l e)
ends_small l exit.Own = omega arith
ends_small l (exit.Limit text) = omega arith
ends_small l (exit.Raised text) = omega arith
ends_small l (exit.Kill h) = omega arith

owed_same : (l : Lib) (t : ThreadNo) → ready (record l { table = without_owed l.table t }) ≡ ready l
owed_same l t = of_found (λ u. ready (record l { table = u }) ≡ ready l) (owes l.table t) _ _ (λ _ _. refl) (λ _. refl)

answer_same : (l : Lib) (r : ResponseNo) → ready (record l { table = without_answer l.table r }) ≡ ready l
answer_same l r = of_found (λ u. ready (record l { table = u }) ≡ ready l) (answers l.table r) _ _ (λ _ _. refl) (λ _. refl)

taken_over_same : (l : Lib) (t : ThreadNo) → ready (record l { table = taken_over l.table t }) ≡ ready l
taken_over_same l t = of_found (λ u. ready (record l { table = u }) ≡ ready l) (owes l.table t) _ _ (λ _ _. refl) (λ _. refl)

drawn_same : (l : Lib) → ready (record l { table = after_draw l.table }) ≡ ready l
drawn_same l = of_test (λ t. ready (record l { table = t }) ≡ ready l) (nat_eq l.table.last last_session) _ _ refl refl

session_fits : (l : Lib) (what : Session → Lib → Stepped) → ((s : Session) (m : Lib) → ready m ≡ ready l → Fits (ready l + 1) (what s m)) → Fits (ready l + 1) (with_session l what)
session_fits l what h =
    of_found (Fits (ready l + 1)) (drawn l.table) _ _
    (λ s _. h s (record l { table = after_draw l.table }) (drawn_same l))
    (λ _. let e = ends_small l (exit.Limit (codes "budget spent")) in omega (arith, e))

alarm_fits : (l : Lib) (n : ℤ) (what : Session → Lib → Stepped) → ((s : Session) (m : Lib) → ready m ≡ ready l → Fits (ready l + 1) (what s m)) → Fits (ready l + 1) (with_alarm l n what)
alarm_fits l n what h = of_test (Fits (ready l + 1)) (int_lt (pos 2147483647) n) _ _ (omega arith) (session_fits l what h)

answers_fits : (l : Lib) (held : Held) (k : Kind) (body : List Datum) → Fits (ready l) (answers_held l held k body)
answers_fits l held k body = of_test (Fits (ready l)) (nat_eq held.session.0 0) _ _ (omega arith) (omega arith)

woken_more : (l : Lib) (token : Token) → ready (record l { table = woken l.table token }) ≤ ready l + 1
woken_more l token =
    of_found (λ t. ready (record l { table = t }) ≤ ready l + 1) (sleeping l.table token) _ _
    (λ s _. omega (arith, length-append l.table.wakeups (s ∷ [])))
    (λ _. omega arith)

sleeps_fits : (l : Lib) (s : Session) (token : Token) (why : Reason) → Fits (ready l) (sleeps l s token why)
sleeps_fits l s token why =
    let m : Lib = blocked_for (record l { table = with_sleeper l.table token s l.running }) l.running why in
    of_test (Fits (ready l)) (is_some (sleeping l.table token)) _ _ (omega arith) (let n = next_small m in omega (arith, n))

kills_fits : (l : Lib) (to : Dest) (text : Bool) → Fits (ready l + 1) (kills l to text)
kills_fits l (dest.Number n) false = let e = ends_small l (exit.Kill (record { 0 = n })) in omega (arith, e)
kills_fits l (dest.Number n) true = omega arith
kills_fits l (dest.Name name) text = omega arith

-- a call readies at most one thread more
pub called_fits : (l : Lib) (c : LibCall) → IsOfThread c → Fits (ready l + 1) (called l c)
called_fits l (call.Message m t) h = absurd h
called_fits l (call.Answer a) h = absurd h
called_fits l (call.Start t) h =
    of_found (Fits (ready l + 1)) l.start _ _ (λ _ _. omega arith) (λ _. session_fits l (λ s m. asks (waits (record m { start = Some t }) s t reason.Begin) (own_response m s) Given) (λ s m e. omega (arith, e)))
called_fits l call.Dispatch h = omega arith
called_fits l (call.Send to body) h = omega arith
called_fits l (call.Call to body) h = session_fits l (λ s m. asks m (request.Look to) (Calling s body)) (λ s m e. omega (arith, e))
called_fits l (call.Ret body) h =
    of_found (Fits (ready l + 1)) (owed l.table l.running) _ _
    (λ held _. let m : Lib = record l { table = without_owed l.table l.running } in
    omega (arith, answers_fits m held kind.Response body, owed_same l l.running))
    (λ _. omega arith)
called_fits l call.Response h =
    of_test (Fits (ready l + 1)) (is_some (owed l.table l.running)) _ _ (omega (arith, taken_over_same l l.running)) (omega arith)
called_fits l (call.Respond r given) h =
    of_found (Fits (ready l + 1)) (answer_of l.table r) _ _
    (λ held _. let m : Lib = record l { table = without_answer l.table r } in
    omega (arith, answers_fits m held (kind_of given) (body_of given), answer_same l r))
    (λ _. omega arith)
called_fits l (call.Unused r) h = omega arith
called_fits l (call.Fork t) h = omega (arith, length-append l.forks (t ∷ []))
called_fits l (call.Timeout n t) h = alarm_fits l n (λ s m. asks (waits m s t reason.Begin) (alarm m n s) Given) (λ s m e. omega (arith, e))
called_fits l (call.Sleep n token) h = alarm_fits l n (λ s m. asks m (alarm m n s) (Sleeping s token)) (λ s m e. omega (arith, e))
called_fits l (call.Wait token) h = session_fits l (λ s m. sleeps m s token reason.Wait) (λ s m e. omega (arith, sleeps_fits m s token reason.Wait, e))
called_fits l (call.Wakeup token) h =
    of_test (Fits (ready l + 1)) (is_some (sleeping l.table token)) _ _ (woken_more l token) (omega arith)
called_fits l call.Now h = omega arith
called_fits l (call.LocalName name) h = omega arith
called_fits l (call.Name name n) h = omega arith
called_fits l (call.NewService name args) h = session_fits l (λ s m. asks m (request.Put (record { 0 = 2 }) (own_message m s kind.Lua (launch name args))) (Called s)) (λ s m e. omega (arith, e))
called_fits l (call.Kill to text) h = kills_fits l to text
called_fits l call.Exit h = let e = ends_small l exit.Own in omega (arith, e)
called_fits l (call.Log text) h = omega arith
