-- The table as its lists, and what each call makes of them (skynet.lua: the calls that wait, the answers that are owed,
-- the sleepers and the queue of wakeups).
use Rattle.std.specs.Prelude.{ℕ, ◌+◌, ◌<◌, Bool, true, false, ◌&&◌, ◌==◌, if◌then◌else◌, Option, Some, None, is_some, List, [], ◌∷◌, ◌++◌, map}
use Rattle.std.specs.Option.{option_map}
use Rattle.std.specs.Ordering.{nat_cmp}
use Rattle.std.specs.Map.{lookup, remove_entry}
use Rattle.std.specs.BTreeMap.{is_at, insert_entry}
use Rattle.sk_types.specs.declared.number.Handle.{Handle}
use Rattle.sk_types.specs.declared.number.Session.{Session}
use Rattle.message.specs.declared.request.Held.{Held}
use Rattle.session_table.specs.declared.words.ThreadNo.{ThreadNo}
use Rattle.session_table.specs.declared.words.ResponseNo.{ResponseNo}
use Rattle.session_table.specs.declared.words.Token.{Token}
use Rattle.session_table.specs.declared.words.Waiter.{Waiter}
use Rattle.session_table.specs.declared.words.Owed.{Owed}
use Rattle.session_table.specs.declared.words.Owed.TheVariants.{Request, Note}
use Rattle.session_table.specs.declared.words.TakeError.{TakeError}
use Rattle.session_table.specs.declared.words.TakeError.TheVariants as take
use Rattle.session_table.specs.declared.words.SleepError.{SleepError}
use Rattle.session_table.specs.declared.words.SleepError.TheVariants as sleep
use Rattle.session_table.specs.Keys.{session_cmp, thread_cmp, response_cmp, token_cmp, is_session, is_thread, is_response, is_token}

-- the held requests in the order taken, each under its number, and the next number
pub record Taken : Type 0 where
  pub next : ℕ
  pub held : List (ℕ × Held)

pub record Table : Type 0 where
  -- the last session that was drawn
  pub last : ℕ
  -- how many response functions were given
  pub responses : ℕ
  -- who waits for which session
  pub waits : List (Session × Waiter)
  -- who sleeps under which token: the session that the sleeper waits for
  pub sleepers : List (Token × Session)
  -- the sessions of the sleepers that were woken, the first that came first
  pub wakeups : List Session
  pub taken : Taken
  -- what each thread is to answer, and each response function
  pub threads : List (ThreadNo × Owed)
  pub functions : List (ResponseNo × Owed)

abbrev pub none_taken : Taken
none_taken = record { next = 0; held = [] }

abbrev pub fresh : Table
fresh = record { last = 0; responses = 0; waits = []; sleepers = []; wakeups = []; taken = none_taken; threads = []; functions = [] }

-- by what a search found
abbrev pub when_found : {A B : Type 0} → Option A → (A → B) → B → B
when_found (Some a) there absent = there a
when_found None there absent = absent

-- SESSIONS

abbrev pub last_session : ℕ
last_session = 9223372036854775807

abbrev pub drawn : Table → Option Session
drawn t = if t.last == last_session then None else Some (record { 0 = t.last + 1 })

abbrev pub after_draw : Table → Table
after_draw t = if t.last == last_session then t else record t { last = t.last + 1 }

-- the thread that waits for a session
abbrev pub waiter : Table → Session → Option ThreadNo
waiter t session = option_map (λ w. w.thread) (lookup (is_session session) t.waits)

abbrev pub with_waiter : Table → Session → Waiter → Table
with_waiter t session w = record t { waits = insert_entry session_cmp t.waits session w }

-- who slept under the token sleeps no more
abbrev pub without_sleeper : Table → Option Token → Table
without_sleeper t None = t
without_sleeper t (Some token) = record t { sleepers = remove_entry (is_token token) t.sleepers }

-- the thread that waited for the session has gone on
abbrev pub without_waiter : Table → Session → Table
without_waiter t session =
    when_found (lookup (is_session session) t.waits)
    (λ w. without_sleeper (record t { waits = remove_entry (is_session session) t.waits }) w.token)
    t

-- HELD REQUESTS

-- each was taken under a lower number
abbrev pub AllBelow : ℕ → List (ℕ × Held) → Type 0
AllBelow n [] = Unit {0}
AllBelow n (e ∷ es) = (e.0 < n) × AllBelow n es

abbrev pub taken_more : Taken → Held → Taken
taken_more taken held = record { next = taken.next + 1; held = taken.held ++ (taken.next, held) ∷ [] }

-- who is answered, and under which session
abbrev pub held_by : Taken → Owed → Option Held
held_by taken (Request n) = lookup (is_at (nat_cmp n)) taken.held
held_by taken (Note source) = Some (record { source = source; session = record { 0 = 0 } })

abbrev pub without_taken : Taken → Owed → Taken
without_taken taken (Request n) = record taken { held = remove_entry (is_at (nat_cmp n)) taken.held }
without_taken taken (Note source) = taken

-- the held requests, in the order taken
abbrev pub held_of : Taken → List Held
held_of taken = map (λ e. e.1) taken.held

abbrev pub is_held_as : Handle → Session → Held → Bool
is_held_as source session held = held.source.0 == source.0 && held.session.0 == session.0

-- a thread is to answer a message: a request is held, and one that wants no answer is noted
abbrev pub with_owed : Table → ThreadNo → Held → Table
with_owed t thread held =
    if held.session.0 == 0
    then record t { threads = insert_entry thread_cmp t.threads thread (Note held.source) }
    else record t { taken = taken_more t.taken held; threads = insert_entry thread_cmp t.threads thread (Request t.taken.next) }

abbrev pub with_held : Taken → Owed → Option (Owed × Held)
with_held taken o = option_map (λ h. (o, h)) (held_by taken o)

-- what a thread is to answer
abbrev pub owes : Table → ThreadNo → Option (Owed × Held)
owes t thread = when_found (lookup (is_thread thread) t.threads) (with_held t.taken) None

abbrev pub owed : Table → ThreadNo → Option Held
owed t thread = option_map (λ o. o.1) (owes t thread)

abbrev pub without_owed : Table → ThreadNo → Table
without_owed t thread =
    when_found (owes t thread)
    (λ o. record t { taken = without_taken t.taken o.0; threads = remove_entry (is_thread thread) t.threads })
    t

-- A thread that ends owes nothing more (skynet.lua, co_create: session_coroutine_id and session_coroutine_address). A
-- request that it took stays held.
abbrev pub without_thread : Table → ThreadNo → Table
without_thread t thread = record t { threads = remove_entry (is_thread thread) t.threads }

-- it passes to a new response function
abbrev pub passed : Table → ThreadNo → Owed → Table
passed t thread o =
    record t { responses = t.responses + 1; threads = remove_entry (is_thread thread) t.threads; functions = insert_entry response_cmp t.functions (record { 0 = t.responses }) o }

abbrev pub taken_over : Table → ThreadNo → Table
taken_over t thread = when_found (owes t thread) (λ o. passed t thread o.0) t

-- there is nothing to answer
abbrev pub is_take_fault : TakeError → Bool
is_take_fault (take.Fault e) = true
is_take_fault take.Memory = false

-- what a response function is to answer
abbrev pub answers : Table → ResponseNo → Option (Owed × Held)
answers t response = when_found (lookup (is_response response) t.functions) (with_held t.taken) None

abbrev pub answer_of : Table → ResponseNo → Option Held
answer_of t response = option_map (λ o. o.1) (answers t response)

abbrev pub without_answer : Table → ResponseNo → Table
without_answer t response =
    when_found (answers t response)
    (λ o. record t { taken = without_taken t.taken o.0; functions = remove_entry (is_response response) t.functions })
    t

-- SLEEPERS

-- the session of the sleeper under a token
abbrev pub sleeping : Table → Token → Option Session
sleeping t token = lookup (is_token token) t.sleepers

abbrev pub with_sleeper : Table → Token → Session → ThreadNo → Table
with_sleeper t token session thread =
    record t { waits = insert_entry session_cmp t.waits session (record { thread = thread; token = Some token }); sleepers = insert_entry token_cmp t.sleepers token session }

-- the token is used
abbrev pub is_sleep_fault : SleepError → Bool
is_sleep_fault (sleep.Fault e) = true
is_sleep_fault sleep.Memory = false

-- the sleeper under a token joins the wakeups
abbrev pub woken : Table → Token → Table
woken t token = when_found (sleeping t token) (λ session. record t { wakeups = t.wakeups ++ session ∷ [] }) t

-- the first of these wakeups whose sleeper has not gone on
abbrev pub first_woken : List Session → List (Session × Waiter) → Option Session
first_woken [] waits = None
first_woken (s ∷ ss) waits = if is_some (lookup (is_session s) waits) then Some s else first_woken ss waits

-- the wakeups after it
abbrev pub wakeups_left : List Session → List (Session × Waiter) → List Session
wakeups_left [] waits = []
wakeups_left (s ∷ ss) waits = if is_some (lookup (is_session s) waits) then ss else wakeups_left ss waits

-- its thread
abbrev pub next_woken : Table → Option ThreadNo
next_woken t = when_found (first_woken t.wakeups t.waits) (waiter t) None

-- its thread has gone on, and the wakeups before it are dropped
abbrev pub after_wakeup : Table → Table
after_wakeup t =
    let after = record t { wakeups = wakeups_left t.wakeups t.waits } in
    when_found (first_woken t.wakeups t.waits) (without_waiter after) after
