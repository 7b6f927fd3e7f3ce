-- Which thread goes on: after a stop the first that is ready, after an answer the thread that asked or, where that has
-- ended or waits, the first that is ready, and after a message the thread that it is for (skynet.lua: suspend,
-- dispatch_wakeup, dispatch_error_queue, fork_queue).
use Rattle.std.specs.Prelude.{◌≡◌, ◌⊎◌, Bool, true, false, not, Some, None, is_some, [], ◌∷◌, codes}
use Rattle.sk_types.specs.declared.number.Session.{Session}
use Rattle.sk_types.specs.declared.number.Kind.{Kind}
use Rattle.sk_types.specs.declared.number.Kind.TheVariants as kind
use Rattle.message.specs.declared.request.Message.{Message}
use Rattle.message.specs.declared.request.Answer.{Answer}
use Rattle.message.specs.declared.request.Answer.TheVariants.{Flag, Found, Done}
use Rattle.session_table.specs.Table.{next_woken, wakeups_left, waiter, sleeping}
use Rattle.session_table.specs.declared.words.ThreadNo.{ThreadNo}
use Rattle.service_library.specs.State.{Lib}
use Rattle.service_library.specs.Rows.{Stepped, values_of_wakeup, why, waits, asleep, joins_failed}
use Rattle.service_library.specs.declared.words.Reason.TheVariants as reason
use Rattle.service_library.specs.declared.words.AfterReply.TheVariants.{Rest}
use Rattle.service_library.specs.declared.words.Doing.{Doing}
use Rattle.service_library.specs.declared.words.Doing.TheVariants.{Called, Replying, Replied, Sleeping, Told}
use Rattle.service_library.specs.declared.words.LibStep.{LibStep}
use Rattle.service_library.specs.declared.words.LibStep.TheVariants.{Ask, Resume, Raise, Idle}
use Rattle.service_library.specs.declared.words.Resume.{Resume as How}
use Rattle.service_library.specs.declared.words.Resume.TheVariants as go

-- the same threads are ready
abbrev pub SameReady : Lib → Lib → Type 0
SameReady l m = (m.table.wakeups ≡ l.table.wakeups) × (m.failed ≡ l.failed) × (m.forks ≡ l.forks)

-- The first wakeup whose sleeper still waits is that of t, which goes on. The wakeups before it are void.
pub record IsWoken (l : Lib) (t : ThreadNo) (how : How) (m : Lib) : Type 0 where
  pub first : next_woken l.table ≡ Some t
  pub wakeups : m.table.wakeups ≡ wakeups_left l.table.wakeups l.table.waits
  pub failed : m.failed ≡ l.failed
  pub forks : m.forks ≡ l.forks
  pub told : how ≡ go.Values (values_of_wakeup (why l t))

-- no sleeper was woken, and the first call that failed is that of t
pub record IsFailed (l : Lib) (t : ThreadNo) (how : How) (m : Lib) : Type 0 where
  pub unwoken : next_woken l.table ≡ None
  pub wakeups : m.table.wakeups ≡ wakeups_left l.table.wakeups l.table.waits
  pub first : l.failed ≡ t ∷ m.failed
  pub forks : m.forks ≡ l.forks
  pub told : how ≡ go.Fail (codes "call failed")

-- no sleeper was woken and no call failed, and t is the first that was forked
pub record IsForked (l : Lib) (t : ThreadNo) (how : How) (m : Lib) : Type 0 where
  pub unwoken : next_woken l.table ≡ None
  pub wakeups : m.table.wakeups ≡ wakeups_left l.table.wakeups l.table.waits
  pub answered : l.failed ≡ []
  pub failed : m.failed ≡ l.failed
  pub first : l.forks ≡ t ∷ m.forks
  pub told : how ≡ go.Begin []

-- t was the first of the threads that were ready: a wakeup comes before a failed call, and that before a fork
abbrev pub IsFirst : Lib → ThreadNo → How → Lib → Type 0
IsFirst l t how m = IsWoken l t how m ⊎ IsFailed l t how m ⊎ IsForked l t how m

-- a thread that goes on is the first that was ready
abbrev pub FirstAt : Lib → LibStep → Lib → Type 0
FirstAt l (Resume t how) m = IsFirst l t how m
FirstAt l (Ask r) m = SameReady l m
FirstAt l (Raise text) m = ⊥
FirstAt l Idle m = Unit {0}

abbrev pub FirstGoesOn : Lib → Stepped → Type 0
FirstGoesOn l row = FirstAt l row.0 row.1

-- a thread that goes on is the one that runs
abbrev pub OwnAt : Lib → LibStep → Lib → Type 0
OwnAt l (Resume t how) m = (t ≡ l.running) × SameReady l m
OwnAt l (Ask r) m = (m.running ≡ l.running) × SameReady l m
OwnAt l (Raise text) m = (m.running ≡ l.running) × SameReady l m
OwnAt l Idle m = Unit {0}

abbrev pub OwnGoesOn : Lib → Stepped → Type 0
OwnGoesOn l row = OwnAt l row.0 row.1

-- whether the running thread has ended, or waits once this answer has come
abbrev pub suspends : Lib → Doing → Answer → Bool
suspends l (Called s) (Flag true) = true
suspends l (Replying x k body Rest) (Found None) = true
suspends l (Replied x Rest) (Flag taken) = true
suspends l (Sleeping s token) (Flag taken) = not (is_some (sleeping l.table token))
suspends l (Sleeping s token) Done = not (is_some (sleeping l.table token))
suspends l Told a = true
suspends l _ a = false

-- the state in which it waits, where it does
abbrev pub suspended : Lib → Doing → Lib
suspended l (Called s) = waits l s l.running reason.Call
suspended l (Sleeping s token) = asleep l s token reason.Sleep
suspended l _ = l

abbrev pub GoesOn : Lib → Doing → Bool → Stepped → Type 0
GoesOn l d true row = FirstGoesOn (suspended l d) row
GoesOn l d false row = OwnGoesOn l row

-- Who goes on with a message: a text and a request run in the new thread t, and a Response in the thread that waits for
-- it. After an Error the thread whose call failed is ready, and the first that is ready goes on.
abbrev pub IsFor : Lib → Session → ThreadNo → Kind → ThreadNo → How → Lib → Type 0
IsFor l s t kind.Text u how m = (u ≡ t) × SameReady l m
IsFor l s t kind.Lua u how m = (u ≡ t) × SameReady l m
IsFor l s t kind.Response u how m = (waiter l.table s ≡ Some u) × SameReady l m
IsFor l s t kind.Error u how m = (w : ThreadNo) × (waiter l.table s ≡ Some w) × IsFirst (joins_failed l s w) u how m

abbrev pub MessageAt : Lib → Session → ThreadNo → Kind → LibStep → Lib → Type 0
MessageAt l s t k (Resume u how) m = IsFor l s t k u how m
MessageAt l s t k (Ask r) m = SameReady l m
MessageAt l s t k (Raise text) m = ⊥
MessageAt l s t k Idle m = Unit {0}

abbrev pub MessageGoesOn : Lib → Message → ThreadNo → Stepped → Type 0
MessageGoesOn l message t row = MessageAt l message.session t message.kind row.0 row.1
