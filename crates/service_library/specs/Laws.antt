-- What holds of every row: how many threads are ready (Order: which goes on), how a request leaves the held ones, and what stands together. The
-- laws are this project's own; they are what keeps a service lawful (message: the laws of an actor).
use Rattle.std.specs.Prelude.{ℕ, ◌≡◌, ◌⊎◌, ◌+◌, ◌==◌, true, false, if◌then◌else◌, Option, Some, None, List, [], ◌∷◌, ◌++◌, length}
use Rattle.sk_types.specs.declared.number.Handle.{Handle}
use Rattle.sk_types.specs.declared.number.Kind.TheVariants as kind
use Rattle.message.specs.Messages.{is_request, held_of as held_as}
use Rattle.message.specs.declared.request.Held.{Held}
use Rattle.message.specs.declared.request.Message.{Message}
use Rattle.message.specs.declared.request.Dest.TheVariants.{Number}
use Rattle.message.specs.declared.request.Request.{Request}
use Rattle.message.specs.declared.request.Request.TheVariants.{Look, Retire, Mark}
use Rattle.message.specs.declared.request.Answer.{Answer}
use Rattle.message.specs.declared.request.Answer.TheVariants.{Flag, Found, Clock, Done}
use Rattle.session_table.specs.Table.{held_of}
use Rattle.service_library.specs.State.{Lib, reply_of}
use Rattle.service_library.specs.Rows.{Stepped, after_answer, own_message, no_session}
use Rattle.service_library.specs.declared.words.Doing.{Doing}
use Rattle.service_library.specs.declared.words.Doing.TheVariants.{Sending, Sent, Calling, Called, Replying, Replied, Given, Sleeping, Asking, Finding, Naming, Seeking, Leaving, Told, Over}
use Rattle.service_library.specs.declared.words.LibStep.{LibStep}
use Rattle.service_library.specs.declared.words.LibStep.TheVariants.{Ask, Resume, Raise, Idle}
use Rattle.service_library.specs.declared.words.LibCall.{LibCall}
use Rattle.service_library.specs.declared.words.LibCall.TheVariants as call

-- THREADS

-- the threads that were woken, whose call failed, or that were forked
abbrev pub ready : Lib → ℕ
ready l = length l.table.wakeups + length l.failed + length l.forks

-- the calls of a thread
abbrev pub IsOfThread : LibCall → Type 0
IsOfThread (call.Message m t) = ⊥
IsOfThread (call.Answer a) = ⊥
IsOfThread _ = Unit {0}

-- the form of answer that the request has
abbrev pub FitsDoing : Doing → Answer → Type 0
FitsDoing (Sending body) (Found f) = Unit {0}
FitsDoing Sent (Flag f) = Unit {0}
FitsDoing (Calling s body) (Found f) = Unit {0}
FitsDoing (Called s) (Flag f) = Unit {0}
FitsDoing (Replying x k body after) (Found f) = Unit {0}
FitsDoing (Replied x after) (Flag f) = Unit {0}
FitsDoing Given a = Unit {0}
FitsDoing (Sleeping s token) (Flag f) = Unit {0}
FitsDoing (Sleeping s token) Done = Unit {0}
FitsDoing Asking (Clock n) = Unit {0}
FitsDoing Finding (Found f) = Unit {0}
FitsDoing Naming (Flag f) = Unit {0}
FitsDoing Seeking (Found f) = Unit {0}
FitsDoing (Leaving leave marked) a = Unit {0}
FitsDoing Told a = Unit {0}
FitsDoing _ a = ⊥

-- A service is idle where no thread is ready, or where its own Mark was asked and answered.
abbrev pub IsDoneAt : LibStep → Lib → Type 0
IsDoneAt Idle l = (ready l ≡ 0) ⊎ (l.doing ≡ Over)
IsDoneAt (Ask r) l = Unit {0}
IsDoneAt (Resume t how) l = Unit {0}
IsDoneAt (Raise text) l = Unit {0}

abbrev pub IsDone : Stepped → Type 0
IsDone row = IsDoneAt row.0 row.1

-- HELD REQUESTS

abbrev pub held_in : Lib → List Held
held_in l = held_of l.table.taken

-- each wants an answer
abbrev pub HaveSessions : List Held → Type 0
HaveSessions [] = Unit {0}
HaveSessions (x ∷ xs) = ((x.session.0 == 0) ≡ false) × HaveSessions xs

-- x is left out of all
abbrev pub LeftOut : List Held → Held → List Held → Type 0
LeftOut all x rest = (front : List Held) × (back : List Held) × (all ≡ front ++ x ∷ back) × (rest ≡ front ++ back)

-- the caller of x is looked up, and x is the request whose answer is being sent
abbrev pub IsReply : Stepped → Held → Type 0
IsReply row x = (row.0 ≡ Ask (Look (Number x.source.0))) × (reply_of row.1.doing ≡ Some x)

-- All are still held, or one of them leaves as the reply whose caller is looked up next.
abbrev pub KeepsHeld : List Held → Stepped → Type 0
KeepsHeld all row = (held_in row.1 ≡ all) ⊎ ((x : Held) × LeftOut all x (held_in row.1) × IsReply row x)

-- the request that a message is
abbrev pub request_of : Message → List Held
request_of m = if is_request m then held_as m ∷ [] else []

-- WHAT STANDS TOGETHER

-- the message for which its destination, or its caller, is looked up, and whom it is put to
abbrev pub letter : Lib → Doing → Handle → Option (Handle × Message)
letter l (Sending body) h = Some (h, own_message l no_session kind.Lua body)
letter l (Calling s body) h = Some (h, own_message l s kind.Lua body)
letter l (Replying x k body after) h = Some (x.source, own_message l x.session k body)
letter l _ h = None

-- a Look is asked for such a message, or by a script, or before a kill
abbrev pub MayLook : Doing → Type 0
MayLook (Sending body) = Unit {0}
MayLook (Calling s body) = Unit {0}
MayLook (Replying x k body after) = Unit {0}
MayLook Finding = Unit {0}
MayLook Seeking = Unit {0}
MayLook _ = ⊥

-- what holds when a request is asked: a Retire that is answered true is followed by the Mark of that handle
abbrev pub MayAsk : Request → Lib → Type 0
MayAsk (Look d) l = MayLook l.doing
MayAsk (Retire h) l = (after_answer l l.doing (Flag true)).0 ≡ Ask (Mark h)
MayAsk _ l = Unit {0}

abbrev pub MayStep : LibStep → Lib → Type 0
MayStep (Ask r) l = MayAsk r l
MayStep (Resume t how) l = Unit {0}
MayStep (Raise text) l = Unit {0}
MayStep Idle l = Unit {0}

abbrev pub IsOrderly : Stepped → Type 0
IsOrderly row = MayStep row.0 row.1
