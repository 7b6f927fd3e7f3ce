-- The launcher's table (launcher.lua): what each order, and each answer to a request of its own, makes of its state.
use Rattle.std.specs.Prelude.{ℕ, Bool, true, false, ◌==◌, ◌&&◌, if◌then◌else◌, Option, Some, None, List, [], ◌∷◌, ◌++◌, map, find, pos, codes}
use Rattle.sk_types.specs.declared.number.Handle.{Handle}
use Rattle.sk_types.specs.declared.number.Session.{Session}
use Rattle.sk_types.specs.declared.number.Kind.{Kind}
use Rattle.sk_types.specs.declared.number.Kind.TheVariants as kind
use Rattle.message.specs.Messages.{is_request, is_lua, held_of}
use Rattle.message.specs.Texts.{hex}
use Rattle.message.specs.declared.datum.Datum.{Datum}
use Rattle.message.specs.declared.datum.Datum.TheVariants as datum
use Rattle.message.specs.declared.request.Held.{Held}
use Rattle.message.specs.declared.request.Message.{Message}
use Rattle.message.specs.declared.request.Dest.TheVariants.{Number}
use Rattle.message.specs.declared.request.Request.TheVariants as ask
use Rattle.message.specs.declared.request.Answer.{Answer}
use Rattle.message.specs.declared.request.Answer.TheVariants.{Found, Flag}
use Rattle.message.specs.declared.request.Input.{Input}
use Rattle.message.specs.declared.request.Input.TheVariants.{Message as Comes, Answer as Answers}
use Rattle.message.specs.declared.request.Next.{Next}
use Rattle.message.specs.declared.request.Next.TheVariants.{Idle, Ask}
use Rattle.launcher.specs.declared.order.Order.{Order}
use Rattle.launcher.specs.declared.order.Order.TheVariants as order
use Rattle.launcher.specs.declared.desk.Service.{Service}
use Rattle.launcher.specs.declared.desk.Role.{Role}
use Rattle.launcher.specs.declared.desk.Role.TheVariants.{Served, Pending, Kept}
use Rattle.launcher.specs.declared.desk.Taken.{Taken}
use Rattle.launcher.specs.declared.desk.Reply.{Reply}
use Rattle.launcher.specs.declared.desk.Reply.TheVariants as reply
use Rattle.launcher.specs.declared.desk.AfterReply.{AfterReply}
use Rattle.launcher.specs.declared.desk.AfterReply.TheVariants.{Rest, Report}
use Rattle.launcher.specs.declared.desk.Doing.{Doing}
use Rattle.launcher.specs.declared.desk.Doing.TheVariants.{Quiet, Launching, Telling, Retiring, Marking, Seeking, Sending}
use Rattle.launcher.specs.Orders.{order_of}

-- The services that it lists, in the order of their launches, and the requests that it holds, in the order taken. Those
-- whose role is Pending are the pending launches.
pub record Desk : Type 0 where
  pub services : List Service
  pub requests : List Taken
  pub doing : Doing

-- it opens with the start service
abbrev pub opened : List ℕ → Desk
opened start = record { services = (record { handle = record { 0 = 3 }; name = start }) ∷ []; requests = []; doing = Quiet }

-- LISTS

-- a list without the first item that passes
abbrev pub without : {X : Type 0} → (X → Bool) → List X → List X
without test [] = []
without test (x ∷ xs) = if test x then xs else x ∷ without test xs

-- a list with its first item that passes changed
abbrev pub at_first : {X : Type 0} → (X → Bool) → (X → X) → List X → List X
at_first test change [] = []
at_first test change (x ∷ xs) = if test x then change x ∷ xs else x ∷ at_first test change xs

-- by what a search found
abbrev pub when_found : {A B : Type 0} → Option A → (A → B) → B → B
when_found (Some a) there absent = there a
when_found None there absent = absent

abbrev pub is_service : Handle → Service → Bool
is_service h s = s.handle.0 == h.0

abbrev pub is_served_as : Role → Bool
is_served_as Served = true
is_served_as (Pending h) = false
is_served_as Kept = false

-- the request that it is serving
abbrev pub is_served : Taken → Bool
is_served t = is_served_as t.role

abbrev pub is_pending_as : Handle → Role → Bool
is_pending_as h (Pending k) = k.0 == h.0
is_pending_as h Served = false
is_pending_as h Kept = false

-- the launch of this handle
abbrev pub is_pending : Handle → Taken → Bool
is_pending h t = is_pending_as h t.role

abbrev pub is_held_as : Handle → Session → Held → Bool
is_held_as source session x = x.source.0 == source.0 && x.session.0 == session.0

abbrev pub held : List Taken → List Held
held ts = map (λ t. t.held) ts

-- REPLIES

abbrev pub launcher : Handle
launcher = record { 0 = 2 }

-- the text of a handle (skynet.address)
abbrev pub address : Handle → List ℕ
address h = codes ":" ++ hex 8 h.0

abbrev pub entry : Service → Datum × Datum
entry s = (datum.Text (address s.handle), datum.Text (codes "snlua " ++ s.name))

abbrev pub kind_of : Reply → Kind
kind_of reply.Failed = kind.Error
kind_of reply.Ended = kind.Response
kind_of (reply.Launched h) = kind.Response
kind_of (reply.Killed retired) = kind.Response
kind_of reply.Services = kind.Response

abbrev pub body_of : List Service → Reply → List Datum
body_of services reply.Failed = []
body_of services reply.Ended = []
body_of services (reply.Launched h) = datum.Int (pos h.0) ∷ []
body_of services (reply.Killed retired) = datum.Bool retired ∷ []
body_of services reply.Services = datum.Table (map entry services) ∷ []

abbrev pub answer : List Service → Held → Reply → Message
answer services x r = record { source = launcher; session = x.session; kind = kind_of r; body = body_of services r }

-- the line of a launch that failed
abbrev pub line : List ℕ → Message
line name = record { source = launcher; session = record { 0 = 0 }; kind = kind.Text; body = datum.Text (codes "launch " ++ (name ++ codes " failed")) ∷ [] }

-- WHAT IT ASKS

abbrev pub next_of : Desk → Doing → Next
next_of l Quiet = Idle
next_of l (Launching name args) = Ask (ask.Launch name args)
next_of l (Telling name) = Ask (ask.Put (record { 0 = 1 }) (line name))
next_of l (Retiring h) = Ask (ask.Retire h)
next_of l (Marking h) = Ask (ask.Mark h)
next_of l (Seeking x r after) = Ask (ask.Look (Number x.source.0))
next_of l (Sending x r after) = Ask (ask.Put x.source (answer l.services x r))

-- ROWS

abbrev pub does : Desk → Doing → Desk
does l d = record l { doing = d }

-- a request is held no more, and its caller is looked up
abbrev pub replies : Desk → (Taken → Bool) → Reply → AfterReply → Desk → Desk
replies l test r after absent =
    when_found (find test l.requests)
    (λ t. does (record l { requests = without test l.requests }) (Seeking t.held r after))
    absent

-- the message that is served is answered, where it wants an answer
abbrev pub answers : Desk → Reply → Desk
answers l r = replies l is_served r Rest (does l Quiet)

-- the launch of this handle is answered, where it is pending
abbrev pub settles : Desk → Handle → Reply → Desk
settles l h r = replies l (is_pending h) r Rest (does l Quiet)

-- this service is listed no more
abbrev pub unlisted : Desk → Handle → Desk
unlisted l h = record l { services = without (is_service h) l.services }

-- a service ended or was killed while its launch was pending
abbrev pub reply_of_removal : Bool → Reply
reply_of_removal true = reply.Failed
reply_of_removal false = reply.Ended

-- one row for each order
abbrev pub serves : Desk → Handle → Order → Desk
serves l source (order.Launch name args) = does l (Launching name args)
serves l source order.LaunchOk = settles l source (reply.Launched source)
serves l source order.Error = settles (unlisted l source) source reply.Failed
serves l source (order.Remove h killed) = settles (unlisted l h) h (reply_of_removal killed)
serves l source (order.Kill h) = does (unlisted l h) (Retiring h)
serves l source order.List = answers l reply.Services
serves l source order.Other = answers l reply.Failed

-- A report of another service gets no answer, and stays held where it wants one.
abbrev pub role_of : Order → Role
role_of order.LaunchOk = Kept
role_of order.Error = Kept
role_of (order.Remove h killed) = Kept
role_of (order.Launch name args) = Served
role_of (order.Kill h) = Served
role_of order.List = Served
role_of order.Other = Served

-- a message is taken: a request is held from then on
abbrev pub taken : Desk → Message → Role → Desk
taken l m role = if is_request m then record l { requests = l.requests ++ (record { role = role; held = held_of m }) ∷ [] } else l

abbrev pub heard_order : Desk → Message → Order → Desk
heard_order l m o = serves (taken l m (role_of o)) m.source o

-- it serves messages of kind Lua alone
abbrev pub heard : Desk → Message → Desk
heard l m = if is_lua m.kind then heard_order l m (order_of m.body) else does l Quiet

-- a new service is listed, and its launch is pending, where an answer is wanted
abbrev pub launched : Desk → List ℕ → Handle → Desk
launched l name h =
    record {
      services = l.services ++ (record { handle = h; name = name }) ∷ [];
      requests = at_first is_served (λ t. record { role = Pending h; held = t.held }) l.requests;
      doing = Quiet;
    }

-- A service was killed: who waits for its launch is told first, and then who asked for it.
abbrev pub killed : Desk → Handle → Bool → Desk
killed l h retired = replies l (is_pending h) reply.Failed (Report retired) (answers l (reply.Killed retired))

abbrev pub after_reply : Desk → AfterReply → Desk
after_reply l Rest = does l Quiet
after_reply l (Report retired) = answers l (reply.Killed retired)

-- one row for each request, by what it was for
abbrev pub told : Desk → Doing → Answer → Desk
told l (Launching name args) (Found (Some h)) = launched l name h
told l (Launching name args) (Found None) = does l (Telling name)
told l (Telling name) a = answers l reply.Failed
told l (Retiring h) (Flag true) = does l (Marking h)
told l (Retiring h) (Flag false) = killed l h false
told l (Marking h) a = killed l h true
told l (Seeking x r after) (Found (Some h)) = does l (Sending x r after)
told l (Seeking x r after) (Found None) = after_reply l after
told l (Sending x r after) a = after_reply l after
-- no request has an answer of another form
told l _ a = does l Quiet

abbrev pub fed : Desk → Input → Desk
fed l (Comes m) = heard l m
fed l (Answers a) = told l l.doing a
