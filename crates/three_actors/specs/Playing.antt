-- Three small services. A text rouses each: the echo rouses the caller and the killer, the caller calls the echo once, and
-- the killer, where the echo rouses it, ends the echo. The caller tells the killer how its call ended: as the killer is agent 1, the
-- world writes that down. Each answers every request that it takes.
use Rattle.std.specs.Prelude.{ℕ, ◌==◌, Bool, true, false, List, [], ◌∷◌, Option, Some, None, codes}
use Rattle.sk_types.specs.declared.number.Handle.{Handle}
use Rattle.sk_types.specs.declared.number.Kind.{Kind}
use Rattle.sk_types.specs.declared.number.Kind.TheVariants as kind
use Rattle.message.specs.Messages.{is_request, held_of}
use Rattle.message.specs.declared.datum.Datum.TheVariants.{Text}
use Rattle.message.specs.declared.request.Message.{Message}
use Rattle.message.specs.declared.request.Held.{Held}
use Rattle.message.specs.declared.request.Dest.TheVariants.{Number}
use Rattle.message.specs.declared.request.Request.TheVariants as ask
use Rattle.message.specs.declared.request.Answer.{Answer}
use Rattle.message.specs.declared.request.Answer.TheVariants.{Found, Flag}
use Rattle.message.specs.declared.request.Input.{Input}
use Rattle.message.specs.declared.request.Input.TheVariants.{Message as Comes, Answer as Answers}
use Rattle.message.specs.declared.request.Next.{Next}
use Rattle.message.specs.declared.request.Next.TheVariants as then_it
use Rattle.three_actors.specs.declared.player.Role.{Role}
use Rattle.three_actors.specs.declared.player.Role.TheVariants as roles
use Rattle.three_actors.specs.declared.player.Outcome.{Outcome}
use Rattle.three_actors.specs.declared.player.Outcome.TheVariants as outcomes
use Rattle.three_actors.specs.declared.player.Task.{Task}
use Rattle.three_actors.specs.declared.player.Task.TheVariants as tasks
use Rattle.three_actors.specs.declared.player.Player.{Player}

-- a player: its handle, what a text rouses it to, whether it has made its call, and what it is about to do
pub record State : Type 0 where
  pub own : Handle
  pub role : Role
  pub called : Bool
  pub task : Task

abbrev pub state_of : Player → State
state_of p = record { own = p.own; role = p.role; called = p.called; task = p.task }

-- what a text rouses it to, which may be the echo's
abbrev pub roused : Role → Bool → Bool → Task
roused roles.Echo called by_echo = tasks.Rouses
roused roles.Caller false by_echo = tasks.Looks
roused roles.Caller true by_echo = tasks.Idle
roused roles.Killer called true = tasks.Retires
roused roles.Killer called false = tasks.Idle

-- the caller's call has ended
abbrev pub noted : Role → Outcome → Task
noted roles.Caller o = tasks.Notes o
noted roles.Echo o = tasks.Idle
noted roles.Killer o = tasks.Idle

abbrev pub heard_by : Role → Bool → Held → Bool → Kind → Bool → Task
heard_by r called x true k by_echo = tasks.Seeks x
heard_by r called x false kind.Text by_echo = roused r called by_echo
heard_by r called x false kind.Response by_echo = noted r outcomes.Answered
heard_by r called x false kind.Error by_echo = noted r outcomes.Failed
heard_by r called x false kind.Lua by_echo = tasks.Idle

-- a message is taken
abbrev pub heard : Role → Bool → Message → Task
heard r called m = heard_by r called (held_of m) (is_request m) m.kind (m.source.0 == 3)

-- an answer is taken
abbrev pub told : Task → Answer → Task
told tasks.Rouses a = tasks.Alarms
told (tasks.Seeks x) (Found (Some h)) = tasks.Sends x
told tasks.Looks (Found (Some h)) = tasks.Calls h
told tasks.Retires (Flag true) = tasks.Marks
told _ a = tasks.Idle

-- it has made its call
abbrev pub calls_now : Bool → Task → Bool
calls_now called (tasks.Calls h) = true
calls_now called _ = called

abbrev pub turned : State → Input → Task
turned s (Comes m) = heard s.role s.called m
turned s (Answers a) = told s.task a

abbrev pub fed : State → Input → State
fed s i = record { own = s.own; role = s.role; called = calls_now s.called (turned s i); task = turned s i }

abbrev pub killer : Handle
killer = record { 0 = 1 }

abbrev pub caller : Handle
caller = record { 0 = 2 }

abbrev pub echo : Handle
echo = record { 0 = 3 }

abbrev pub text_by : Handle → Message
text_by own = record { source = own; session = record { 0 = 0 }; kind = kind.Text; body = [] }

abbrev pub call_by : Handle → Message
call_by own = record { source = own; session = record { 0 = 1 }; kind = kind.Lua; body = [] }

abbrev pub reply_by : Handle → Held → Message
reply_by own x = record { source = own; session = x.session; kind = kind.Response; body = [] }

abbrev pub word_of : Outcome → List ℕ
word_of outcomes.Answered = codes "answered"
word_of outcomes.Failed = codes "failed"

abbrev pub note_by : Handle → Outcome → Message
note_by own o = record { source = own; session = record { 0 = 0 }; kind = kind.Text; body = Text (word_of o) ∷ [] }

abbrev pub next_of : Handle → Task → Next
next_of own tasks.Idle = then_it.Idle
next_of own tasks.Rouses = then_it.Ask (ask.Put caller (text_by own))
next_of own tasks.Alarms = then_it.Ask (ask.Put killer (text_by own))
next_of own (tasks.Seeks x) = then_it.Ask (ask.Look (Number x.source.0))
next_of own (tasks.Sends x) = then_it.Ask (ask.Put x.source (reply_by own x))
next_of own tasks.Looks = then_it.Ask (ask.Look (Number 3))
next_of own (tasks.Calls to) = then_it.Ask (ask.Put to (call_by own))
next_of own (tasks.Notes o) = then_it.Ask (ask.Put killer (note_by own o))
next_of own tasks.Retires = then_it.Ask (ask.Retire echo)
next_of own tasks.Marks = then_it.Ask (ask.Mark echo)

abbrev pub reply_of : Task → Option Held
reply_of (tasks.Seeks x) = Some x
reply_of (tasks.Sends x) = Some x
reply_of _ = None

abbrev pub known_of : Task → List Handle
known_of (tasks.Sends x) = x.source ∷ []
known_of (tasks.Calls to) = to ∷ []
known_of _ = []

abbrev pub asked_of : Bool → ℕ
asked_of true = 1
asked_of false = 0

abbrev pub new_player : Handle → Role → State
new_player own r = record { own = own; role = r; called = false; task = tasks.Idle }

-- each script but the empty one is an echo; handle 0 is the clock's
abbrev pub begins_by : Handle → List ℕ → Bool → Option State
begins_by own [] zero = None
begins_by own (c ∷ cs) true = None
begins_by own (c ∷ cs) false = Some (new_player own roles.Echo)
