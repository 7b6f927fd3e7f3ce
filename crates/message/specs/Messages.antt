-- Kinds of messages, and what an ended service answers to the requests that it leaves.
use Rattle.std.specs.Prelude.{◌==◌, ◌&&◌, Bool, true, false, not, List, [], map}
use Rattle.std.specs.List.{filter}
use Rattle.message.specs.declared.datum.Datum.{Datum}
use Rattle.message.specs.declared.request.Message.{Message}
use Rattle.message.specs.declared.request.Held.{Held}
use Rattle.sk_types.specs.declared.number.Handle.{Handle}
use Rattle.sk_types.specs.declared.number.Session.{Session}
use Rattle.sk_types.specs.declared.number.Kind.{Kind}
use Rattle.sk_types.specs.declared.number.Kind.TheVariants as kind

-- a kind whose messages may want an answer
abbrev pub is_lua : Kind → Bool
is_lua kind.Lua = true
is_lua kind.Text = false
is_lua kind.Response = false
is_lua kind.Error = false

-- a kind whose messages are answers
abbrev pub is_answer : Kind → Bool
is_answer kind.Response = true
is_answer kind.Error = true
is_answer kind.Text = false
is_answer kind.Lua = false

abbrev pub is_text : Kind → Bool
is_text kind.Text = true
is_text kind.Response = false
is_text kind.Error = false
is_text kind.Lua = false

-- a request wants an answer: its kind is Lua, and its session is not 0 (skynet.lua, raw_dispatch_message)
abbrev pub is_request : Message → Bool
is_request m = is_lua m.kind && not (m.session.0 == 0)

-- who is to be answered
abbrev pub held_of : Message → Held
held_of m = record { source = m.source; session = m.session }

-- the requests of a list, in order
abbrev pub requests : List Message → List Held
requests ms = map held_of (filter is_request ms)

-- what the service own sends for a request that it did not answer (skynet_mq.c, the drop function of a mailbox)
abbrev pub bounce : Handle → Held → Message
bounce own x = record { source = own; session = x.session; kind = kind.Error; body = [] }

-- a timer's message (skynet_timer.c, dispatch_list)
abbrev pub timer_message : Session → Message
timer_message session = record { source = record { 0 = 0 }; session = session; kind = kind.Response; body = [] }

-- the first message of a new service
abbrev pub init_message : List Datum → Message
init_message args = record { source = record { 0 = 0 }; session = record { 0 = 0 }; kind = kind.Text; body = args }
