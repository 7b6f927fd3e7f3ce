-- What is done at an inbox (skynet_mq.c, and skynet_context_release of skynet_server.c).
use Rattle.std.specs.Prelude.{Bool, true, false, List, [], ◌∷◌, ◌++◌, length, Option, Some, None, if◌then◌else◌}
use Rattle.sk_types.specs.declared.number.Handle.{Handle}
use Rattle.message.specs.declared.request.Message.{Message}
use Rattle.message.specs.declared.place.InboxStatus.{InboxStatus}
use Rattle.message.specs.declared.place.InboxStatus.TheVariants.{Live, Closing, Gone}
use Rattle.message.specs.declared.place.InboxState.{InboxState}
use Rattle.message.specs.declared.record.What.{What}
use Rattle.message.specs.declared.record.What.TheVariants as did

-- a live or a closing inbox takes messages
abbrev pub accepts : InboxStatus → Bool
accepts Live = true
accepts Closing = true
accepts Gone = false

-- a message that is put is added at the end, where the inbox takes messages
abbrev pub added : InboxState → Message → InboxState
added i m = if accepts i.status then record { status = i.status; waiting = i.waiting ++ m ∷ [] } else i

abbrev pub put : Handle → Message → InboxState → What × InboxState
put h m i = (did.Put h m (accepts i.status), added i m)

-- a timer's message is put in the same way
abbrev pub fire : Handle → Message → InboxState → What × InboxState
fire h m i = (did.Fire h m (accepts i.status), added i m)

-- a mark closes a live inbox
abbrev pub marked : InboxStatus → InboxStatus
marked Live = Closing
marked Closing = Closing
marked Gone = Gone

abbrev pub mark : Handle → InboxState → What × InboxState
mark h i = (did.Mark h, record { status = marked i.status; waiting = i.waiting })

-- an idle service takes the first message of its inbox while that is live
abbrev pub take_first : InboxStatus → List Message → Option (What × InboxState)
take_first Live (m ∷ ms) = Some (did.Take m (length ms), record { status = Live; waiting = ms })
take_first _ _ = None

-- and ends where it is closing: the messages that wait are handed out, and the inbox is gone
abbrev pub end : InboxStatus → List Message → Option (What × InboxState)
end Closing ms = Some (did.End ms, record { status = Gone; waiting = [] })
end Live ms = None
end Gone ms = None
