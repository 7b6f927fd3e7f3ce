-- Lists of bounces: the error replies that an ended service owes (drop_message in skynet_server.c, skynet_mq_release in
-- skynet_mq.c).
use Rattle.std.specs.Prelude.{◌≡◌, true, List, [], ◌∷◌, Option, Some, None}
use Rattle.sk_types.specs.declared.number.Handle.{Handle}
use Rattle.sk_types.specs.declared.number.Session.{Session}
use Rattle.message.specs.declared.request.Held.{Held}
use Rattle.message.specs.declared.request.Message.{Message}
use Rattle.message.specs.Messages.{is_request}

abbrev pub first : List Held → Option Held
first [] = None
first (x ∷ xs) = Some x

abbrev pub rest : List Held → List Held
rest [] = []
rest (x ∷ xs) = xs

abbrev pub caller_of : Held → Handle × Session
caller_of x = (x.source, x.session)

-- nothing stands before the first request
abbrev pub BeginsWithRequest : List Message → Type 0
BeginsWithRequest [] = Unit {0}
BeginsWithRequest (m ∷ ms) = is_request m ≡ true
