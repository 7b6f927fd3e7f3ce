-- What an idle service is about to do (skynet_context_message_dispatch in skynet_server.c).
use Rattle.std.specs.Prelude.{ℕ, ◌≡◌, List, [], ◌∷◌, Option}
use Rattle.sk_types.specs.declared.number.Handle.{Handle}
use Rattle.message.specs.Texts.{line_of, text_of}
use Rattle.message.specs.declared.datum.Datum.{Datum}
use Rattle.message.specs.declared.request.Message.{Message}
use Rattle.message.specs.declared.record.What.TheVariants as did
use Rattle.message.specs.declared.place.InboxState.{InboxState}

abbrev pub text_lem : List Datum → List ℕ
text_lem ds = text_of ds

abbrev pub LineOf : Handle → List Message → Option (List ℕ) → Type 0
LineOf h [] l = Unit {0}
LineOf h (m ∷ ms) l = (left : ℕ) → l ≡ line_of h (did.Take m left)

-- the line that is written by the Take of the first message, if one waits
abbrev pub IsLineAhead : Handle → InboxState → Option (List ℕ) → Type 0
IsLineAhead h i l = LineOf h i.waiting l
