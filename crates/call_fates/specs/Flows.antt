-- What one act moves of a call, from one fate to the next (skynet.call and skynet.ret in skynet.lua, skynet_send in skynet_server.c).
use Rattle.std.specs.Prelude.{ℕ, true, false, Option, Some, None}
use Rattle.std.specs.List.{sum_by}
use Rattle.message.specs.Actors.{Way, found_caller}
use Rattle.message.specs.Steps.{Agent, Serves, Times, input_of}
use Rattle.message.specs.declared.request.Held.{Held}
use Rattle.message.specs.declared.record.What.{What}
use Rattle.message.specs.declared.record.What.TheVariants as did
use Rattle.message.specs.declared.place.Service.{Service}
use Rattle.message.specs.declared.place.Service.TheVariants.{Serving, Leaving}
use Rattle.call_fates.specs.Calls.{Call, one_of, all_of, asks, replies}

-- the service of handle h takes the request
abbrev pub receives : Call → ℕ → What → ℕ
receives c h (did.Take m left) = asks c h m
receives c h _ = 0

-- it ends, and the request stands among its messages
abbrev pub bounces : Call → ℕ → What → ℕ
bounces c h (did.End ms) = sum_by (asks c h) ms
bounces c h _ = 0

-- the request that becomes the one whose reply is sent; none where that is only sent on
abbrev pub freed_by : Option Held → Option Held → Option Held
freed_by (Some x) r = None
freed_by None r = r

-- the service of handle h holds the request no more: it begins to send the reply, or it ends
abbrev pub frees : {S : Type 0} → Way S → Call → ℕ → Service S → What → ℕ
frees way c h (Serving s) (did.End ms) = all_of c h (way.held s)
frees way c h (Serving s) what = one_of c h (freed_by (found_caller (way.reply s) (input_of what)) (way.reply (way.fed s (input_of what))))
frees way c h (Leaving e) what = 0

abbrev pub frees_at : {S : Type 0} → Way S → Call → ℕ → Agent S → What → ℕ
frees_at way c h (Serves x) what = frees way c h x what
frees_at way c h (Times due) what = 0

-- the reply is put
abbrev pub sent : Call → What → ℕ
sent c (did.Put to m true) = replies c to.0 m
sent c _ = 0

-- the Look or the Put of the reply is refused
abbrev pub refused : Call → ℕ → Option Held → What → ℕ
refused c h r (did.Look dest None) = one_of c h r
refused c h r (did.Put to m false) = one_of c h r
refused c h r _ = 0

-- the reply leaves the inbox of handle h
abbrev pub fetched : Call → ℕ → What → ℕ
fetched c h (did.Take m left) = replies c h m
fetched c h (did.End ms) = sum_by (replies c h) ms
fetched c h _ = 0
