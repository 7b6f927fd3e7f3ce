-- Calls, and where their requests and their replies are (skynet.call and skynet.ret in skynet.lua).
use Rattle.std.specs.Prelude.{ℕ, ◌+◌, ◌==◌, ◌&&◌, Bool, true, not, List, [], ◌∷◌, Option, Some, None, cond}
use Rattle.std.specs.List.{sum_by}
use Rattle.message.specs.Messages.{is_request, is_answer, held_of}
use Rattle.message.specs.Actors.{Way}
use Rattle.message.specs.Worlds.{World}
use Rattle.sk_types.specs.declared.number.Handle.{Handle}
use Rattle.sk_types.specs.declared.number.Session.{Session}
use Rattle.message.specs.declared.request.Message.{Message}
use Rattle.message.specs.declared.request.Held.{Held}
use Rattle.message.specs.declared.place.InboxState.{InboxState}
use Rattle.message.specs.declared.place.Service.{Service}
use Rattle.message.specs.declared.place.Service.TheVariants.{Serving, Leaving}

-- A call: the service that made it, the session under which it did, and the service that was called; or, with None,
-- all calls of this caller and session, whoever was called.
pub record Call : Type 0 where
  pub caller : Handle
  pub session : Session
  pub callee : Option Handle

abbrev pub is_callee : Option Handle → ℕ → Bool
is_callee None h = true
is_callee (Some d) h = h == d.0

-- 1 where it holds
abbrev pub one_if : Bool → ℕ
one_if b = cond b 1 0

-- how often (0 or 1) the request x, at the service of handle h, is the request of the call
abbrev pub one : Call → ℕ → Held → ℕ
one c h x = one_if (is_callee c.callee h && ((x.source.0 == c.caller.0) && (x.session.0 == c.session.0)))

abbrev pub one_of : Call → ℕ → Option Held → ℕ
one_of c h None = 0
one_of c h (Some x) = one c h x

abbrev pub all_of : Call → ℕ → List Held → ℕ
all_of c h xs = sum_by (one c h) xs

-- the message, put to the service of handle h, is the request of the call
abbrev pub asks : Call → ℕ → Message → ℕ
asks c h m = cond (is_request m) (one c h (held_of m)) 0

-- The message, put to the service of handle h, is a reply to the call: a Response or an Error to the caller, with the
-- call's session. Timers and a service's own responses have source 0, and are no replies.
abbrev pub replies : Call → ℕ → Message → ℕ
replies c h m = one_if (is_answer m.kind && (not (m.source.0 == 0) && (is_callee c.callee m.source.0 && ((h == c.caller.0) && (m.session.0 == c.session.0)))))

-- what stands under the handles from h on
abbrev pub total : {X : Type 0} → (ℕ → X → ℕ) → ℕ → List X → ℕ
total f h [] = 0
total f h (x ∷ xs) = f h x + total f (h + 1) xs

abbrev pub asks_in : Call → ℕ → InboxState → ℕ
asks_in c h i = sum_by (asks c h) i.waiting

abbrev pub replies_in : Call → ℕ → InboxState → ℕ
replies_in c h i = sum_by (replies c h) i.waiting

-- the service of handle h holds the request
abbrev pub holds : {S : Type 0} → Way S → Call → ℕ → Service S → ℕ
holds way c h (Serving s) = all_of c h (way.held s)
holds way c h (Leaving e) = 0

-- the service of handle h is sending the reply, or has it among its bounces
abbrev pub sends : {S : Type 0} → Way S → Call → ℕ → Service S → ℕ
sends way c h (Serving s) = one_of c h (way.reply s)
sends way c h (Leaving e) = all_of c h e.bounces

-- HOW OFTEN IN A WORLD

-- the request stands in the callee's inbox
abbrev pub waiting : {S : Type 0} → Call → World S → ℕ
waiting c w = total (asks_in c) 1 w.inboxes

-- the callee holds it, and has not ended
abbrev pub held : {S : Type 0} → Way S → Call → World S → ℕ
held way c w = total (holds way c) 1 w.services

-- the callee is sending the reply, or has it among its bounces; or the reply stands in the caller's inbox
abbrev pub on_its_way : {S : Type 0} → Way S → Call → World S → ℕ
on_its_way way c w = total (sends way c) 1 w.services + total (replies_in c) 1 w.inboxes
