-- What an act changes in the list of calls, step by step (skynet.call and skynet.ret in skynet.lua).
use Rattle.std.specs.Prelude.{ℕ, ◌≡◌, ◌+◌, Bool, true, false, List, Option, Some, None, if◌then◌else◌}
use Rattle.std.specs.List.{sum_by}
use Rattle.sk_types.specs.declared.number.Handle.{Handle}
use Rattle.message.specs.Messages.{is_request}
use Rattle.message.specs.Actors.{Way}
use Rattle.message.specs.Registries.{at}
use Rattle.message.specs.Texts.{line_of}
use Rattle.message.specs.Worlds.{World, act}
use Rattle.message.specs.declared.request.Held.{Held as Pending}
use Rattle.message.specs.declared.request.Message.{Message}
use Rattle.message.specs.declared.request.Request.{Request}
use Rattle.message.specs.declared.request.Request.TheVariants as ask
use Rattle.message.specs.declared.request.Answer.{Answer}
use Rattle.message.specs.declared.request.Answer.TheVariants.{Found, Flag}
use Rattle.message.specs.declared.record.What.{What}
use Rattle.message.specs.declared.record.What.TheVariants as did
use Rattle.message.specs.declared.place.Service.{Service}
use Rattle.message.specs.declared.place.Service.TheVariants.{Serving, Leaving}
use Rattle.call_fates.specs.Calls.{Call, one_of, all_of, asks, replies}
use Rattle.call_fates.specs.Fates.{is_response, answers, fails}
use Rattle.call_fates.specs.Flows.{receives}
use Rattle.call_fates.specs.Kept.{Follows, fate_by}
use Rattle.call_fates.specs.Table.{Table, state_at, call_of, Adds, Takes, Replaces, Becomes}
use Rattle.call_fates.specs.declared.calls.CallKey.{CallKey}
use Rattle.call_fates.specs.declared.calls.Fate.{Fate}
use Rattle.call_fates.specs.declared.calls.Fate.TheVariants.{Waiting, OnItsWay, Answered, Failed, Void}
use Rattle.world_machine.specs.Serving.{answered}
use Rattle.world_machine.specs.declared.calling.NewCall.{NewCall}

-- agent h did its one next action and wrote this line, if any; and the list of calls went on with it
pub record Goes {S : Type 0} (way : Way S) (w : World S) (h : Handle) (line : Option (List ℕ)) (w2 : World S) (all all2 : Table) : Type 0 where
  pub what : What
  pub acts : act way w h ≡ Some (what, w2)
  pub line_is : line ≡ line_of h what
  pub follows : Follows way w h what all all2

-- the call that a request makes, where it is answered true
abbrev pub new_call : Handle → Message → Bool → Option NewCall
new_call to m true = Some (record { key = record { caller = m.source; session = m.session }; callee = to })
new_call to m false = None

abbrev pub call_in : Request → Option NewCall
call_in (ask.Put to m) = new_call to m (is_request m)
call_in _ = None

-- the call whose reply is refused, where the request is
abbrev pub reply_in : Option Pending → Request → Option Pending
reply_in sent (ask.Look dest) = sent
reply_in sent (ask.Put to m) = sent
reply_in sent _ = None

-- nobody was found, or it was not taken
abbrev pub is_refusal : Answer → Bool
is_refusal (Found None) = true
is_refusal (Flag false) = true
is_refusal _ = false

abbrev pub IsAbsent : Option NewCall → Table → Type 0
IsAbsent None all = Unit {0}
IsAbsent (Some c) all = state_at all c.key ≡ None

-- the call, if any, is added to those that were made
pub record Added (c : NewCall) (all all2 : Table) : Type 0 where
  pub put_in : Adds all c.key c.callee all2
  pub replaced : Replaces all c.key (record { callee = c.callee; fate = Waiting }) all2

abbrev pub Opens : Option NewCall → Table → Table → Type 0
Opens None all all2 = all2 ≡ all
Opens (Some c) all all2 = Added c all all2

-- and is taken back
abbrev pub Withdraws : Option NewCall → Table → Table → Type 0
Withdraws None all all2 = all2 ≡ all
Withdraws (Some c) all all2 = Takes all c.key all2

-- where the request was refused there is no new call, and a reply that was sent is void
abbrev pub Settles : Option NewCall → Option Pending → Bool → Table → Table → Type 0
Settles call sent false all all2 = all2 ≡ all
Settles call sent true all all2 = (mid : Table) × Withdraws call all mid × Becomes Void (λ c. one_of c 0 sent) mid all2

-- the call whose reply the service is sending
abbrev pub sending : {S : Type 0} → Way S → Call → Service S → ℕ
sending way c (Serving s) = one_of c 0 (way.reply s)
sending way c (Leaving e) = 0

-- what a reply makes of its call
abbrev pub reply_fate : Message → Fate
reply_fate m = if is_response m.kind then Answered else Failed

-- the reply that the service of handle h sends once it has this answer is on its way
pub record Turns {S : Type 0} (way : Way S) (w : World S) (h : Handle) (a : Answer) (all all2 : Table) : Type 0 where
  pub service : Service S
  pub there : at w.services h.0 ≡ Some service
  pub turned : Becomes OnItsWay (λ c. sending way c (answered way service a)) all all2

-- the service took the message
pub record Receives (h : Handle) (m : Message) (all all2 : Table) : Type 0 where
  pub each : (q : CallKey) → state_at all2 q ≡ fate_by 0 (answers (call_of q) h (did.Take m 0)) (fails (call_of q) h (did.Take m 0)) (receives (call_of q) 0 (did.Take m 0)) (state_at all q)

-- the service of handle h ended: it held these requests, and these messages waited
abbrev pub Buries : Handle → List Pending → List Message → Table → Table → Type 0
Buries h held ms all all2 = (mid : Table) × Becomes Void (λ c. sum_by (replies c h.0) ms) all mid × Becomes OnItsWay (λ c. all_of c 0 held + sum_by (asks c 0) ms) mid all2

abbrev pub EndsCalls : {S : Type 0} → Way S → Service S → Handle → List Message → Table → Table → Type 0
EndsCalls way (Serving s) h ms all all2 = Buries h (way.held s) ms all all2
EndsCalls way (Leaving e) h ms all all2 = ⊥
