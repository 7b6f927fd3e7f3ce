-- The fate of each call after a journal: answered by a Response, or failed by an Error (raw_dispatch_message and _error_dispatch in
-- skynet.lua), or still on its way.
use Rattle.std.specs.Prelude.{ℕ, ◌+◌, true, false, Bool, List, [], ◌∷◌, Option, Some, None, cond}
use Rattle.std.specs.List.{sum_by}
use Rattle.message.specs.Ends.{first}
use Rattle.message.specs.Actors.{Way}
use Rattle.message.specs.Steps.{Agent, Serves, Times}
use Rattle.message.specs.Worlds.{World, agent, act}
use Rattle.sk_types.specs.declared.number.Handle.{Handle}
use Rattle.sk_types.specs.declared.number.Kind.{Kind}
use Rattle.sk_types.specs.declared.number.Kind.TheVariants as kind
use Rattle.message.specs.declared.request.Held.{Held}
use Rattle.message.specs.declared.record.What.{What}
use Rattle.message.specs.declared.record.What.TheVariants as did
use Rattle.message.specs.declared.place.Service.{Service}
use Rattle.message.specs.declared.place.Service.TheVariants.{Serving, Leaving}
use Rattle.call_fates.specs.Calls.{Call, one_of, asks, replies, waiting, held, on_its_way}

-- HOW OFTEN IN ONE ACT, by the agent of handle h

-- the call is made: its request is put, and taken
abbrev pub makes : Call → What → ℕ
makes c (did.Put h m true) = asks c h.0 m
makes c _ = 0

abbrev pub is_response : Kind → Bool
is_response kind.Response = true
is_response kind.Error = false
is_response kind.Text = false
is_response kind.Lua = false

-- its caller takes its reply, a Response
abbrev pub answers : Call → Handle → What → ℕ
answers c h (did.Take m left) = cond (is_response m.kind) (replies c h.0 m) 0
answers c h _ = 0

-- or an Error
abbrev pub fails : Call → Handle → What → ℕ
fails c h (did.Take m left) = cond (is_response m.kind) 0 (replies c h.0 m)
fails c h _ = 0

-- the request whose reply the agent is sending
abbrev pub replying : {S : Type 0} → Way S → Service S → Option Held
replying way (Serving s) = way.reply s
replying way (Leaving e) = first e.bounces

abbrev pub replying_at : {S : Type 0} → Way S → Option (Agent S) → Option Held
replying_at way None = None
replying_at way (Some (Serves x)) = replying way x
replying_at way (Some (Times due)) = None

-- the Look or the Put of its reply is refused; or its caller ends, and the reply stands among its messages
abbrev pub voids : Call → Handle → Option Held → What → ℕ
voids c h sent (did.Look dest None) = one_of c h.0 sent
voids c h sent (did.Put to m false) = one_of c h.0 sent
voids c h sent (did.End ms) = sum_by (replies c h.0) ms
voids c h sent _ = 0

-- HOW OFTEN IN A JOURNAL

abbrev pub with_act : {S : Type 0} → Option (What × World S) → (What → ℕ) → (World S → ℕ) → ℕ
with_act None f g = 0
with_act (Some d) f g = f d.0 + g d.1

-- the sum over the acts of a journal
abbrev pub tally : {S : Type 0} → Way S → (World S → Handle → What → ℕ) → List Handle → World S → ℕ
tally way f [] w = 0
tally way f (h ∷ hs) w = with_act (act way w h) (f w h) (λ v. tally way f hs v)

abbrev pub made : {S : Type 0} → Way S → Call → List Handle → World S → ℕ
made way c hs w = tally way (λ v h what. makes c what) hs w

abbrev pub answered : {S : Type 0} → Way S → Call → List Handle → World S → ℕ
answered way c hs w = tally way (λ v h what. answers c h what) hs w

abbrev pub failed : {S : Type 0} → Way S → Call → List Handle → World S → ℕ
failed way c hs w = tally way (λ v h what. fails c h what) hs w

abbrev pub void : {S : Type 0} → Way S → Call → List Handle → World S → ℕ
void way c hs w = tally way (λ v h what. voids c h (replying_at way (agent v h)) what) hs w

-- how often the caller took a reply of the call
abbrev pub taken : {S : Type 0} → Way S → Call → List Handle → World S → ℕ
taken way c hs w = answered way c hs w + failed way c hs w

-- The six fates, each as often as the call has it, in w2, the world after the journal hs from w.
-- waiting: the request stands in the callee's inbox. held: the callee holds it, and has not ended.
-- on_its_way: the callee is sending the reply, or has it among its bounces, or it stands in the caller's inbox.
-- answered, failed: the caller took the reply, a Response or an Error. void: the reply has no receiver.
pub record Fates : Type 0 where
  pub waiting : ℕ
  pub held : ℕ
  pub on_its_way : ℕ
  pub answered : ℕ
  pub failed : ℕ
  pub void : ℕ

abbrev pub fates : {S : Type 0} → Way S → Call → List Handle → World S → World S → Fates
fates way c hs w w2 = record {
  waiting = waiting c w2;
  held = held way c w2;
  on_its_way = on_its_way way c w2;
  answered = answered way c hs w;
  failed = failed way c hs w;
  void = void way c hs w;
}

abbrev pub all_fates : Fates → ℕ
all_fates f = f.waiting + (f.held + (f.on_its_way + (f.answered + (f.failed + f.void))))
