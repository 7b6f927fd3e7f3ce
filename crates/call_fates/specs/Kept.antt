-- The list of calls, kept in step with the world. It is this project's own.
use Rattle.std.specs.Prelude.{ℕ, ◌≡◌, ◌+◌, ◌==◌, Option, Some, None, IsSome, cond, List, [], ◌∷◌}
use Rattle.std.specs.List.{sum_by}
use Rattle.message.specs.Actors.{Way}
use Rattle.message.specs.Steps.{Agent, Serves, Times, input_of}
use Rattle.message.specs.Worlds.{World, agent, act}
use Rattle.sk_types.specs.declared.number.Handle.{Handle}
use Rattle.message.specs.declared.record.What.{What}
use Rattle.message.specs.declared.record.What.TheVariants as did
use Rattle.message.specs.declared.place.Service.{Service}
use Rattle.message.specs.declared.place.Service.TheVariants.{Serving, Leaving}
use Rattle.call_fates.specs.Calls.{Call, one_of, all_of, asks, waiting, held, on_its_way}
use Rattle.call_fates.specs.Fates.{Fates, makes, answers, fails, voids, replying_at}
use Rattle.call_fates.specs.Flows.{receives}
use Rattle.call_fates.specs.Table.{Table, state_at, with_fate, call_of, call_to}
use Rattle.call_fates.specs.Sessions.{IsDrawn, IsFresh}
use Rattle.call_fates.specs.declared.calls.CallKey.{CallKey}
use Rattle.call_fates.specs.declared.calls.CallState.{CallState}
use Rattle.call_fates.specs.declared.calls.Fate.{Fate}
use Rattle.call_fates.specs.declared.calls.Fate.TheVariants.{Waiting, Held, OnItsWay, Answered, Failed, Void}

-- WHAT BECOMES OF A CALL BY AN ACT

-- the service of handle h is sending the reply after the act; or it ended by it, and bounces the request
abbrev pub turns : {S : Type 0} → Way S → Call → ℕ → Service S → What → ℕ
turns way c h (Serving s) (did.End ms) = all_of c h (way.held s) + sum_by (asks c h) ms
turns way c h (Serving s) what = one_of c h (way.reply (way.fed s (input_of what)))
turns way c h (Leaving e) what = 0

abbrev pub turns_at : {S : Type 0} → Way S → Call → ℕ → Option (Agent S) → What → ℕ
turns_at way c h None what = 0
turns_at way c h (Some (Serves x)) what = turns way c h x what
turns_at way c h (Some (Times due)) what = 0

-- the last of these that happened, from below: it is received, it fails, is answered, is void
abbrev pub fate_by : ℕ → ℕ → ℕ → ℕ → Option CallState → Option CallState
fate_by void answered failed received s =
    cond (void == 0) (cond (answered == 0) (cond (failed == 0) (cond (received == 0) s (with_fate Held s)) (with_fate Failed s)) (with_fate Answered s)) (with_fate Void s)

-- a call that turns is on its way
abbrev pub turned_by : ℕ → Option CallState → Option CallState
turned_by turned s = cond (turned == 0) s (with_fate OnItsWay s)

-- whom a message was put to
abbrev pub receiver : What → Handle
receiver (did.Put to m taken) = to
receiver _ = record { 0 = 0 }

-- the state of the call c after agent h, which was a, did this; before it was s
abbrev pub next_state : {S : Type 0} → Way S → Call → Handle → Option (Agent S) → What → Option CallState → Option CallState
next_state way c h a what s =
    turned_by (turns_at way c h.0 a what) (cond (makes c what == 0) (fate_by (voids c h (replying_at way a) what) (answers c h what) (fails c h what) (receives c h.0 what) s) (Some (record { callee = receiver what; fate = Waiting })))

-- the list after agent h did this in w
pub record Follows {S : Type 0} (way : Way S) (w : World S) (h : Handle) (what : What) (all all2 : Table) : Type 0 where
  pub each : (q : CallKey) → state_at all2 q ≡ next_state way (call_of q) h (agent w h) what (state_at all q)

-- THE LIST AND THE WORLD

-- 1 where the call has this fate
abbrev pub is_waiting : Fate → ℕ
is_waiting Waiting = 1
is_waiting Held = 0
is_waiting OnItsWay = 0
is_waiting Answered = 0
is_waiting Failed = 0
is_waiting Void = 0

abbrev pub is_held : Fate → ℕ
is_held Waiting = 0
is_held Held = 1
is_held OnItsWay = 0
is_held Answered = 0
is_held Failed = 0
is_held Void = 0

abbrev pub is_on_its_way : Fate → ℕ
is_on_its_way Waiting = 0
is_on_its_way Held = 0
is_on_its_way OnItsWay = 1
is_on_its_way Answered = 0
is_on_its_way Failed = 0
is_on_its_way Void = 0

abbrev pub is_answered : Fate → ℕ
is_answered Waiting = 0
is_answered Held = 0
is_answered OnItsWay = 0
is_answered Answered = 1
is_answered Failed = 0
is_answered Void = 0

abbrev pub is_failed : Fate → ℕ
is_failed Waiting = 0
is_failed Held = 0
is_failed OnItsWay = 0
is_failed Answered = 0
is_failed Failed = 1
is_failed Void = 0

abbrev pub is_void : Fate → ℕ
is_void Waiting = 0
is_void Held = 0
is_void OnItsWay = 0
is_void Answered = 0
is_void Failed = 0
is_void Void = 1

-- this fate once, and no other
abbrev pub only : Fate → Fates
only f = record {
  waiting = is_waiting f;
  held = is_held f;
  on_its_way = is_on_its_way f;
  answered = is_answered f;
  failed = is_failed f;
  void = is_void f;
}

abbrev pub in_state : (Fate → ℕ) → Option CallState → ℕ
in_state f None = 0
in_state f (Some s) = f s.fate

-- the call has this fate in the world, and no other
pub record HasFate {S : Type 0} (way : Way S) (c : Call) (w : World S) (f : Fate) : Type 0 where
  pub waits : waiting c w ≡ is_waiting f
  pub holds : held way c w ≡ is_held f
  pub under_way : on_its_way way c w ≡ is_on_its_way f

-- Each call of the list has its fate in the world, and no other, whoever was called, and has it at the callee that the list
-- names: there its request waits, or there it is held, or from there its reply comes. What is not in the list is no call.
-- Where a call is answered, failed or void, nothing of it is left in the world.
pub record IsKept {S : Type 0} (way : Way S) (sound : S → Type 0) (w : World S) (all : Table) : Type 0 where
  pub fresh : IsFresh way sound w
  pub waits : (q : CallKey) → waiting (call_of q) w ≡ in_state is_waiting (state_at all q)
  pub holds : (q : CallKey) → held way (call_of q) w ≡ in_state is_held (state_at all q)
  pub under_way : (q : CallKey) → on_its_way way (call_of q) w ≡ in_state is_on_its_way (state_at all q)
  pub at_callee : (q : CallKey) (s : CallState) → state_at all q ≡ Some s → HasFate way (call_to q s.callee) w s.fate
  pub drawn : (q : CallKey) → IsSome (state_at all q) → IsDrawn way (call_of q) w

-- the list after the acts of a journal
abbrev pub FollowsAll : {S : Type 0} → Way S → List Handle → World S → Table → Table → Type 0
FollowsAll way [] w all all2 = all2 ≡ all
FollowsAll {S} way (h ∷ hs) w all all2 = (r : What × World S) × (mid : Table) × (act way w h ≡ Some r) × Follows way w h r.0 all mid × FollowsAll way hs r.1 mid all2
