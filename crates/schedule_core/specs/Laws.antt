-- The laws of workers: in whatever order they take their steps, what they do is a run of one thread, and no mailbox with work is lost
-- (skynet_mq.c and skynet_server.c).
use Rattle.std.specs.Prelude.{ℕ, ◌≡◌, ◌≤◌, ◌<◌, ◌⊎◌, List, [], Some, None, slice_get}
use Rattle.sk_types.specs.declared.number.Handle.{Handle}
use Rattle.message.specs.Actors.{Way}
use Rattle.message.specs.Clocks.{last_tick}
use Rattle.message.specs.Worlds.{act, after, IsDrained}
use Rattle.world_machine.specs.Launching.{clock_agent}
use Rattle.call_fates.specs.Calls.{Call}
use Rattle.call_fates.specs.Fates.{made, taken}
use Rattle.call_fates.specs.Laws.{IsCounted}
use Rattle.call_fates.specs.Reached.{IsOpening}
use Rattle.call_fates.specs.Drained.{HasRest}
use Rattle.schedule_core.specs.declared.action.Action.{Action}
use Rattle.schedule_core.specs.Turns.{Turns, AreEmpty, AreOpening}
use Rattle.schedule_core.specs.Levels.{Levels, IsTwo}
use Rattle.schedule_core.specs.Steps.{Runs}

-- no two hands have one service
pub record AreApart (t : Turns) : Type 0 where
  pub each : (i j : ℕ) (h : Handle) → slice_get t.hands i ≡ Some (Some h) → slice_get t.hands j ≡ Some (Some h) → i ≡ j

-- what steps lead to, by which these agents acted
pub record IsRun {S : Type 0} (way : Way S) (c : Levels S) (who : List Handle) (c2 : Levels S) : Type 0 where
  -- the two levels still fit
  pub two : IsTwo way c2
  -- the world is that of the one-thread machine after these agents acted
  pub same : after way who c.world ≡ Some c2.world
  pub apart : AreApart c2.turns

-- of every list of steps of every number of workers, from every state in which the two levels fit
abbrev pub StepsKeepTwo : {S : Type 0} → Way S → Type 0
StepsKeepTwo {S} way = (all : List Action) (c c2 : Levels S) (who : List Handle) → IsTwo way c → Runs way all c who c2 → IsRun way c who c2

-- no turn waits in the queue or is in a hand, agent 0 has no action, and no timer waits or the clock may still go on
pub record IsQuiet {S : Type 0} (way : Way S) (c : Levels S) : Type 0 where
  pub queue : c.turns.queue ≡ []
  pub hands : AreEmpty c.turns.hands
  pub clock : act way c.world clock_agent ≡ None
  pub early : (c.world.clock.timers ≡ []) ⊎ (c.world.clock.now < last_tick)

-- then there is nothing to do for anyone
abbrev pub QuietIsDrained : {S : Type 0} → Way S → Type 0
QuietIsDrained {S} way = (c : Levels S) → IsTwo way c → IsQuiet way c → IsDrained way c.world

-- A CALL, WHATEVER THE ORDER OF THE STEPS

-- the levels before the first act
pub record AreFirst {S : Type 0} (way : Way S) (sound : S → Type 0) (c : Levels S) : Type 0 where
  pub world : IsOpening way sound c.world
  pub turns : AreOpening c.turns

-- it was made once at most, has exactly one fate, is answered once at most; and in a quiet state it has come to rest
pub record IsSettled {S : Type 0} (way : Way S) (call : Call) (who : List Handle) (c c2 : Levels S) : Type 0 where
  pub counted : IsCounted way call who c.world c2.world
  pub once : taken way call who c.world ≤ 1
  pub rests : IsQuiet way c2 → 0 < made way call who c.world → HasRest way call who c.world c2.world

abbrev pub CallsAreSettled : {S : Type 0} → Way S → (S → Type 0) → Type 0
CallsAreSettled {S} way sound = (call : Call) (all : List Action) (c c2 : Levels S) (who : List Handle) → AreFirst way sound c → Runs way all c who c2 → IsSettled way call who c c2
