-- Calls in a world that has drained: in which no agent has an action, and no timer waits or is due. That a run drains is this
-- project's own; skynet runs until it is told to end.
use Rattle.std.specs.Prelude.{◌≡◌, ◌<◌, ◌⊎◌, true, List, [], Some, Contains}
use Rattle.message.specs.Actors.{Way}
use Rattle.message.specs.Registries.{at}
use Rattle.message.specs.Worlds.{World, IsDrained, after}
use Rattle.sk_types.specs.declared.number.Handle.{Handle}
use Rattle.message.specs.declared.place.Ending.{Ending}
use Rattle.message.specs.declared.place.Service.TheVariants.{Serving, Leaving}
use Rattle.call_fates.specs.Calls.{Call, is_callee, held}
use Rattle.call_fates.specs.Fates.{made, taken, void}
use Rattle.call_fates.specs.Reached.{IsOpening}

-- the service of handle h has ended, and has told each of those who waited for it
pub record IsOver {S : Type 0} (w : World S) (h : Handle) : Type 0 where
  pub ending : Ending
  pub ended : at w.services h.0 ≡ Some (Leaving ending)
  pub told : ending.bounces ≡ []

-- the callee holds the request, and has not ended
pub record IsHeld {S : Type 0} (way : Way S) (c : Call) (w : World S) : Type 0 where
  pub once : held way c w ≡ 1
  pub callee : Handle
  pub called : is_callee c.callee callee.0 ≡ true
  pub state : S
  pub serves : at w.services callee.0 ≡ Some (Serving state)
  pub holds : Contains (way.held state) (record { source = c.caller; session = c.session })

-- the reply has no receiver, for the caller is over
pub record IsLost {S : Type 0} (way : Way S) (c : Call) (hs : List Handle) (w w2 : World S) : Type 0 where
  pub once : void way c hs w ≡ 1
  pub caller : IsOver w2 c.caller

-- The caller has taken exactly one reply, a Response or an Error; or the callee holds the request; or the caller is over.
abbrev pub HasRest : {S : Type 0} → Way S → Call → List Handle → World S → World S → Type 0
HasRest way c hs w w2 = (taken way c hs w ≡ 1) ⊎ IsHeld way c w2 ⊎ IsLost way c hs w w2

-- in each drained world that a journal reaches from an opening world, each call that was made has come to rest
abbrev pub EachComesToRest : {S : Type 0} → Way S → (S → Type 0) → Type 0
EachComesToRest {S} way sound = (c : Call) (hs : List Handle) (w w2 : World S) → IsOpening way sound w → after way hs w ≡ Some w2 → IsDrained way w2 → 0 < made way c hs w → HasRest way c hs w w2
