-- The laws of calls: no session is answered twice (session_id_coroutine in skynet.lua).
use Rattle.std.specs.Prelude.{◌≡◌, ◌≤◌, List, Some, []}
use Rattle.message.specs.Actors.{Way}
use Rattle.message.specs.Worlds.{World, after}
use Rattle.sk_types.specs.declared.number.Handle.{Handle}
use Rattle.call_fates.specs.Calls.{Call}
use Rattle.call_fates.specs.Fates.{fates, all_fates, made, taken, answered, failed, void}
use Rattle.call_fates.specs.Table.{Table, state_at, call_of, call_to, names}
use Rattle.call_fates.specs.Kept.{IsKept, FollowsAll, in_state, is_answered, is_failed, is_void, only}
use Rattle.call_fates.specs.declared.calls.CallKey.{CallKey}
use Rattle.call_fates.specs.declared.calls.CallState.{CallState}
use Rattle.call_fates.specs.Reached.{IsOpening}

-- what holds of each call after the journal hs, which leads from w to w2
pub record IsCounted {S : Type 0} (way : Way S) (c : Call) (hs : List Handle) (w w2 : World S) : Type 0 where
  -- it was made once at most: no session of a caller is used twice
  pub once : made way c hs w ≤ 1
  -- and if it was made it has exactly one of the six fates
  pub one_fate : all_fates (fates way c hs w w2) ≡ made way c hs w

-- after each journal from an opening world each call has exactly one fate
abbrev pub EachHasOneFate : {S : Type 0} → Way S → (S → Type 0) → Type 0
EachHasOneFate {S} way sound = (c : Call) (hs : List Handle) (w w2 : World S) → IsOpening way sound w → after way hs w ≡ Some w2 → IsCounted way c hs w w2

-- and its caller has taken at most one reply
abbrev pub EachTakenOnce : {S : Type 0} → Way S → (S → Type 0) → Type 0
EachTakenOnce {S} way sound = (c : Call) (hs : List Handle) (w w2 : World S) → IsOpening way sound w → after way hs w ≡ Some w2 → taken way c hs w ≤ 1

-- the list of calls tells each call's fate: in the world, and of those that are settled in the journal
pub record TableTells {S : Type 0} (way : Way S) (sound : S → Type 0) (hs : List Handle) (w w2 : World S) (all : Table) : Type 0 where
  pub kept : IsKept way sound w2 all
  pub answers : (q : CallKey) → in_state is_answered (state_at all q) ≡ answered way (call_of q) hs w
  pub fails : (q : CallKey) → in_state is_failed (state_at all q) ≡ failed way (call_of q) hs w
  pub voids : (q : CallKey) → in_state is_void (state_at all q) ≡ void way (call_of q) hs w
  -- each call was made to the callee that the list names, and to no other; and with that callee it has the fate of the list
  pub callees : (q : CallKey) (d : Handle) → made way (call_to q d) hs w ≡ names d (state_at all q)
  pub with_callee : (q : CallKey) (s : CallState) → state_at all q ≡ Some s → fates way (call_to q s.callee) hs w w2 ≡ only s.fate

-- a list that was empty in the opening world and has followed each act tells the fates
abbrev pub TableIsTrue : {S : Type 0} → Way S → (S → Type 0) → Type 0
TableIsTrue {S} way sound = (hs : List Handle) (w w2 : World S) (all : Table) → IsOpening way sound w → after way hs w ≡ Some w2 → FollowsAll way hs w [] all → TableTells way sound hs w w2 all
