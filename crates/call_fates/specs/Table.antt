-- The list of calls with their fates. It is this project's own.
use Rattle.std.specs.Prelude.{ℕ, ◌≡◌, ◌==◌, Bool, List, Option, Some, None, cond}
use Rattle.std.specs.declared.cmp.Ordering.{Ordering}
use Rattle.std.specs.Ordering.{nat_cmp, ordering_then}
use Rattle.std.specs.Map.{lookup, remove_entry}
use Rattle.std.specs.BTreeMap.{is_at, insert_entry}
use Rattle.sk_types.specs.declared.number.Handle.{Handle}
use Rattle.call_fates.specs.Calls.{Call, one_if}
use Rattle.call_fates.specs.declared.calls.CallKey.{CallKey}
use Rattle.call_fates.specs.declared.calls.CallState.{CallState}
use Rattle.call_fates.specs.declared.calls.Fate.{Fate}
use Rattle.call_fates.specs.declared.calls.Fate.TheVariants.{Waiting}

abbrev pub Table : Type 0
Table = List (CallKey × CallState)

-- by caller, then by session
abbrev pub key_cmp : CallKey → CallKey → Ordering
key_cmp a b = ordering_then (nat_cmp a.caller.0 b.caller.0) (nat_cmp a.session.0 b.session.0)

-- what has become of the call; None: it was not made
abbrev pub state_at : Table → CallKey → Option CallState
state_at all k = lookup (is_at (key_cmp k)) all

abbrev pub with_fate : Fate → Option CallState → Option CallState
with_fate f None = None
with_fate f (Some s) = Some (record { callee = s.callee; fate = f })

abbrev pub is_key : CallKey → CallKey → Bool
is_key k q = is_at (key_cmp k) q

abbrev pub Adds : Table → CallKey → Handle → Table → Type 0
Adds all k callee all2 = all2 ≡ insert_entry key_cmp all k (record { callee = callee; fate = Waiting })

abbrev pub Takes : Table → CallKey → Table → Type 0
Takes all k all2 = all2 ≡ remove_entry (is_at (key_cmp k)) all

-- the call k has this state; all others stay
pub record Replaces (all : Table) (k : CallKey) (s : CallState) (all2 : Table) : Type 0 where
  pub each : (q : CallKey) → state_at all2 q ≡ cond (is_key k q) (Some s) (state_at all q)

-- the call k has this fate, where it was made; all others stay
pub record Sets (all : Table) (k : CallKey) (f : Fate) (all2 : Table) : Type 0 where
  pub each : (q : CallKey) → state_at all2 q ≡ cond (is_key k q) (with_fate f (state_at all q)) (state_at all q)

-- the call of this key, whoever was called
abbrev pub call_of : CallKey → Call
call_of k = record { caller = k.caller; session = k.session; callee = None }

-- the call of this key to this callee
abbrev pub call_to : CallKey → Handle → Call
call_to k d = record { caller = k.caller; session = k.session; callee = Some d }

-- 1 where the list has the call, and this is whom it names as called
abbrev pub names : Handle → Option CallState → ℕ
names d None = 0
names d (Some s) = one_if (s.callee.0 == d.0)

-- each call that is counted has this fate, where it was made; all others stay
pub record Becomes (f : Fate) (count : Call → ℕ) (all all2 : Table) : Type 0 where
  pub each : (q : CallKey) → state_at all2 q ≡ cond (count (call_of q) == 0) (state_at all q) (with_fate f (state_at all q))
