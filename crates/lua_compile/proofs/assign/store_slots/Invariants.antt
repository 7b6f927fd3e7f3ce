use Rattle.std.proofs.Common.{◌≡◌, ◌≤◌, take, length, []}
use Rattle.lua_steps.specs.Stand.{from_slots}
use Rattle.lua_compile.specs.Forms.{stores_written}
use Rattle.lua_compile.proofs.assign.store_slots.Given as goal

abbrev pub invariant-loop-left : goal.invariant-loop-left
invariant-loop-left l =
    (l.left ≤ length l.names)
    × (stores_written (from_slots (take l.left l.names) l.first []) l.scope.free l.scope.names l.w ≡ stores_written (from_slots l.names l.first []) l.scope.free l.scope.names l.fn.w)

abbrev pub decreases-loop-left : goal.decreases-loop-left
decreases-loop-left l = l.left
