use Rattle.std.proofs.Common.{◌≡◌, ◌≤◌, ◌+◌, ◌++◌, length, vec_len, vec_capacity}
use Rattle.launcher.specs.Rows.{held}
use Rattle.launcher.specs.Listed.{pending_in}
use Rattle.launcher.proofs.requests.fill_pending.Given as goal

abbrev pub invariant-loop-handle : goal.invariant-loop-handle
invariant-loop-handle l = record {
  held : l.room.items ++ held (pending_in l._handle-iterator) ≡ held (pending_in l.pending.entries);
  room : vec_len l.room + length l._handle-iterator ≤ vec_capacity l.room;
  capacity : vec_capacity l.room ≡ vec_capacity l.fn.room;
}
