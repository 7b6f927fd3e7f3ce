use Rattle.std.proofs.Common.{◌≡◌, ◌≤◌, ◌+◌, ◌++◌, length, drop, vec_len, vec_capacity}
use Rattle.launcher.specs.Rows.{held}
use Rattle.launcher.proofs.requests.fill.Given as goal

abbrev pub invariant-loop-one : goal.invariant-loop-one
invariant-loop-one l = record {
  held : l.room.items ++ held (drop l.one-index l.others) ≡ l.fn.room.items ++ held l.others;
  room : vec_len l.room + length (drop l.one-index l.others) ≤ vec_capacity l.room;
}
