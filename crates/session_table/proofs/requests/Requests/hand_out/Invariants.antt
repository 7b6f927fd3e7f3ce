use Rattle.std.proofs.Common.{◌≡◌, ◌+◌, ◌≤◌, ◌++◌, length, map, vec_len, vec_capacity}
use Rattle.session_table.proofs.requests.Requests.hand_out.Given as goal

abbrev pub invariant-requests : goal.invariant-requests
invariant-requests l = record {
  next : l.self-inside.next ≡ l.initial.self-inside.next;
  held : l.self-inside.room.items ++ map (λ e. e.1) l.self-inside.taken.entries ≡ map (λ e. e.1) l.initial.self-inside.taken.entries;
  room : vec_len l.self-inside.room + length l.self-inside.taken.entries ≤ vec_capacity l.self-inside.room;
}

abbrev pub decreases-requests : goal.decreases-requests
decreases-requests l = length l.self-inside.taken.entries
