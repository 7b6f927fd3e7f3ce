use Rattle.std.proofs.Common.{◌≡◌, ◌+◌, ◌++◌, map, take, vec_len, vec_capacity}
use Rattle.stamp_order.specs.Merged.{key}
use Rattle.stamp_order.proofs.merging.add_keys.Given as goal

abbrev pub invariant-loop-entry : goal.invariant-loop-entry
invariant-loop-entry l = (l.keys.items ≡ l.fn.keys.items ++ map key (take l.entry-index l.entries)) × (vec_len l.keys ≡ vec_len l.fn.keys + l.entry-index) × (vec_capacity l.keys ≡ vec_capacity l.fn.keys)
