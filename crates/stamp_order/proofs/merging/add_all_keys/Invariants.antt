use Rattle.std.proofs.Common.{◌≡◌, ◌+◌, ◌++◌, map, take, vec_len, vec_capacity}
use Rattle.stamp_order.specs.Merged.{key, entries_of, count}
use Rattle.stamp_order.proofs.merging.add_all_keys.Given as goal

abbrev pub invariant-loop-record : goal.invariant-loop-record
invariant-loop-record l = (l.keys.items ≡ l.fn.keys.items ++ map key (entries_of (take l.record-index l.records))) × (vec_len l.keys ≡ vec_len l.fn.keys + count (take l.record-index l.records)) × (vec_capacity l.keys ≡ vec_capacity l.fn.keys)
