use Rattle.std.proofs.Common.{◌≡◌, take, length}
use Rattle.message.proofs.datum.+same.Given as goal

abbrev pub invariant-same_pairs-loop-i : goal.invariant-same_pairs-loop-i
invariant-same_pairs-loop-i l = (length l.a ≡ length l.b) × (take l.i l.a ≡ take l.i l.b)
