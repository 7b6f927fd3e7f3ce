use Rattle.std.proofs.Common.{◌≡◌, ◌++◌, ◌≤◌, length, drop}
use Rattle.lua_parser.proofs.expected.Expected.put.Given as goal

abbrev pub invariant-loop-at : goal.invariant-loop-at
invariant-loop-at l = (l.at ≤ length l.symbols) × (l.self ≡ drop l.at l.symbols ++ l.fn.self)

abbrev pub decreases-loop-at : goal.decreases-loop-at
decreases-loop-at l = l.at
