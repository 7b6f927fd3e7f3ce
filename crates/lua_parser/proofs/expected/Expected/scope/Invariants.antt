use Rattle.std.proofs.Common.{◌≡◌, ◌≤◌, length, take, reverse}
use Rattle.lua_grammar.specs.Faults.{scope_of}
use Rattle.lua_parser.proofs.expected.Expected.scope.Given as goal

abbrev pub invariant-loop-at : goal.invariant-loop-at
invariant-loop-at l = (l.at ≤ length l.self-inside.symbols.items) × (scope_of (reverse (take l.at l.self-inside.symbols.items)) ≡ scope_of l.self)

abbrev pub decreases-loop-at : goal.decreases-loop-at
decreases-loop-at l = l.at
