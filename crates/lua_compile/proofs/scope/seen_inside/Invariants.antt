use Rattle.std.proofs.Common.{◌≡◌, ◌++◌, length}
use Rattle.std.specs.Prelude.{reverse}
use Rattle.lua_compile.specs.Writer.{seen_inside}
use Rattle.lua_compile.proofs.scope.seen_inside.Given as goal

abbrev pub invariant-loop-n : goal.invariant-loop-n
invariant-loop-n l = l.seen.items ++ seen_inside l.up (reverse l.outer) ≡ seen_inside 0 (reverse l.names)

abbrev pub decreases-loop-n : goal.decreases-loop-n
decreases-loop-n l = length l.outer
