use Rattle.std.proofs.Common.{◌≡◌, ◌++◌, length}
use Rattle.std.specs.Prelude.{reverse}
use Rattle.lua_compile.specs.Writer.{captures_of}
use Rattle.lua_compile.proofs.scope.add_captures.Given as goal

abbrev pub invariant-loop-n : goal.invariant-loop-n
invariant-loop-n l =
    record l.function { captures = l.function.captures ++ captures_of (reverse l.outer) }
    ≡ record l.fn.function { captures = l.fn.function.captures ++ captures_of (reverse l.names) }

abbrev pub decreases-loop-n : goal.decreases-loop-n
decreases-loop-n l = length l.outer
