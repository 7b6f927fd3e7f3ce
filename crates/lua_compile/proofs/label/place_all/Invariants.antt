use Rattle.std.proofs.Common.{◌≡◌, ◌++◌, take, drop, map}
use Rattle.lua_compile.specs.Writer.{placed}
use Rattle.lua_compile.proofs.label.place_all.Given as goal

abbrev pub invariant-loop-at : goal.invariant-loop-at
invariant-loop-at l = l.function ≡ record l.fn.function { ops = map (placed l.labels) (take l.at l.fn.function.ops) ++ drop l.at l.fn.function.ops }
