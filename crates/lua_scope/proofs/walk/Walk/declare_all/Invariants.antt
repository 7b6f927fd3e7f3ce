use Rattle.std.proofs.Common.{◌≡◌, drop}
use Rattle.lua_scope.specs.Scope.{all_declared}
use Rattle.lua_scope.proofs.walk.Walk.declare_all.Given as goal

abbrev pub invariant-loop-x : goal.invariant-loop-x
invariant-loop-x l = all_declared (drop l.x-index l.xs) l.self ≡ all_declared l.xs l.fn.self
