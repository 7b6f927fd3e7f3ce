use Rattle.std.proofs.Common.{◌≡◌, ◌+◌, ◌-◌, ◌++◌}
use Rattle.lua_steps.specs.Moves.{values_from}
use Rattle.lua_machine.proofs.state.push_span.Given as goal

abbrev pub invariant-values : goal.invariant-values
invariant-values l = l.list ++ values_from l.row (l.span.from + l.i) (l.span.count - l.i) ≡ l.fn.list ++ values_from l.row l.span.from l.span.count
