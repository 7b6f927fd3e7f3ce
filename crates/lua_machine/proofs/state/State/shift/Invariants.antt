use Rattle.std.proofs.Common.{◌≡◌, ◌+◌, ◌-◌}
use Rattle.lua_value.specs.Lists.{adjusted}
use Rattle.lua_steps.specs.Moves.{written, values_from}
use Rattle.lua_machine.proofs.state.State.shift.Given as goal

abbrev pub invariant-values : goal.invariant-values
invariant-values l = record {
  kept : l.self ≡ record l.fn.self { row = l.self.row };
  row : written l.self.row (l.to + l.i) (adjusted (l.count - l.i) (values_from l.self.row (l.span.from + l.i) (l.span.count - l.i))) ≡ written l.fn.self.row l.to (adjusted l.count (values_from l.fn.self.row l.span.from l.span.count));
}
