use Rattle.std.proofs.Common.{◌≡◌, ◌+◌, ◌-◌, drop}
use Rattle.lua_value.specs.Lists.{adjusted}
use Rattle.lua_steps.specs.Moves.{written}
use Rattle.lua_machine.proofs.state.State.write.Given as goal

abbrev pub invariant-values : goal.invariant-values
invariant-values l = record {
  kept : l.self ≡ record l.fn.self { row = l.self.row };
  row : written l.self.row (l.place + l.i) (adjusted (l.count - l.i) (drop l.i l.values)) ≡ written l.fn.self.row l.place (adjusted l.count l.values);
}
