use Rattle.std.proofs.Common.{◌≡◌, map, take}
use Rattle.lua_steps.specs.Exec.{captured}
use Rattle.lua_machine.proofs.cells.taken.Given as goal

abbrev pub invariant-captures : goal.invariant-captures
invariant-captures l = l.cells.items ≡ map (captured l.frame) (take l.capture-index l.captures)
