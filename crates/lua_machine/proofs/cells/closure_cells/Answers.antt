use Rattle.std.proofs.Common.{Option, ap, ◌∙◌}
use Rattle.lua_steps.specs.Machine.{Closure}
use Rattle.lua_machine.specs.Nests.{cells_in}
use Rattle.lua_machine.proofs.cells.closure_cells.Goals as goal

pub returns-in-Some : goal.returns-in-Some
returns-in-Some c = c.cells.ensures ∙ ap (λ (o : Option Closure). cells_in o) c.in-Some.ensures

pub returns-in-None : goal.returns-in-None
returns-in-None c = ap (λ (o : Option Closure). cells_in o) c.in-None.ensures
