use Rattle.std.proofs.Common.{◌∙◌}
use Rattle.lua_machine.specs.Quick.{in_hand}
use Rattle.lua_machine.proofs.kinds.given.Goals as goal

pub returns-clause-ok : goal.returns-clause-ok
returns-clause-ok c =
    record {
      is = λ code g cells. c.requires.op.is code (in_hand g c.args.row.now cells c.args.pace) ∙ c.gives.ensures.gives.is g cells;
    }
