use Rattle.std.proofs.Common.{ap, ◌∙◌}
use Rattle.lua_code.specs.declared.op.Op.{Op}
use Rattle.lua_steps.specs.Machine.{Machine}
use Rattle.lua_steps.specs.Moves.{next}
use Rattle.lua_steps.specs.Exec.{perform}
use Rattle.lua_machine.specs.Quick.{in_hand}
use Rattle.lua_machine.proofs.kinds.pays_on.Goals as goal

pub returns-clause-ok : goal.returns-clause-ok
returns-clause-ok c =
    record {
      is = λ code g cells.
          ap (λ (o : Op). perform code o (in_hand g c.args._row.now cells c.args.pace)) c.requires.op
          ∙ c.in-Some.ensures.is g c.args._row.now cells (λ (t : Machine). next t);
    }
