use Rattle.std.proofs.Common.{sym, ap, ◌∙◌}
use Rattle.lua_value.specs.declared.value.Value.{Value}
use Rattle.lua_code.specs.declared.op.Op.{Op}
use Rattle.lua_steps.specs.Moves.{gives}
use Rattle.lua_steps.specs.Exec.{perform}
use Rattle.lua_machine.specs.Quick.{in_hand}
use Rattle.lua_machine.proofs.QuickLemmas.{value_after}
use Rattle.lua_machine.proofs.kinds.moves.Goals as goal

pub returns-clause-ok : goal.returns-clause-ok
returns-clause-ok c =
    let row = c.args.row.now in
    record {
      is = λ code g cells.
          let x = in_hand g row cells c.args.pace in
          ap (λ (o : Op). perform code o x) c.requires.op
          ∙ ap (λ (v : Value). gives c.args.to v x) (value_after g.before row c.args.from ∙ sym c.slot-value.ensures)
          ∙ c.gives.ensures.gives.is g cells;
    }
