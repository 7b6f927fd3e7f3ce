use Rattle.std.proofs.Common.{sym, ap, ◌∙◌}
use Rattle.lua_model.specs.Answer.{Answer}
use Rattle.lua_model.specs.Operators.{unary}
use Rattle.lua_code.specs.declared.op.Op.{Op}
use Rattle.lua_steps.specs.Moves.{answered}
use Rattle.lua_steps.specs.Exec.{line, perform}
use Rattle.lua_machine.specs.Quick.{in_hand}
use Rattle.lua_machine.proofs.QuickLemmas.{value_after}
use Rattle.lua_machine.proofs.kinds.of_slot.Goals as goal

pub returns-clause-ok : goal.returns-clause-ok
returns-clause-ok c =
    let row = c.args.row.now in
    record {
      is = λ code g cells.
          let x = in_hand g row cells c.args.pace in
          let texts = g.machine.aside.heap.texts in
          ap (λ (o : Op). perform code o x) c.requires.op
          ∙ ap (λ (a : Answer). answered a c.args.to (line code x) x) (ap (unary texts c.args.o) (value_after g.before row c.args.from ∙ sym c.slot-v.ensures) ∙ c.in-Some.ensures.is texts)
          ∙ c.gives.ensures.gives.is g cells;
    }
