use Rattle.std.proofs.Common.{List, ◌++◌, sym, ap, ◌∙◌}
use Rattle.lua_value.specs.declared.value.Value.{Value}
use Rattle.lua_steps.specs.Machine.{On}
use Rattle.lua_steps.specs.Moves.{at_next}
use Rattle.lua_machine.specs.Quick.{in_hand}
use Rattle.lua_machine.proofs.QuickLemmas.{set_after}
use Rattle.lua_machine.proofs.slots.gives.Goals as goal

pub returns-clause-gives : goal.returns-clause-gives
returns-clause-gives c =
    record {
      is = λ g cells.
          let m = in_hand g c.args.row.now cells c.args.pace in
          ap (λ (r : List Value). On (record m { row = r; top = at_next m.top })) (set_after g.before c.args.row.now c.args.to c.args.value ∙ ap (λ (r : List Value). g.before ++ r) (sym c.put.ensures));
    }
