use Rattle.std.proofs.Common.{rules, ◌≡◌, Option, Some, ap, ◌∙◌}
use Rattle.lua_value.specs.declared.value.Value.{Value}
use Rattle.lua_value.specs.declared.value.Value.TheVariants as value
use Rattle.lua_code.specs.declared.function.Constant.{Constant}
use Rattle.lua_steps.specs.Moves.{gives}
use Rattle.lua_steps.specs.Exec.{constant_value}
use Rattle.lua_machine.specs.Quick.{in_hand}
use Rattle.lua_machine.proofs.kinds.constant_of.Goals as goal

pub returns-clause-ok : goal.returns-clause-ok
returns-clause-ok c =
    let same : value.Int c.in-Int.n ≡ c.long-value.result = search rules in
    record {
      is = λ g cells.
          let x = in_hand g c.args.row.now cells c.args.pace in
          ap (λ (k : Option Constant). constant_value k c.args.to x) c.constant_there.ensures
          ∙ ap (λ (k : Constant). constant_value (Some k) c.args.to x) c.in-Int.is
          ∙ ap (λ (v : Value). gives c.args.to v x) same
          ∙ c.gives.ensures.gives.is g cells;
    }
