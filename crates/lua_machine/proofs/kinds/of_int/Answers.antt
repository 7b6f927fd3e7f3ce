use Rattle.std.proofs.Common.{ℤ, sym, ap, ap₂, ◌∙◌, w32}
use Rattle.std.proofs.lemmas.Int.{to_z-of_z}
use Rattle.lua_value.specs.declared.value.Value.TheVariants as value
use Rattle.lua_model.specs.Answer.{Answer}
use Rattle.lua_model.specs.Operators.{binary}
use Rattle.lua_steps.specs.Moves.{answered}
use Rattle.lua_steps.specs.Exec.{line}
use Rattle.lua_machine.specs.Quick.{in_hand}
use Rattle.lua_machine.proofs.QuickLemmas.{value_after}
use Rattle.lua_machine.proofs.kinds.of_int.Goals as goal

pub returns-clause-ok : goal.returns-clause-ok
returns-clause-ok c =
    let row = c.args.row.now in
    let imm = c.short-v.ensures ∙ ap (λ (n : ℤ). value.Int n) (to_z-of_z w32 c.args.right c.ranges.right) in
    record {
      is = λ code g cells.
          let x = in_hand g row cells c.args.pace in
          let texts = g.machine.aside.heap.texts in
          c.requires.op.is code x
          ∙ ap (λ (a : Answer). answered a c.args.to (line code x) x)
          (ap₂ (binary texts c.args.o) (value_after g.before row c.args.left ∙ sym c.slot-u.ensures) (sym imm) ∙ c.in-Some.ensures.is texts)
          ∙ c.gives.ensures.gives.is g cells;
    }
