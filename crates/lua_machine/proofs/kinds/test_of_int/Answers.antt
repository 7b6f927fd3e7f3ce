use Rattle.std.proofs.Common.{ℤ, Bool, sym, ap, ap₂, ◌∙◌, w8}
use Rattle.std.proofs.lemmas.Int.{to_z-of_z}
use Rattle.lua_value.specs.declared.value.Value.TheVariants as value
use Rattle.lua_model.specs.Answer.{Answer}
use Rattle.lua_model.specs.Operators.{binary}
use Rattle.lua_steps.specs.Exec.{line, chosen, unless}
use Rattle.lua_machine.specs.Quick.{in_hand}
use Rattle.lua_machine.proofs.QuickLemmas.{value_after, some_map}
use Rattle.lua_machine.proofs.kinds.test_of_int.Goals as goal

pub returns-clause-ok : goal.returns-clause-ok
returns-clause-ok c =
    let row = c.args.row.now in
    let imm = c.tiny-v.ensures ∙ ap (λ (n : ℤ). value.Int n) (to_z-of_z w8 c.args.right c.ranges.right) in
    some_map c.chooses.result _ _ (λ p h. record {
      is = λ code g cells.
          let x = in_hand g row cells c.args.pace in
          let texts = g.machine.aside.heap.texts in
          c.requires.op.is code x
          ∙ ap (λ (a : Answer). unless a (line code x) c.args.pay c.args.to.now x)
          (ap₂ (binary texts c.args.o) (value_after g.before row c.args.left ∙ sym c.slot-u.ensures) (sym imm) ∙ c.in-Some.ensures.is texts)
          ∙ ap (λ (b : Bool). chosen b c.args.pay c.args.to.now x) (sym c.is_true.ensures)
          ∙ h.is g row cells;
    }) c.chooses.ensures.ok
