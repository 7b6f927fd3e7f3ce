use Rattle.std.proofs.Common.{rules, ◌≡◌, ℤ, ◌-◌, ◌<◌, List, [], ◌∷◌, ◌++◌, sym, ap, ap₂, ◌∙◌, arith, w64, to_z, of_z}
use Rattle.std.proofs.lemmas.Int.{to_z-of_z}
use Rattle.lua_value.specs.declared.value.Value.{Value}
use Rattle.lua_value.specs.declared.value.Value.TheVariants as value
use Rattle.lua_model.specs.Integer as lua
use Rattle.lua_steps.specs.Machine.{Machine, On}
use Rattle.lua_steps.specs.Moves.{jump, written}
use Rattle.lua_steps.specs.Loops.{counted, turn}
use Rattle.lua_machine.specs.declared.pace.Pace.{Pace}
use Rattle.lua_machine.specs.Quick.{in_hand}
use Rattle.lua_machine.proofs.LoopLemmas.{next_some}
use Rattle.lua_machine.proofs.QuickLemmas.{written_after}
use Rattle.lua_machine.proofs.kinds.turn_by.Goals as goal

pub returns-clause-ok : goal.returns-clause-ok
returns-clause-ok c =
    let row = c.args.row.now in
    let n = c.args.left in
    let step = c.args.step in
    let some : 0 < n = omega arith in
    let p : Pace = record { at = c.args.to.now; left = c.in-Some.paid.left } in
    let added : to_z w64 (of_z w64 c.add.result) ≡ c.add.result = search rules in
    let v = ap (λ (a : ℤ). value.Int a) (added ∙ c.add.ensures ∙ ap₂ (λ (a b : ℤ). lua.add a b) (to_z-of_z w64 c.args.at c.ranges.at) (to_z-of_z w64 step c.ranges.step)) in
    let slots = c.put_turn.ensures ∙ ap₂ (λ (a b : Value). written row c.args.base (counted (n - 1) ∷ a ∷ b ∷ a ∷ [])) v c.requires.step in
    let turned = counted (n - 1) ∷ value.Int (lua.add c.args.at step) ∷ value.Int step ∷ value.Int (lua.add c.args.at step) ∷ [] in
    record {
      is = λ g cells.
          let x = in_hand g row cells p in
          next_some n c.args.at step c.args.pay c.args.base c.args.to.now (in_hand g row cells c.args.pace) some
          ∙ c.in-Some.ensures.is g row cells (λ (t : Machine). jump c.args.to.now (turn (n - 1) (lua.add c.args.at step) step c.args.base t))
          ∙ ap (λ (r : List Value). On (record x { row = r })) (written_after g.before row c.args.base turned ∙ ap (λ (r : List Value). g.before ++ r) (sym slots));
    }
