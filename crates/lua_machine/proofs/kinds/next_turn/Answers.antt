use Rattle.std.proofs.Common.{rules, ◌≡◌, ℕ, ◌+◌, ℤ, sym, ap, ◌∙◌, w64, to_z, of_z}
use Rattle.lua_value.specs.declared.value.Value.{Value}
use Rattle.lua_value.specs.declared.value.Value.TheVariants as value
use Rattle.lua_steps.specs.Moves.{slot}
use Rattle.lua_steps.specs.Loops.{next_turn, numeric_next}
use Rattle.lua_machine.specs.Quick.{in_hand}
use Rattle.lua_machine.proofs.QuickLemmas.{value_after, some_map}
use Rattle.lua_machine.proofs.kinds.next_turn.Goals as goal

pub returns-clause-ok : goal.returns-clause-ok
returns-clause-ok c =
    let row = c.args.row.now in
    let base = c.args.base in
    let ints = c.in-Int-Int-Int in
    let turns : of_z w64 ints.left ≡ c.cast_unsigned-turns.result = search rules in
    let at : ints.value ≡ to_z w64 (of_z w64 ints.value) = search rules in
    let step : ints.step ≡ to_z w64 (of_z w64 ints.step) = search rules in
    some_map c.turn_by.result _ _ (λ p h. record {
      is = λ code g cells.
          let x = in_hand g row cells c.args.pace in
          ap (λ (u : Value). numeric_next u (slot x (base + 1)) (slot x (base + 2)) c.args.pay base c.args.to.now x) (value_after g.before row base ∙ sym c.slot.ensures ∙ ints.is-0)
          ∙ ap (λ (v : Value). numeric_next (value.Int ints.left) v (slot x (base + 2)) c.args.pay base c.args.to.now x) (value_after g.before row (base + 1) ∙ sym c.slot_after.ensures ∙ ints.is-1)
          ∙ ap (λ (w : Value). numeric_next (value.Int ints.left) (value.Int ints.value) w c.args.pay base c.args.to.now x) (value_after g.before row (base + 2) ∙ sym c.slot_after-2.ensures ∙ ints.is-2)
          ∙ ap (λ (n : ℕ). next_turn n ints.value ints.step c.args.pay base c.args.to.now x) turns
          ∙ ap (λ (z : ℤ). next_turn c.cast_unsigned-turns.result z ints.step c.args.pay base c.args.to.now x) at
          ∙ ap (λ (z : ℤ). next_turn c.cast_unsigned-turns.result (to_z w64 (of_z w64 ints.value)) z c.args.pay base c.args.to.now x) step
          ∙ h.is g cells;
    }) c.turn_by.ensures.ok
