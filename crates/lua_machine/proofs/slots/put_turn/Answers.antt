use Rattle.std.proofs.Common.{rules, ◌≡◌, ◌+◌, ℤ, ap, ◌∙◌, w64, to_z, of_z}
use Rattle.std.specs.Prelude.{slice_set, List}
use Rattle.lua_value.specs.declared.value.Value.{Value}
use Rattle.lua_value.specs.declared.value.Value.TheVariants as value
use Rattle.lua_steps.specs.Loops.{counted}
use Rattle.lua_machine.proofs.RowLemmas.{third_stays}
use Rattle.lua_machine.proofs.slots.put_turn.Goals as goal

pub returns : goal.returns
returns c =
    let row = c.args.row.now in
    let base = c.args.base in
    let at : to_z w64 (of_z w64 c.args.at) ≡ c.args.at = search rules in
    let first : c.put_int.new.row ≡ slice_set row base (counted c.args.left) = search rules in
    let second : c.put_int-2.new.row ≡ slice_set (slice_set row base (counted c.args.left)) (base + 1) (value.Int c.args.at) = search rules in
    ap (λ (r : List Value). slice_set r (base + 3) (value.Int (to_z w64 (of_z w64 c.args.at)))) second
    ∙ ap (λ (n : ℤ). slice_set (slice_set (slice_set row base (counted c.args.left)) (base + 1) (value.Int c.args.at)) (base + 3) (value.Int n)) at
    ∙ third_stays row base (counted c.args.left) (value.Int c.args.at) (value.Int c.args.at)
