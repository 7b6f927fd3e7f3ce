use Rattle.std.proofs.Common.{◌≡◌, ◌+◌, ◌-◌, List, [], ◌∷◌, ◌++◌, ap, ◌∙◌}
use Rattle.lua_value.specs.declared.value.Value.{Value}
use Rattle.lua_value.specs.Lists.{value_at}
use Rattle.lua_steps.specs.Moves.{values_from}
use Rattle.lua_machine.proofs.RowLemmas.{from_more}
use Rattle.lua_machine.proofs.state.push_span.Goals as goal

pub values-preserved : goal.values-preserved
values-preserved c =
    let row = c.args.row.now in
    let s = c.args.span.from in
    let n = c.args.span.count in
    let i = c.values.i in
    let more : c.push.new.self ≡ c.values.list ++ value_at row (s + i) ∷ [] = c.in_ok-push.ensures.ok ∙ ap (λ (v : Value). c.values.list ++ v ∷ []) c.value_at.ensures in
    ap (λ (xs : List Value). xs ++ values_from row (s + (i + 1)) (n - (i + 1))) more ∙ from_more row c.values.list (c.args.list.now ++ values_from row s n) s n i c.values-test.true c.values.invariant
