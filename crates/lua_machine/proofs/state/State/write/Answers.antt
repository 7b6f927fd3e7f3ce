use Rattle.std.proofs.Common.{◌≡◌, ◌+◌, ◌-◌, List, drop, sym, ap, ◌∙◌}
use Rattle.std.specs.Prelude.{slice_set}
use Rattle.lua_value.specs.declared.value.Value.{Value}
use Rattle.lua_value.specs.Lists.{value_at, adjusted}
use Rattle.lua_steps.specs.Machine.{Machine}
use Rattle.lua_steps.specs.Moves.{written}
use Rattle.lua_machine.proofs.RowLemmas.{written_next}
use Rattle.lua_machine.proofs.state.State.write.Goals as goal

pub values-preserved : goal.values-preserved
values-preserved c =
    let m = c.args.self.now in
    let row = c.values.self.row in
    let vs = c.args.values.now in
    let s = c.args.place in
    let n = c.args.count in
    let i = c.values.i in
    let put = slice_set row (s + i) c.value_at.result in
    let here : c.set_row.new.self.row ≡ slice_set row (s + i) (value_at vs i) = ap (λ (t : Machine). t.row) c.set_row.ensures ∙ ap (λ (v : Value). slice_set row (s + i) v) c.value_at.ensures in
    record {
      kept = c.set_row.ensures ∙ ap (λ (t : Machine). record t { row = put }) c.values.invariant.kept ∙ ap (λ (r : List Value). record m { row = r }) (sym (ap (λ (t : Machine). t.row) c.set_row.ensures));
      row = ap (λ (r : List Value). written r (s + (i + 1)) (adjusted (n - (i + 1)) (drop (i + 1) vs))) here ∙ written_next row (written m.row s (adjusted n vs)) vs s n i c.values-test.true c.values.invariant.row;
    }
