use Rattle.std.proofs.Common.{◌≡◌, ◌+◌, ◌-◌, List, refl, sym, ap, ◌∙◌}
use Rattle.lua_value.specs.declared.value.Value.{Value}
use Rattle.lua_value.specs.Lists.{adjusted}
use Rattle.lua_steps.specs.Machine.{Machine}
use Rattle.lua_steps.specs.Moves.{written, values_from}
use Rattle.std.specs.Prelude.{slice_set}
use Rattle.lua_machine.proofs.InPlaceLemmas.{moved_none, moved_next}
use Rattle.lua_machine.proofs.state.State.shift.Goals as goal

pub values-init : goal.values-init
values-init c = record {
  kept = refl;
  row = moved_none c.standing-i.result c.args.count c.args.span.count c.args.span.from c.args.to c.args.self.now.row c.standing-i.ensures.within c.standing-i.ensures.there;
}

pub values-preserved : goal.values-preserved
values-preserved c =
    let m = c.args.self.now in
    let row = c.values.self.row in
    let s = c.args.span.from in
    let t = c.args.to in
    let n = c.args.span.count in
    let p = c.args.count in
    let i = c.values.i in
    let put = slice_set row (t + i) c.value_in.result in
    let here : c.set_row.new.self.row ≡ put = ap (λ (x : Machine). x.row) c.set_row.ensures in
    record {
      kept = c.set_row.ensures ∙ ap (λ (x : Machine). record x { row = put }) c.values.invariant.kept ∙ ap (λ (r : List Value). record m { row = r }) (sym here);
      row = ap (λ (r : List Value). written r (t + (i + 1)) (adjusted (p - (i + 1)) (values_from r (s + (i + 1)) (n - (i + 1))))) here ∙ moved_next row (written m.row t (adjusted p (values_from m.row s n))) c.value_in.result s t n p i c.values-test.true c.requires.apart c.value_in.ensures c.values.invariant.row;
    }
