use Rattle.std.proofs.Common.{◌∙◌, sym, ap, set}
use Rattle.std.specs.Prelude.{slice_index_or}
use Rattle.std.specs.List.{position}
use Rattle.launcher.specs.declared.desk.Taken.{Taken}
use Rattle.launcher.specs.declared.desk.Role.TheVariants.{Pending}
use Rattle.launcher.specs.Rows.{is_served}
use Rattle.launcher.proofs.Firsts.{at_first_same, set_at_first, place_is}
use Rattle.launcher.proofs.requests.pend_served.Goals as goal

pub returns-in-None-clause-pends : goal.returns-in-None-clause-pends
returns-in-None-clause-pends c =
    let here = sym (ap (position is_served) c.deref.ensures.value) ∙ sym c.place_of_served.ensures ∙ c.in-None.is in
    sym (at_first_same is_served _ c.args.taken.now.items here)

pub returns-in-Some-clause-pends : goal.returns-in-Some-clause-pends
returns-in-Some-clause-pends c =
    let xs = c.args.taken.now.items in
    let here = sym (ap (position is_served) c.deref.ensures.value) ∙ sym c.place_of_served.ensures ∙ c.in-Some.is in
    let s = place_is is_served xs c.in-Some.at here in
    let change : Taken → Taken = λ t. record { role = Pending c.args.handle; held = t.held } in
    ap (λ i. set xs i (change c.index.result.now)) (sym s.0) ∙ set_at_first is_served change xs (change c.index.result.now) c.index.result.now s.1 (ap change c.index.ensures ∙ ap (λ i. change (slice_index_or xs i c.index.result.now)) (sym s.0))
