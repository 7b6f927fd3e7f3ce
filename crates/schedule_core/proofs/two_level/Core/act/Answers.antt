use Rattle.std.proofs.Common.{◌≡◌, Some, false, slice_get, ap, sym, ◌∙◌, inr}
use Rattle.std.proofs.lemmas.Bool.{OnFalse_at}
use Rattle.schedule_core.specs.Cores.{Scheduled}
use Rattle.schedule_core.proofs.Placed.{held_is}
use Rattle.schedule_core.proofs.Stepping.{act_steps, if_ok}
use Rattle.schedule_core.proofs.two_level.Core.act.Goals as goal

pub moves-requires-clause-may : goal.moves-requires-clause-may
moves-requires-clause-may g c =
    let whole : c.self.inside.world.spent ≡ false = ap (λ (s : Scheduled g.row.A.Denot). s.run.spent) c.self.view_is ∙ c.requires in
    let fit = OnFalse_at whole c.self.invariant in
    rw (← c.self.view_is) (inr (held_is c.self.inside.turns.turns c.args.worker c.in-Some.own fit.turns.placed c.in-Some.ensures.some))

pub returns-in-Some-clause-done : goal.returns-in-Some-clause-done
returns-in-Some-clause-done g c =
    let has : slice_get c.args.self.now.turns.hands c.args.worker ≡ Some (Some c.in-Some.own) = ap (λ (s : Scheduled g.row.A.Denot). slice_get s.turns.hands c.args.worker) (sym c.self.view_is) ∙ c.in-Some.ensures.some in
    if_ok c.moves.result _ _ (λ r m. act_steps g.A.Actor.way g.A.Actor.meaning c.args.self.now c.moves.new.self c.args.worker c.in-Some.own r has m) c.moves.ensures.done
