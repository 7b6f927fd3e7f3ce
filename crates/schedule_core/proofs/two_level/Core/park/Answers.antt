use Rattle.std.proofs.Common.{◌≡◌, false, [], Some, ap, sym, ◌∙◌, refl, subst}
use Rattle.std.specs.Option.{option_copied}
use Rattle.std.proofs.lemmas.Bool.{OnFalse_at}
use Rattle.message.specs.Worlds.{over}
use Rattle.schedule_core.specs.Steps.{IsPark}
use Rattle.schedule_core.specs.Cores.{Scheduled}
use Rattle.schedule_core.proofs.Parking.{Parking}
use Rattle.schedule_core.proofs.Stepping.{park_says, fit_parked}
use Rattle.schedule_core.proofs.two_level.Core.park.Goals as goal

pub invariant_of-self : goal.invariant_of-self
invariant_of-self g c =
    let way = g.A.Actor.way in
    let f = g.A.Actor.meaning in
    let w = c.self.inside in
    let whole : w.world.spent ≡ false = ap (λ (s : Scheduled g.row.A.Denot). s.run.spent) c.self.view_is ∙ c.requires in
    let fit = OnFalse_at whole c.self.invariant in
    let says = park_says way (over f w.world.world) w.turns.turns c.args.worker c.in-Some.own c.phase.result (option_copied c.inbox.result) c.parked.result fit.turns.placed c.in-Some.ensures.some c.phase.ensures c.inbox.ensures c.parked.ensures in
    let there = subst (Parking way w.turns.turns c.args.worker c.in-Some.own (over f w.world.world)) (c.in-Some-Home.is ∙ ap Some c.in-Some-Home.field-0-is) says in
    fit_parked way (over f w.world.world) w.turns.turns c.lay.new.self.turns c.args.worker c.in-Some.own w.world.spent c.self.invariant (subst (IsPark way (over f w.world.world) w.turns.turns c.args.worker c.in-Some.own) (sym c.lay.ensures) there)

pub returns-in-Some-Home-clause-done : goal.returns-in-Some-Home-clause-done
returns-in-Some-Home-clause-done g c =
    let way = g.A.Actor.way in
    let f = g.A.Actor.meaning in
    let w = c.self.inside in
    let whole : w.world.spent ≡ false = ap (λ (s : Scheduled g.row.A.Denot). s.run.spent) c.self.view_is ∙ c.requires in
    let fit = OnFalse_at whole c.self.invariant in
    let says = park_says way (over f w.world.world) w.turns.turns c.args.worker c.in-Some.own c.phase.result (option_copied c.inbox.result) c.parked.result fit.turns.placed c.in-Some.ensures.some c.phase.ensures c.inbox.ensures c.parked.ensures in
    let there = subst (Parking way w.turns.turns c.args.worker c.in-Some.own (over f w.world.world)) (c.in-Some-Home.is ∙ ap Some c.in-Some-Home.field-0-is) says in
    rw (← c.self.view_is) ([], (c.in-Some.own, refl, refl, subst (IsPark way (over f w.world.world) w.turns.turns c.args.worker c.in-Some.own) (sym c.lay.ensures) there), refl)

pub invariant_of-self-in-Some-Spent : goal.invariant_of-self-in-Some-Spent
invariant_of-self-in-Some-Spent g c =
    let way = g.A.Actor.way in
    let f = g.A.Actor.meaning in
    let w = c.self.inside in
    let whole : w.world.spent ≡ false = ap (λ (s : Scheduled g.row.A.Denot). s.run.spent) c.self.view_is ∙ c.requires in
    let fit = OnFalse_at whole c.self.invariant in
    let says = park_says way (over f w.world.world) w.turns.turns c.args.worker c.in-Some.own c.phase.result (option_copied c.inbox.result) c.parked.result fit.turns.placed c.in-Some.ensures.some c.phase.ensures c.inbox.ensures c.parked.ensures in
    let there = subst (Parking way w.turns.turns c.args.worker c.in-Some.own (over f w.world.world)) (c.in-Some-Spent.is ∙ ap Some c.in-Some-Spent.field-0-is) says in
    fit_parked way (over f w.world.world) w.turns.turns c.lay-in-Some-Spent.new.self.turns c.args.worker c.in-Some.own w.world.spent c.self.invariant (subst (IsPark way (over f w.world.world) w.turns.turns c.args.worker c.in-Some.own) (sym c.lay-in-Some-Spent.ensures) there)

pub returns-in-Some-Spent-clause-done : goal.returns-in-Some-Spent-clause-done
returns-in-Some-Spent-clause-done g c =
    let way = g.A.Actor.way in
    let f = g.A.Actor.meaning in
    let w = c.self.inside in
    let whole : w.world.spent ≡ false = ap (λ (s : Scheduled g.row.A.Denot). s.run.spent) c.self.view_is ∙ c.requires in
    let fit = OnFalse_at whole c.self.invariant in
    let says = park_says way (over f w.world.world) w.turns.turns c.args.worker c.in-Some.own c.phase.result (option_copied c.inbox.result) c.parked.result fit.turns.placed c.in-Some.ensures.some c.phase.ensures c.inbox.ensures c.parked.ensures in
    let there = subst (Parking way w.turns.turns c.args.worker c.in-Some.own (over f w.world.world)) (c.in-Some-Spent.is ∙ ap Some c.in-Some-Spent.field-0-is) says in
    rw (← c.self.view_is) ([], (c.in-Some.own, refl, refl, subst (IsPark way (over f w.world.world) w.turns.turns c.args.worker c.in-Some.own) (sym c.lay-in-Some-Spent.ensures) there), refl)

pub returns-in-Some-Hand-clause-done : goal.returns-in-Some-Hand-clause-done
returns-in-Some-Hand-clause-done g c =
    let way = g.A.Actor.way in
    let f = g.A.Actor.meaning in
    let w = c.self.inside in
    let whole : w.world.spent ≡ false = ap (λ (s : Scheduled g.row.A.Denot). s.run.spent) c.self.view_is ∙ c.requires in
    let fit = OnFalse_at whole c.self.invariant in
    let says = park_says way (over f w.world.world) w.turns.turns c.args.worker c.in-Some.own c.phase.result (option_copied c.inbox.result) c.parked.result fit.turns.placed c.in-Some.ensures.some c.phase.ensures c.inbox.ensures c.parked.ensures in
    let there = subst (Parking way w.turns.turns c.args.worker c.in-Some.own (over f w.world.world)) (c.in-Some-Hand.is ∙ ap Some c.in-Some-Hand.field-0-is) says in
    rw (← c.self.view_is) ([], (c.in-Some.own, refl, refl, there), refl)
