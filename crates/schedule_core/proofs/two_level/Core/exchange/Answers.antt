use Rattle.std.proofs.Common.{◌≡◌, false, [], ap, ◌∙◌, refl}
use Rattle.std.proofs.lemmas.Bool.{OnFalse_at}
use Rattle.message.specs.Worlds.{over}
use Rattle.schedule_core.specs.Cores.{Scheduled}
use Rattle.schedule_core.proofs.Lists.{both_not}
use Rattle.schedule_core.proofs.Stepping.{exchanges_by, fit_exchanged}
use Rattle.schedule_core.proofs.two_level.Core.exchange.Goals as goal

pub invariant_of-self-2 : goal.invariant_of-self-2
invariant_of-self-2 g c =
    let way = g.A.Actor.way in
    let f = g.A.Actor.meaning in
    let w = c.self.inside in
    let whole : w.world.spent ≡ false = ap (λ (s : Scheduled g.row.A.Denot). s.run.spent) c.self.view_is ∙ c.requires in
    let fit = OnFalse_at whole c.self.invariant in
    let idle = c.is_idle.ensures.0 c.if-not-is_idle.false in
    let waits : w.turns.turns.queue ≡ [] → ⊥ = λ e. both_not c.is_queue_empty.result (c.is_queue_empty.ensures.1 e) c.if-is_queue_empty.false in
    let x = exchanges_by way (over f w.world.world) w.turns.turns c.reserve.new.self.turns c.exchange.new.self.turns c.args.worker c.in-Some.own c.phase.result fit.turns.placed c.in-Some.ensures.some c.phase.ensures idle waits c.in_ok-reserve.ensures.same c.exchange.ensures in
    fit_exchanged way (over f w.world.world) w.turns.turns c.exchange.new.self.turns c.args.worker w.world.spent c.self.invariant x

pub returns-clause-done : goal.returns-clause-done
returns-clause-done g c =
    let way = g.A.Actor.way in
    let f = g.A.Actor.meaning in
    let w = c.self.inside in
    let whole : w.world.spent ≡ false = ap (λ (s : Scheduled g.row.A.Denot). s.run.spent) c.self.view_is ∙ c.requires in
    let fit = OnFalse_at whole c.self.invariant in
    let idle = c.is_idle.ensures.0 c.if-not-is_idle.false in
    let waits : w.turns.turns.queue ≡ [] → ⊥ = λ e. both_not c.is_queue_empty.result (c.is_queue_empty.ensures.1 e) c.if-is_queue_empty.false in
    let x = exchanges_by way (over f w.world.world) w.turns.turns c.reserve.new.self.turns c.exchange.new.self.turns c.args.worker c.in-Some.own c.phase.result fit.turns.placed c.in-Some.ensures.some c.phase.ensures idle waits c.in_ok-reserve.ensures.same c.exchange.ensures in
    rw (← c.self.view_is) ([], (x.0, x.1, refl, refl, x.2), refl)
