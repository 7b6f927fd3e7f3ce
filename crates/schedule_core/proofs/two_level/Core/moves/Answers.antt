use Rattle.std.proofs.Common.{◌≡◌, false, ap, sym, ◌∙◌, subst}
use Rattle.std.proofs.lemmas.Bool.{OnFalse_at}
use Rattle.schedule_core.specs.Cores.{Scheduled, MayAct}
use Rattle.schedule_core.proofs.Stepping.{follows_so, followed_with, fit_gone_on}
use Rattle.schedule_core.proofs.two_level.Core.moves.Goals as goal

pub invariant_of-self-2 : goal.invariant_of-self-2
invariant_of-self-2 g c =
    let way = g.A.Actor.way in
    let f = g.A.Actor.meaning in
    let w = c.self.inside in
    let whole : w.world.spent ≡ false = ap (λ (s : Scheduled g.row.A.Denot). s.run.spent) c.self.view_is ∙ c.requires.whole in
    let fit = OnFalse_at whole c.self.invariant in
    let may : MayAct w.turns.turns c.args.agent = subst (λ (s : Scheduled g.row.A.Denot). MayAct s.turns c.args.agent) (sym c.self.view_is) c.requires.may in
    let goes = follows_so way f w.world c.acts.new.world w.turns.turns c.follow.new.turns.turns c.args.agent c.in_ok-done.done c.phase-phase.result c.given-before.result c.given.result fit c.if-not-done.false
    c.in_ok-done.ensures.done c.phase-phase.ensures c.given-before.ensures c.given.ensures (c.follow.ensures ∙ ap (followed_with c.phase-phase.result c.given-before.result c.given.result) c.in_ok-reserve.ensures.same) in
    fit_gone_on way g.A.Actor.sound g.met.A.Actor.lawful f w.world c.acts.new.world w.turns.turns c.follow.new.turns.turns c.args.agent fit may goes

pub returns-clause-done : goal.returns-clause-done
returns-clause-done g c =
    let way = g.A.Actor.way in
    let f = g.A.Actor.meaning in
    let w = c.self.inside in
    let whole : w.world.spent ≡ false = ap (λ (s : Scheduled g.row.A.Denot). s.run.spent) c.self.view_is ∙ c.requires.whole in
    let fit = OnFalse_at whole c.self.invariant in
    rw (← c.self.view_is) (follows_so way f w.world c.acts.new.world w.turns.turns c.follow.new.turns.turns c.args.agent c.in_ok-done.done c.phase-phase.result c.given-before.result c.given.result fit c.if-not-done.false
    c.in_ok-done.ensures.done c.phase-phase.ensures c.given-before.ensures c.given.ensures (c.follow.ensures ∙ ap (followed_with c.phase-phase.result c.given-before.result c.given.result) c.in_ok-reserve.ensures.same))
