use Rattle.std.proofs.Common.{subst, sym}
use Rattle.message.specs.Worlds.{over}
use Rattle.world_machine.specs.Failing.{Fails}
use Rattle.world_machine.specs.declared.engine.ActError.{ActError}
use Rattle.world_machine.proofs.Launching.{launches_acted, err_is}
use Rattle.world_machine.proofs.Following.{launches_goes}
use Rattle.world_machine.proofs.engine.Engine.launches.Goals as goal

pub returns-clause-done : goal.returns-clause-done
returns-clause-done g c =
    let f = g.A.Actor.meaning in
    launches_goes g.A.Actor.way (over f c.args.self.now.world) (over f c.brings.new.self.world) (over f c.hears.new.self.world) c.args.agent c.args.name.now c.args.args c.in_ok-found.found c.args.calls.now c.hears.new.calls c.requires c.in_ok-found.ensures.done c.in_ok-hears.ensures.heard c.in_ok-hears.ensures.turned

pub returns-in_err-hears-clause-undone : goal.returns-in_err-hears-clause-undone
returns-in_err-hears-clause-undone g c =
    let f = g.A.Actor.meaning in
    let way = g.A.Actor.way in
    let P = λ (e : ActError). Fails way (over f c.args.self.now.world) c.args.agent c.args.self.now c.hears.new.self e in
    let acted : P c.in_err-hears.field-0.0 = subst P (sym c.in_err-hears.ensures.memory) (launches_acted way (over f c.args.self.now.world) (over f c.brings.new.self.world) c.args.agent c.args.name.now c.args.args c.in_ok-found.found c.hears.new.self.spent c.requires c.in_ok-found.ensures.done c.in_err-hears.ensures.spent) in
    err_is c.from_residual-in_err-hears.result c.in_err-hears.field-0.0 P c.from_residual-in_err-hears.ensures.1 acted
