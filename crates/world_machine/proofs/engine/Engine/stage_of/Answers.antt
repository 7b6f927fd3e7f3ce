use Rattle.std.proofs.Common.{◌≤◌, length, map, arith}
use Rattle.message.specs.Worlds.{service_over}
use Rattle.world_machine.proofs.Lists.{map_within}
use Rattle.world_machine.proofs.Asking.{seen}
use Rattle.world_machine.proofs.engine.Engine.stage_of.Goals as goal

pub returns : goal.returns
returns g c =
    let f = g.A.Actor.meaning in
    let w = c.self.inside in
    let within : c.args.agent.0 ≤ length w.services.items = omega (arith, c.if-agent-len.false, c.len.ensures) in
    let long : c.args.agent.0 ≤ length (map (service_over f) w.services.items) = map_within (service_over f) w.services.items c.args.agent.0 within in
    rw (← c.self.view_is) (record { given = c.requires; within = long; service = service_over f c.index.result.now; there = seen (service_over f) w.services.items c.args.agent.0 c.index.result.now c.requires c.index.ensures within; stands = c.in_ok-stage.ensures })
