use Rattle.std.proofs.Common.{◌≤◌, length, subst, arith}
use Rattle.message.specs.Worlds.{service_over}
use Rattle.world_machine.specs.Spotted.{spots}
use Rattle.world_machine.proofs.Lists.{map_within}
use Rattle.world_machine.proofs.Foreseeing.{here_ahead, none_told, some_told}
use Rattle.world_machine.proofs.engine.Engine.weight_ahead.Goals as goal

pub returns-clause-none : goal.returns-clause-none
returns-clause-none g c =
    let way = g.A.Actor.way in
    let f = g.A.Actor.meaning in
    let w = c.self.inside in
    let within : c.args.agent.0 ≤ length w.services.items = omega (arith, c.if-agent-len.false, c.len.ensures) in
    let room : c.args.agent.0 ≤ length w.places.inboxes.items = subst (λ n. c.args.agent.0 ≤ n) c.self.invariant.paired (map_within (service_over f) w.services.items c.args.agent.0 within) in
    let told = here_ahead way f w.services.items (spots w.places) w.due.items c.args.agent c.index-2.result.now c.index.result.now c.requires within room c.index-2.ensures c.index.ensures in
    rw (← c.self.view_is) (none_told way _ c.args.agent _ c.service_ahead.result told c.service_ahead.ensures)

pub returns-clause-some : goal.returns-clause-some
returns-clause-some g c =
    let way = g.A.Actor.way in
    let f = g.A.Actor.meaning in
    let w = c.self.inside in
    let within : c.args.agent.0 ≤ length w.services.items = omega (arith, c.if-agent-len.false, c.len.ensures) in
    let room : c.args.agent.0 ≤ length w.places.inboxes.items = subst (λ n. c.args.agent.0 ≤ n) c.self.invariant.paired (map_within (service_over f) w.services.items c.args.agent.0 within) in
    let told = here_ahead way f w.services.items (spots w.places) w.due.items c.args.agent c.index-2.result.now c.index.result.now c.requires within room c.index-2.ensures c.index.ensures in
    rw (← c.self.view_is) (some_told way _ c.args.agent _ c.service_ahead.result told c.service_ahead.ensures)
