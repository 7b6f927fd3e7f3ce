use Rattle.std.proofs.Common.{◌<◌, ◌+◌, List, length, arith, ap, ◌∙◌, [], ◌∷◌, ◌++◌}
use Rattle.message.specs.declared.place.Service.{Service}
use Rattle.world_machine.proofs.Keeping.{machine_push, registered_len, begun_ok}
use Rattle.world_machine.proofs.Lists.{pushed_len}
use Rattle.sk_types.specs.declared.number.Handle.{Handle}
use Rattle.message.specs.Registries.{most_handles}
use Rattle.message.specs.declared.place.Service.TheVariants.{Serving}
use Rattle.world_machine.proofs.engine.Engine.brings.Goals as goal

pub invariant_of-self-2 : goal.invariant_of-self-2
invariant_of-self-2 g c =
    let way = g.A.Actor.way in
    let f = g.A.Actor.meaning in
    let w = c.self.inside in
    let own : Handle = record { 0 = c.given-given.result + 1 } in
    let few : length w.places.registry.listed < most_handles = omega (arith, c.if-given-ge-MOST_HANDLES.false, c.given-given.ensures) in
    machine_push way g.A.Actor.sound f w.services.items (length w.places.inboxes.items) _ (length w.places.registry.listed) own (Serving c.new.result) c.push_reserved.new.self.items c.self.invariant
    (c.push_reserved.ensures.items ∙ ap (λ (l : List (Service g.row.A.Denot)). l ++ Serving c.new.result ∷ []) c.in_ok-reserve.ensures.items)
    (pushed_len w.places.inboxes.items c.reserve-2.new.self.items c.push_reserved-2.new.self.items _ c.push_reserved-2.ensures.items c.in_ok-reserve-2.ensures.items)
    (registered_len w.places.registry c.register.new.self c.in_ok-found.found c.in_ok-found.ensures.ok few)
    (ap (λ z. z + 1) c.given-given.ensures)
    (begun_ok way g.A.Actor.sound f g.met.A.Actor.lawful c.args.name.now own c.in_ok-actor.field-0 c.in-Some.actor c.new.result c.in-Some.is c.new.ensures c.in_ok-actor.ensures)
