use Rattle.std.proofs.Common.{length, ap, ◌∙◌}
use Rattle.world_machine.specs.Spots.{Spots}
use Rattle.world_machine.specs.Opening.{start_handle}
use Rattle.world_machine.proofs.Keeping.{begun_ok, begins_ok, machine_three}
use Rattle.world_machine.proofs.engine.Engine.opening.Goals as goal

pub of-requires : goal.of-requires
of-requires g c =
    let way = g.A.Actor.way in
    let f = g.A.Actor.meaning in
    let sound = g.A.Actor.sound in
    machine_three way sound f c.new.result c.new-2.result c.new-3.result c.reserve.new.self.items c.push_reserved.new.self.items c.push_reserved-2.new.self.items c.push_reserved-3.new.self.items
    (length c.in_ok-places.places.inboxes.items) (length c.in_ok-places.places.registry.listed)
    (c.in_ok-reserve.ensures.items ∙ c.new-services.ensures.items) c.push_reserved.ensures.items c.push_reserved-2.ensures.items c.push_reserved-3.ensures.items
    (ap (λ (z : Spots). length z.inboxes) c.in_ok-places.ensures) (ap (λ (z : Spots). length z.registry.listed) c.in_ok-places.ensures)
    (begins_ok way sound f c.args.logger c.new.result c.requires.logger c.new.ensures)
    (begins_ok way sound f c.args.launcher c.new-2.result c.requires.launcher c.new-2.ensures)
    (begun_ok way sound f g.met.A.Actor.lawful c.args.start.now start_handle c.in_ok-first.field-0 c.in-Some.first c.new-3.result c.in-Some.is c.new-3.ensures c.in_ok-first.ensures)
