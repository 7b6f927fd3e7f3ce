-- The places, as contracts see them (skynet_mq.c, skynet_handle.c, skynet_timer.c).
use Rattle.world_machine.specs.declared.places.Places.{Places}
use Rattle.world_machine.specs.Spots.{Spots}

abbrev pub spots : Places → Spots
spots p = record { inboxes = p.inboxes.items; registry = p.registry; clock = p.clock }
