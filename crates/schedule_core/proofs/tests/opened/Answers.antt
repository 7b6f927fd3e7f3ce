use Rattle.std.proofs.Common.{refl}
use Rattle.three_actors.specs.Playing.{state_of}
use Rattle.three_actors.specs.Plays.{player_way, player_sound, player_lawful}
use Rattle.schedule_core.proofs.Opening.{opens_all}
use Rattle.schedule_core.proofs.tests.opened.Goals as goal

pub returns : goal.returns
returns c = opens_all player_way player_sound player_lawful state_of c.new-killer.result c.new-caller.result _ _ c.opening.result (c.new-killer.ensures.begins refl) (c.new-caller.ensures.begins refl) c.opening.ensures
