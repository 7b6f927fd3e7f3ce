use Rattle.three_actors.specs.Plays.{new_begins}
use Rattle.three_actors.proofs.player.Player.new.Goals as goal

pub returns-clause-begins : goal.returns-clause-begins
returns-clause-begins c = λ e. new_begins c.args.own c.args.role e
