use Rattle.runner.proofs.command.run_script.Goals as goal

pub returns : goal.returns
returns c = (c.run.new.world, rw c.in_ok-world.ensures at c.in_ok-run.ensures.ran, c.in_ok-run.ensures.drained)
