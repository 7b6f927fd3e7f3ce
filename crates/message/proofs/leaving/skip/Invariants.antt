use Rattle.std.proofs.Common.{◌≡◌, length}
use Rattle.message.specs.Messages.{requests}
use Rattle.message.proofs.leaving.skip.Given as goal

abbrev pub invariant-loop-message : goal.invariant-loop-message
invariant-loop-message l = requests l.waiting ≡ requests l.fn.waiting

abbrev pub decreases-loop-message : goal.decreases-loop-message
decreases-loop-message l = length l.waiting
