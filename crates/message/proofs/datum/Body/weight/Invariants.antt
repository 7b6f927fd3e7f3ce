use Rattle.std.proofs.Common.{◌≡◌, take}
use Rattle.message.specs.Data.{capped, weight}
use Rattle.message.proofs.datum.Body.weight.Given as goal

abbrev pub invariant-loop-datum : goal.invariant-loop-datum
invariant-loop-datum l = l.total ≡ capped (weight (take l.datum-index l.datum-items))
