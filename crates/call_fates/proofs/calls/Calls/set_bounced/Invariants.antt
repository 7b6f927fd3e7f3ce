use Rattle.std.proofs.Common.{take}
use Rattle.std.specs.List.{sum_by}
use Rattle.call_fates.specs.Calls.{asks}
use Rattle.call_fates.specs.Table.{Becomes}
use Rattle.call_fates.specs.declared.calls.Fate.TheVariants.{OnItsWay}
use Rattle.call_fates.proofs.calls.Calls.set_bounced.Given as goal

abbrev pub invariant-loop-at : goal.invariant-loop-at
invariant-loop-at l = Becomes OnItsWay (λ c. sum_by (asks c 0) (take l.at l.messages)) l.fn.self l.self
