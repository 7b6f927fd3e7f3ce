use Rattle.std.proofs.Common.{take}
use Rattle.std.specs.List.{sum_by}
use Rattle.call_fates.specs.Calls.{replies}
use Rattle.call_fates.specs.Table.{Becomes}
use Rattle.call_fates.specs.declared.calls.Fate.TheVariants.{Void}
use Rattle.call_fates.proofs.calls.Calls.set_replies.Given as goal

abbrev pub invariant-loop-at : goal.invariant-loop-at
invariant-loop-at l = Becomes Void (λ c. sum_by (replies c l.caller.0) (take l.at l.messages)) l.fn.self l.self
