use Rattle.std.proofs.Common.{take}
use Rattle.call_fates.specs.Calls.{all_of}
use Rattle.call_fates.specs.Table.{Becomes}
use Rattle.call_fates.proofs.calls.Calls.set_held.Given as goal

abbrev pub invariant-loop-request : goal.invariant-loop-request
invariant-loop-request l = Becomes l.fate (λ c. all_of c 0 (take l.request-index l.held)) l.fn.self l.self
