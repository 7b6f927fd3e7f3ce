use Rattle.std.proofs.Common.{◌≡◌, drop}
use Rattle.tools.specs.Report.{first_fault}
use Rattle.tools.proofs.report.first_fault.Given as goal

abbrev pub invariant-loop-verdict : goal.invariant-loop-verdict
invariant-loop-verdict l = first_fault l.verdicts ≡ first_fault (drop l.verdict-index l.verdicts)
