use Rattle.std.proofs.Common.{◌≡◌, take}
use Rattle.tools.specs.Report.{text_of_report}
use Rattle.tools.proofs.report.report_text.Given as goal

abbrev pub invariant-loop-verdict : goal.invariant-loop-verdict
invariant-loop-verdict l = l.text ≡ text_of_report (take l.verdict-index l.verdicts)
