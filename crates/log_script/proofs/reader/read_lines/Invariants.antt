use Rattle.std.proofs.Common.{length}
use Rattle.log_script.specs.Form.{Continues}
use Rattle.log_script.proofs.reader.read_lines.Given as goal

abbrev pub invariant-loop-text : goal.invariant-loop-text
invariant-loop-text l = Continues l.source l.texts l.rest

abbrev pub decreases-loop-text : goal.decreases-loop-text
decreases-loop-text l = length l.rest
