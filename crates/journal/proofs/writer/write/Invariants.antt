use Rattle.std.proofs.Common.{◌≡◌, ◌++◌, take}
use Rattle.journal.specs.Format.{header, lines}
use Rattle.journal.proofs.writer.write.Given as goal

abbrev pub invariant-loop-agent : goal.invariant-loop-agent
invariant-loop-agent l = l.text ≡ header ++ lines (take l.agent-index l.fn.journal.agents)
