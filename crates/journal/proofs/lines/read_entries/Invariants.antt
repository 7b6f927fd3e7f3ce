use Rattle.journal.specs.Tails.{IsReached}
use Rattle.journal.proofs.lines.read_entries.Given as goal

abbrev pub invariant-loop-at : goal.invariant-loop-at
invariant-loop-at l = IsReached l.body l.at l.journal.agents l.place
