use Rattle.std.proofs.Common.{arith}
use Rattle.journal.proofs.Steps.{line_digit, line_fault}
use Rattle.journal.proofs.lines.step_at_line.Goals.{then-byte-lt48-via-then-byte-lt48, then-byte-lt48-via-else-byte-lt48+then-byte-gt57}
use Rattle.journal.proofs.lines.step_at_line.Goals as goal

pub returns-then-byte-lt48 : goal.returns-then-byte-lt48
returns-then-byte-lt48 c = line_fault _ _ c.if-byte-eq101.false (λ p. elim c.then-byte-lt48.branch [
  | then-byte-lt48-via-then-byte-lt48 w ↦ omega (arith, w.if-byte-lt48.true, p.0)
  | then-byte-lt48-via-else-byte-lt48+then-byte-gt57 w ↦ omega (arith, w.if-byte-gt57.true, p.1)
])

pub returns : goal.returns
returns c = line_digit _ _ c.if-byte-lt48.false c.if-byte-gt57.false c.if-entries-ge-MOST_ENTRIES.false
