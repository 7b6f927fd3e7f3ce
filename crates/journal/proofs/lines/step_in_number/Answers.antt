use Rattle.std.proofs.Common.{arith, refl}
use Rattle.journal.proofs.Steps.{number_digit, number_fault}
use Rattle.journal.proofs.lines.step_in_number.Goals.{then-byte-lt48-via-then-byte-lt48, then-byte-lt48-via-else-byte-lt48+then-byte-gt57}
use Rattle.journal.proofs.lines.step_in_number.Goals.{then-number-eq0-via-then-number-eq0, then-number-eq0-via-else-number-eq0+then-longer-gt-MOST_AGENT}
use Rattle.journal.proofs.lines.step_in_number.Goals as goal

pub returns-then-byte-lt48 : goal.returns-then-byte-lt48
returns-then-byte-lt48 c = number_fault _ _ _ c.if-byte-eq10.false (λ p. elim c.then-byte-lt48.branch [
  | then-byte-lt48-via-then-byte-lt48 w ↦ omega (arith, w.if-byte-lt48.true, p.1)
  | then-byte-lt48-via-else-byte-lt48+then-byte-gt57 w ↦ omega (arith, w.if-byte-gt57.true, p.2)
])

pub returns-then-number-eq0 : goal.returns-then-number-eq0
returns-then-number-eq0 c = number_fault _ _ _ c.if-byte-eq10.false (λ p. elim c.then-number-eq0.branch [
  | then-number-eq0-via-then-number-eq0 w ↦ omega (arith, w.if-number-eq0.true, p.0)
  | then-number-eq0-via-else-number-eq0+then-longer-gt-MOST_AGENT w ↦ omega (arith, w.if-longer-gt-MOST_AGENT.true, p.3)
])

pub returns : goal.returns
returns c = number_digit _ _ _ _ refl (omega (arith, c.if-number-eq0.false)) c.if-byte-lt48.false c.if-byte-gt57.false c.if-longer-gt-MOST_AGENT.false c.requires.0
