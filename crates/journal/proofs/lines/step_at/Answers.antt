use Rattle.std.proofs.Common.{sym}
use Rattle.std.proofs.Math.Path.{subst}
use Rattle.journal.specs.Tails.{Takes}
use Rattle.journal.specs.declared.lines.Spot.{Spot}
use Rattle.journal.proofs.lines.step_at.Goals as goal

pub returns-in-Line : goal.returns-in-Line
returns-in-Line c = subst (λ (place : Spot). Takes place c.args.byte c.args.entries c.step_at_line.result) (sym c.in-Line.is) c.step_at_line.ensures

pub returns-in-Number : goal.returns-in-Number
returns-in-Number c = subst (λ (place : Spot). Takes place c.args.byte c.args.entries c.step_in_number.result) (sym c.in-Number.is) c.step_in_number.ensures
