use Rattle.std.proofs.Common.{◌∙◌}
use Rattle.clap.specs.Words.{found_of}
use Rattle.clap.proofs.WalkLemmas.{first_value-rows}
use Rattle.words.proofs.numbers.number_or.Goals as goal

pub returns-in-Some-clause-number : goal.returns-in-Some-clause-number
returns-in-Some-clause-number c =
    let found = c.in-Some.ensures ∙ first_value-rows (found_of c.args.matches.now) c.args.id.now in
    rw (← found) c.number.ensures.number

pub returns-in-None-clause-number : goal.returns-in-None-clause-number
returns-in-None-clause-number c =
    let found = c.in-None.ensures ∙ first_value-rows (found_of c.args.matches.now) c.args.id.now in
    rw (← found)
