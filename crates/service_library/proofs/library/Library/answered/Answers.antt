use Rattle.std.proofs.Common.{rules, ◌≡◌}
use Rattle.service_library.specs.declared.words.Doing.TheVariants.{Quiet, Sleeping}
use Rattle.service_library.specs.State.{Lib}
use Rattle.service_library.specs.Rows.{Steps, after_answer}
use Rattle.service_library.proofs.Sleeping.{sleeping_row}
use Rattle.service_library.proofs.library.Library.answered.Goals as goal

pub returns-in-Sleeping : goal.returns-in-Sleeping
returns-in-Sleeping c =
    let now : Lib = c.args.self.now in
    let is : now.doing ≡ Sleeping c.in-Sleeping.session c.in-Sleeping.token = search rules in
    let row : Steps c.sleeping.result c.sleeping.new.self (after_answer (record now { doing = Quiet }) (Sleeping c.in-Sleeping.session c.in-Sleeping.token) c.args.answer) = search rules in
    sleeping_row now c.in-Sleeping.session c.in-Sleeping.token c.args.answer c.sleeping.result c.sleeping.new.self is row
