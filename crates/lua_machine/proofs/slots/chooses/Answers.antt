use Rattle.std.proofs.Common.{Bool, ap, ◌∙◌}
use Rattle.lua_steps.specs.Machine.{Machine}
use Rattle.lua_steps.specs.Moves.{next}
use Rattle.lua_steps.specs.Exec.{chosen}
use Rattle.lua_machine.specs.Quick.{in_hand}
use Rattle.lua_machine.proofs.slots.chooses.Goals as goal

pub returns-then-holds-clause-ok : goal.returns-then-holds-clause-ok
returns-then-holds-clause-ok c =
    record { is = λ g row cells. ap (λ (b : Bool). chosen b c.args.pay c.args.to.now (in_hand g row cells c.args.pace)) c.if-holds.true ∙ c.in-Some.ensures.is g row cells (λ (t : Machine). next t) }
