use Rattle.std.proofs.Common.{subst}
use Rattle.call_fates.specs.Table.{Table, Replaces}
use Rattle.call_fates.specs.declared.calls.Fate.TheVariants.{Waiting}
use Rattle.call_fates.proofs.calls.Calls.add.Goals as goal

pub returns-clause-made : goal.returns-clause-made
returns-clause-made c = subst (λ (all : Table). Replaces all c.args.key (record { callee = c.args.callee; fate = Waiting }) c.insert.new.self.entries) c.self.view_is (record { each = c.in-Ok.ensures.updates.0 })
