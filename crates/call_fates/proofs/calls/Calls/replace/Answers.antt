use Rattle.std.proofs.Common.{subst}
use Rattle.call_fates.specs.Table.{Table, Replaces}
use Rattle.call_fates.proofs.calls.Calls.replace.Goals as goal

pub returns : goal.returns
returns c = subst (λ (all : Table). Replaces all c.args.key c.args.state c.insert.new.self.entries) c.self.view_is (record { each = c.in-Ok.ensures.updates.0 })
