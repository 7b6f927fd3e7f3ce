use Rattle.std.proofs.Common.{sym, subst, arith}
use Rattle.session_table.specs.Table.{AllBelow}
use Rattle.session_table.proofs.Lists.{below_removed}
use Rattle.session_table.proofs.requests.Requests.drop_owed.Goals as goal

pub invariant_of-self : goal.invariant_of-self
invariant_of-self c =
    (subst (AllBelow c.self.inside.next) (sym c.remove.ensures.entries) (below_removed _ _ _ c.self.invariant.0), c.self.invariant.1, omega (arith, c.remove.ensures.len, c.self.invariant.2))
