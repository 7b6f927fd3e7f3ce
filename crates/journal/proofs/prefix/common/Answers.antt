use Rattle.journal.proofs.Prefixes.{common_ends}
use Rattle.journal.proofs.prefix.common.Goals as goal

pub returns-clause-same : goal.returns-clause-same
returns-clause-same c = common_ends c.args.text.now c.args.other.now c.min-shorter.result c.loop-n.n c.min-shorter.ensures c.loop-n-test.false c.loop-n.auto.n-end c.loop-n.invariant
