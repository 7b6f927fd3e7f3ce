use Rattle.journal.proofs.Spellings.{line_added}
use Rattle.journal.proofs.writer.write.Goals as goal

pub loop-agent-preserved : goal.loop-agent-preserved
loop-agent-preserved c =
    line_added c.args.journal.now.agents c.as_slice-agent-items.result.now c.loop-agent.agent-index _ c.loop-agent.text c.push_number.new.text
    c.as_slice-agent-items.ensures c.loop-agent-test.true c.loop-agent.invariant c.in_ok-push_number.ensures
