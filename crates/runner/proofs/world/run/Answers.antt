use Rattle.runner.proofs.WorldLemmas.{act-falls, after-more}
use Rattle.runner.proofs.world.run.Goals as goal

pub loop-agent-preserved : goal.loop-agent-preserved
loop-agent-preserved c =
    let did = c.in_ok-act.ensures in
    after-more c.args.world.now c.loop-agent.world c.act.new.self c.loop-agent.journal.agents c.push.new.self.agents
    c.loop-agent.text c.act.new.text did.0 c.in-Some.agent c.loop-agent.invariant c.in_ok-push.ensures.ok did.1 did.2

pub loop-agent-smaller : goal.loop-agent-smaller
loop-agent-smaller c =
    let did = c.in_ok-act.ensures in act-falls c.loop-agent.world c.act.new.self did.0 c.in-Some.agent did.1
