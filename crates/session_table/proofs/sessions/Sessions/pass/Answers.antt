use Rattle.std.proofs.Common.{◌+◌, ap, ◌∙◌}
use Rattle.session_table.specs.Table.{passed}
use Rattle.session_table.proofs.sessions.Sessions.pass.Goals as goal

pub returns-clause-after : goal.returns-clause-after
returns-clause-after c =
    let s = c.self.inside in
    (λ i. record { last = s.last; responses = s.responses + 1; waits = s.waits.entries; sleepers = s.sleepers.entries; wakeups = s.wakeups.items; taken = s.requests; threads = c.remove.ensures.entries i; functions = c.in_ok-insert.ensures.entries i }) ∙ ap (λ t. passed t c.args.thread c.args.owed) c.self.view_is
