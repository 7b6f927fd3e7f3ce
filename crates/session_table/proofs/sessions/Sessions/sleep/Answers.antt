use Rattle.std.proofs.Common.{ap, ◌∙◌}
use Rattle.session_table.specs.Table.{Table, sleeping}
use Rattle.session_table.proofs.Lists.{sleeper_undone}
use Rattle.session_table.proofs.sessions.Sessions.sleep.Goals as goal

pub returns-in-Err-clause-err : goal.returns-in-Err-clause-err
returns-in-Err-clause-err c =
    let s = c.self.inside in
    let free = ap (λ (t : Table). sleeping t c.args.token) c.self.view_is ∙ c.requires in
    let back = sleeper_undone c.args.token c.args.session s.sleepers.entries _ _ free c.in_ok-insert.ensures.entries c.remove.ensures.entries in
    (λ i. record { last = s.last; responses = s.responses; waits = c.in-Err.ensures.err i; sleepers = back i; wakeups = s.wakeups.items; taken = s.requests; threads = s.threads.entries; functions = s.functions.entries }) ∙ c.self.view_is
