use Rattle.std.proofs.Common.{rules, ◌≡◌, sym}
use Rattle.std.specs.Option.{option_map}
use Rattle.launcher.specs.declared.desk.Taken.{Taken}
use Rattle.launcher.proofs.Pending.{find_served, without_served}
use Rattle.launcher.proofs.requests.Requests.take_served.Goals as goal

pub returns-clause-found : goal.returns-clause-found
returns-clause-found c =
    let r = c.self.inside in
    let is : c.match-take_served.result ≡ option_map (λ (t : Taken). t.held) c.take_served.result = search rules in
    rw (← c.self.view_is, find_served r.pending.entries r.others.items, ← c.take_served.ensures.found) is

pub returns-clause-rest : goal.returns-clause-rest
returns-clause-rest c =
    let r = c.self.inside in
    rw (← c.self.view_is, c.take_served.ensures.rest) (sym (without_served r.pending.entries r.others.items))
