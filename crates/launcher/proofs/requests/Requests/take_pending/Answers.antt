use Rattle.std.proofs.Common.{rules, ◌≡◌, sym, ◌∙◌}
use Rattle.std.specs.Option.{option_map}
use Rattle.launcher.specs.declared.desk.Taken.{Taken}
use Rattle.launcher.proofs.Pending.{found, removed, missed, kept}
use Rattle.launcher.proofs.requests.Requests.take_pending.Goals as goal

pub returns-in-Some-clause-found : goal.returns-in-Some-clause-found
returns-in-Some-clause-found c =
    let r = c.self.inside in
    rw (← c.self.view_is) (sym (found c.args.handle c.in-Some.held r.pending.entries r.others.items (sym c.remove.ensures.value ∙ c.in-Some.is)))

pub returns-in-Some-clause-rest : goal.returns-in-Some-clause-rest
returns-in-Some-clause-rest c =
    let r = c.self.inside in
    rw (← c.self.view_is, c.remove.ensures.entries) (removed c.args.handle c.in-Some.held r.pending.entries r.others.items (sym c.remove.ensures.value ∙ c.in-Some.is))

pub returns-after-take_pending-clause-found : goal.returns-after-take_pending-clause-found
returns-after-take_pending-clause-found c =
    let r = c.self.inside in
    let none = sym c.remove.ensures.value ∙ c.in-None.is in
    let is : c.match-take_pending.result ≡ option_map (λ (t : Taken). t.held) c.take_pending.result = search rules in
    rw (← c.self.view_is, missed c.args.handle r.pending.entries r.others.items none, ← c.take_pending.ensures.found) is

pub returns-after-take_pending-clause-rest : goal.returns-after-take_pending-clause-rest
returns-after-take_pending-clause-rest c =
    let r = c.self.inside in
    let none = sym c.remove.ensures.value ∙ c.in-None.is in
    rw (← c.self.view_is, c.in-None.ensures.unchanged, c.take_pending.ensures.rest) (kept c.args.handle r.pending.entries r.others.items none)
