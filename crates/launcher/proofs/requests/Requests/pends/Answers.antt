use Rattle.std.proofs.Common.{List, sym, subst}
use Rattle.launcher.specs.declared.desk.Role.TheVariants.{Pending}
use Rattle.launcher.specs.declared.desk.Taken.{Taken}
use Rattle.launcher.specs.Listed.{StartsServed}
use Rattle.launcher.proofs.Pending.{pends_last, pends_later}
use Rattle.launcher.proofs.requests.Requests.pends.Goals as goal

pub returns-in-Ok-clause-ok : goal.returns-in-Ok-clause-ok
returns-in-Ok-clause-ok c =
    let r = c.self.inside in
    let first = subst (λ (l : List Taken). StartsServed c.in-Some.held l) c.deref.ensures.value c.in-Some.ensures.first in
    rw (← c.self.view_is, c.in-Ok.ensures.entries, c.remove.ensures.items) (pends_last c.args.handle c.in-Some.held r.pending.entries r.others.items c.in-Some.ensures.last first)

pub returns-in-None-clause-ok : goal.returns-in-None-clause-ok
returns-in-None-clause-ok c =
    let r = c.self.inside in
    let change : Taken → Taken = λ (t : Taken). record { role = Pending c.args.handle; held = t.held } in
    rw (← c.self.view_is, c.pend_served.ensures.pends) (sym (pends_later change r.pending.entries r.others.items))
