use Rattle.std.proofs.Common.{refl, sym, ◌∙◌}
use Rattle.launcher.proofs.Listed.{pushed}
use Rattle.launcher.proofs.services.Services.push.Goals as goal

pub returns-then-comes_last-clause-ok : goal.returns-then-comes_last-clause-ok
returns-then-comes_last-clause-ok c =
    let s = c.self.inside in
    rw (← c.self.view_is, c.in-Ok.ensures.entries) (pushed c.args.service.handle c.args.service.name s.by_handle.entries s.late.items (sym c.deref.ensures.value ∙ c.if-comes_last.ensures.late refl) (c.if-comes_last.ensures.last refl))
