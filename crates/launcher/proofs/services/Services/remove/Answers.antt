use Rattle.std.proofs.Common.{sym, ◌∙◌}
use Rattle.launcher.proofs.Listed.{removed, missed}
use Rattle.launcher.proofs.services.Services.remove.Goals as goal

pub returns-in-Some : goal.returns-in-Some
returns-in-Some c =
    let s = c.self.inside in
    rw (← c.self.view_is, c.remove.ensures.entries) (removed c.args.handle c.in-Some._name s.by_handle.entries s.late.items (sym c.remove.ensures.value ∙ c.in-Some.is))

pub returns-in-None : goal.returns-in-None
returns-in-None c =
    let s = c.self.inside in
    rw (← c.self.view_is, c.in-None.ensures.unchanged, c.remove_late.ensures) (missed c.args.handle s.by_handle.entries s.late.items (sym c.remove.ensures.value ∙ c.in-None.is))
