use Rattle.std.proofs.Common.{◌<◌, arith, ap, ◌∙◌}
use Rattle.message.specs.Registries.{is_listed}
use Rattle.handle_names.proofs.Answering.{retired}
use Rattle.handle_names.proofs.registry.Registry.retire.Goals as goal

pub returns-clause-after : goal.returns-clause-after
returns-clause-after c =
    let r = c.self.inside in
    let big : 2 < c.args.handle.0 = omega arith in
    rw (← c.self.view_is) (retired r.listed.items r.names.entries c.self.invariant c.args.handle big (c.if-not-is_listed.ensures ∙ ap (λ l. is_listed l c.args.handle.0) c.deref.ensures.value))
