use Rattle.std.proofs.Common.{ap, ◌∙◌}
use Rattle.message.specs.Registries.{is_listed}
use Rattle.handle_names.proofs.Answering.{found_listed, found_dead, found_none}
use Rattle.handle_names.proofs.registry.Registry.named.Goals as goal

pub returns-then-is_listed : goal.returns-then-is_listed
returns-then-is_listed c =
    let r = c.self.inside in
    rw (← c.self.view_is) (found_listed r.listed.items r.names.entries c.self.invariant c.args.text.now c.as_slice.result.now c.in-Some.handle.now c.as_slice.ensures c.in-Some.ensures.value (c.if-is_listed.ensures ∙ ap (λ l. is_listed l c.in-Some.handle.now.0) c.deref.ensures.value))

pub returns-else-is_listed : goal.returns-else-is_listed
returns-else-is_listed c =
    let r = c.self.inside in
    rw (← c.self.view_is) (found_dead r.listed.items r.names.entries c.self.invariant c.args.text.now c.as_slice.result.now c.in-Some.handle.now c.as_slice.ensures c.in-Some.ensures.value (c.if-is_listed.ensures ∙ ap (λ l. is_listed l c.in-Some.handle.now.0) c.deref.ensures.value))

pub returns-in-None : goal.returns-in-None
returns-in-None c =
    let r = c.self.inside in
    rw (← c.self.view_is) (found_none r.listed.items r.names.entries c.self.invariant c.args.text.now c.as_slice.result.now c.as_slice.ensures c.in-None.ensures.value)
