use Rattle.std.proofs.Common.{ap, sym, ◌∙◌}
use Rattle.std.specs.Prelude.{is_some}
use Rattle.std.specs.FinMap as names
use Rattle.message.specs.Registries.{Registry, is_listed, is_name}
use Rattle.handle_names.proofs.Answering.{free, named, named_kept}
use Rattle.handle_names.proofs.registry.Registry.name.Goals as goal

pub invariant_of-self-2 : goal.invariant_of-self-2
invariant_of-self-2 c =
    let r = c.self.inside in
    let on = c.if-not-is_listed.ensures ∙ ap (λ l. is_listed l c.args.handle.0) c.deref.ensures.value in
    named_kept r.listed.items r.names.entries c.self.invariant c.args.handle c.in_ok-key.key c.insert.new.self.entries on c.in_ok-insert.ensures.entries c.in_ok-insert.ensures.ordered

pub returns-clause-ok : goal.returns-clause-ok
returns-clause-ok c =
    let r = c.self.inside in
    let text = c.args.text.now in
    let on = c.if-not-is_listed.ensures ∙ ap (λ l. is_listed l c.args.handle.0) c.deref.ensures.value in
    let is = c.if-not-is_name.ensures ∙ ap is_name c.as_slice.ensures in
    let open_ = c.if-is_some.ensures ∙ (ap is_some c.named.ensures ∙ ap (λ (v : Registry). is_some (names.get v.named text)) (sym c.self.view_is)) in
    let may = free r.listed.items r.names.entries c.self.invariant text c.args.handle is on open_ in
    let bytes = c.in_ok-key.ensures.items ∙ c.as_slice-2.ensures in
    rw (← c.self.view_is) (may, named r.listed.items r.names.entries c.self.invariant text c.args.handle c.in_ok-key.key c.insert.new.self.entries bytes may on c.in_ok-insert.ensures.entries c.in_ok-insert.ensures.ordered)
