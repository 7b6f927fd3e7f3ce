use Rattle.std.proofs.Common.{◌≡◌, ◌<◌, ◌+◌, length, arith}
use Rattle.message.specs.Registries.{most_handles}
use Rattle.handle_names.proofs.Answering.{registered, registered_kept}
use Rattle.handle_names.proofs.registry.Registry.register.Goals as goal

pub invariant_of-self-2 : goal.invariant_of-self-2
invariant_of-self-2 c =
    let r = c.self.inside in
    let few : length r.listed.items < most_handles = omega (arith, c.len.ensures, c.if-len-eq-MOST_HANDLES.false, c.self.invariant.few) in
    registered_kept r.listed.items r.names.entries c.self.invariant c.push.new.self.items c.in_ok-push.ensures.items few

pub returns-clause-ok : goal.returns-clause-ok
returns-clause-ok c =
    let r = c.self.inside in
    let few : length r.listed.items < most_handles = omega (arith, c.len.ensures, c.if-len-eq-MOST_HANDLES.false, c.self.invariant.few) in
    let count : c.len-2.result ≡ length r.listed.items + 1 = omega (arith, c.len-2.ensures, c.in_ok-push.ensures.len, r.listed.ok.0) in
    rw (← c.self.view_is) (registered r.listed.items r.names.entries c.self.invariant c.len-2.result c.push.new.self.items c.in_ok-push.ensures.items count few)
