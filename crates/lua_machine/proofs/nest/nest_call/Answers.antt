use Rattle.std.proofs.Common.{ℕ, sym, ap, subst, arith}
use Rattle.lua_machine.specs.declared.call_info.CallInfo.{CallInfo}
use Rattle.lua_machine.specs.Nests.{call_at, Begins}
use Rattle.lua_machine.proofs.NestLemmas.{nests_call, ready_above, begins_there}
use Rattle.lua_machine.proofs.nest.nest_call.Goals as goal

pub returns-clause-nests : goal.returns-clause-nests
returns-clause-nests c =
    let begun = c.in-Some.begun in
    let e = c.begin.new.self in
    let begins = subst (λ (n : ℕ). Begins c.args.code.now c.args.heap.now.closures c.args.row.now n c.args.base c.args.args c.args.pace.left begun.function begun.closure begun.base begun.left) c.requires.ready.begins c.in-Some.ensures.begins in
    let held = subst (λ (x : CallInfo). Begins c.args.code.now c.args.heap.now.closures c.args.row.now (call_at c.args.calls.now c.args.here.depth).base c.args.base c.args.args c.args.pace.left x.function x.closure x.base begun.left) (sym c.begin.ensures) begins in
    nests_call _ _ _ _ _ _ _ _ _ _ e _ (omega arith) held (ap (λ (x : CallInfo). x.has_called) c.begin.ensures) c.wait.ensures

pub returns-clause-ready : goal.returns-clause-ready
returns-clause-ready c =
    let is = c.begin.ensures in
    let begun = c.in-Some.ensures in
    ready_above _ _ _ _ _ _ _ _ _ _ _ _ _ c.begin.new.self _ _ _ _ _ (omega arith) c.requires.next c.requires.ready c.wait.ensures c.requires.results
    (sym (ap (λ (x : CallInfo). x.function) is)) (sym (ap (λ (x : CallInfo). x.closure) is)) (sym (ap (λ (x : CallInfo). x.base) is)) begun.runs (begins_there _ _ _ _ _ c.requires.valid begun.runs) begun.begins.made
