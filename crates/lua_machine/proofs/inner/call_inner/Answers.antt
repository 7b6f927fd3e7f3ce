use Rattle.std.proofs.Common.{rules, ◌≡◌, ◌<◌, ℕ, length, sym, ap, ◌∙◌, subst}
use Rattle.lua_steps.specs.Machine as steps
use Rattle.lua_steps.specs.Calls.{waiting}
use Rattle.lua_machine.specs.declared.call_info.CallInfo.{CallInfo}
use Rattle.lua_machine.specs.Nests.{Begins}
use Rattle.lua_machine.specs.Stack.{stacked, under}
use Rattle.lua_machine.proofs.StackLemmas.{stacked_set, at_any}
use Rattle.lua_machine.proofs.NestLemmas.{nests_first, ready_first, begins_there}
use Rattle.lua_machine.proofs.inner.call_inner.Goals as goal

pub returns-clause-goes : goal.returns-clause-goes
returns-clause-goes c =
    let code = c.args.code.now in
    let d = c.args.depth in
    let fs = c.args.frames.now in
    let s = stacked fs d in
    let at = c.args.pace.at in
    let results = c.args.results in
    let begun = c.in-Some.begun in
    let begins : c.top.inside.base ≡ s.top.base = ap (λ (x : steps.Frame). x.base) (c.top.view_is ∙ at_any d fs _ c.requires.within) in
    let entry = subst (λ (n : ℕ). Begins code c.args.heap.now.closures c.args.row.now n c.args.base c.args.args c.args.pace.left begun.function begun.closure begun.base begun.left) begins c.in-Some.ensures.begins in
    let held = subst (λ (x : CallInfo). Begins code c.args.heap.now.closures c.args.row.now s.top.base c.args.base c.args.args c.args.pace.left x.function x.closure x.base begun.left) (sym c.begin.ensures) entry in
    let waits =
    c.wait_at.ensures
    ∙ ap (λ (x : steps.Frame). waiting (steps.InSlots c.from.result results) (record x { at = at })) (at_any d fs _ c.requires.within)
    ∙ ap (λ (n : ℕ). waiting (steps.InSlots n results) (record s.top { at = at })) c.from.ensures in
    let ended = stacked_set d fs c.wait_at.new.self c.requires.within ∙ ap (λ (x : steps.Frame). record { top = x; below = under d fs }) waits in
    let there : 0 < length c.args.calls.now = search rules in
    nests_first _ _ _ _ c.args.calls.now _ _ _ _ _ _ c.begin.new.self there held (ap (λ (x : CallInfo). x.has_called) c.begin.ensures) ended

pub returns-clause-ready : goal.returns-clause-ready
returns-clause-ready c =
    let is = c.begin.ensures in
    let begun = c.in-Some.ensures in
    let there : 0 < length c.args.calls.now = search rules in
    ready_first _ _ c.args.calls.now _ c.begin.new.self _ _ _ _ there (sym (ap (λ (x : CallInfo). x.function) is)) (sym (ap (λ (x : CallInfo). x.closure) is)) (sym (ap (λ (x : CallInfo). x.base) is)) begun.runs
    (begins_there _ _ _ _ _ c.requires.valid begun.runs) begun.begins.made
