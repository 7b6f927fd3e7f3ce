use Rattle.std.proofs.Common.{◌≡◌, List, [], ◌∷◌, length, drop, refl, sym, ap, ◌∙◌, subst}
use Rattle.lua_value.specs.declared.value.Value.{Value}
use Rattle.lua_heap.specs.Contents.{Contents}
use Rattle.lua_steps.specs.Machine.{Busy, Machine, On}
use Rattle.lua_machine.specs.declared.call_info.CallInfo.{CallInfo}
use Rattle.lua_machine.specs.Nests.{over}
use Rattle.lua_machine.specs.Runs.{Runs}
use Rattle.lua_machine.specs.Stack.{Stacked}
use Rattle.lua_machine.proofs.QuickLemmas.{taken_all}
use Rattle.lua_machine.proofs.SettleLemmas.{held_on_ok}
use Rattle.lua_machine.proofs.state.State.hurry.Goals as goal

pub returns : goal.returns
returns c =
    let code = c.args.code.now in
    let s = c.self.inside in
    let t = c.hurry-ran.new.self in
    let inner = c.hurry-ran.result.inner in
    let left = c.hurry-ran.result.left in
    let row = c.hurry-ran.new.row in
    let heap = c.hurry-ran.new.heap in
    let calls = c.hurry-ran.new.calls in
    let stack = over s.heap.closures calls inner t in
    let before : List Value → Machine = λ r.
    record {
      top = s.stack.top;
      below = s.stack.below;
      row = r;
      cells = s.heap.cells;
      closures = s.heap.closures;
      left = s.left;
      aside = record { name = s.name; heap = s.heap.shared; running = 0; resumers = []; threads = Busy ∷ [] };
    } in
    let after : List Value → Contents → Stacked → Machine = λ r h x.
    record {
      top = x.top;
      below = x.below;
      row = r;
      cells = heap.cells;
      closures = h.closures;
      left = left;
      aside = record { name = s.name; heap = h.shared; running = 0; resumers = []; threads = Busy ∷ [] };
    } in
    let kept : c.as_slice-calls.result.now ≡ calls =
    c.as_slice-calls.ensures.value ∙ taken_all s.calls.len calls (drop (length calls) s.calls.items) (c.hurry-ran.auto.calls ∙ c.as_mut_slice-calls.ensures.len) in
    let settled : c.settle_inner.new.self ≡ stack =
    c.in_ok-settle_inner.ensures ∙ ap (λ (xs : List CallInfo). over heap.closures xs inner t) kept ∙ ap (λ (h : Contents). over h.closures calls inner t) c.hurry-ran.ensures.heap in
    let ended : c.make_places.new.self ≡ after row s.heap stack =
    c.make_places.ensures
    ∙ ap (λ (r : List Value). after r heap c.settle_inner.new.self) (taken_all s.row.len row (drop (length row) s.row.items) (c.hurry-ran.auto.row ∙ c.as_mut_slice-row.ensures.len))
    ∙ ap (λ (h : Contents). after row h c.settle_inner.new.self) c.hurry-ran.ensures.heap
    ∙ ap (λ (x : Stacked). after row s.heap x) settled in
    let ran : Runs code (before c.as_mut_slice-row.result.now) (On (after row s.heap stack)) = c.hurry-ran.ensures.ran.is (before c.as_mut_slice-row.result.now) refl in
    let begun : before c.as_mut_slice-row.result.now ≡ c.args.self.now = ap before c.as_mut_slice-row.ensures.value ∙ c.self.view_is in
    held_on_ok c.make_places.result (subst (λ (x : Machine). Runs code x (On c.make_places.new.self)) begun (subst (λ (x : Machine). Runs code (before c.as_mut_slice-row.result.now) (On x)) (sym ended) ran))
