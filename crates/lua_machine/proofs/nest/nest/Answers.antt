use Rattle.std.proofs.Common.{◌≡◌, ◌<◌, List, sym, ap, ◌∙◌, subst}
use Rattle.lua_value.specs.declared.value.Value.{Value}
use Rattle.lua_heap.specs.Contents.{Contents}
use Rattle.lua_steps.specs.Machine.{Closure}
use Rattle.lua_machine.specs.declared.call_info.CallInfo.{CallInfo}
use Rattle.lua_machine.specs.Nests.{Nests, Nested}
use Rattle.lua_machine.proofs.NestLemmas.{nested_join, nested_next, nested_falls, rank_of}
use Rattle.lua_machine.proofs.nest.nest.Goals as goal

pub returns-in_default-clause-ran : goal.returns-in_default-clause-ran
returns-in_default-clause-ran c =
    let code = c.args.code.now in
    let here = c.calls.here in
    let pace = c.hasten-reached.result.pace in
    let old = c.args.heap.now in
    let start = c.args.start in
    let cells = c.hasten-reached.new.heap.cells in
    let same : c.calls.heap.closures ≡ old.closures = ap (λ (h : Contents). h.closures) c.calls.invariant.heap in
    let ran = subst (λ (cs : List Closure). Nested code cs c.calls.calls here.depth c.calls.row c.calls.heap.cells here.pace c.calls.calls here.depth c.hasten-reached.new.row cells pace) same c.hasten-reached.ensures.ran in
    let joined = nested_join _ _ _ _ _ _ _ _ _ _ _ _ _ _ _ _ _ c.calls.invariant.ran ran in
    subst (λ (xs : List CallInfo). Nested code old.closures c.args.calls.now start.depth c.args.row.now old.cells start.pace xs here.depth c.nest_pass.new.row cells pace) (sym c.in_default.ensures.none.0)
    (subst (λ (r : List Value). Nested code old.closures c.args.calls.now start.depth c.args.row.now old.cells start.pace c.calls.calls here.depth r cells pace) (sym c.in_default.ensures.none.1) joined)

pub calls-smaller : goal.calls-smaller
calls-smaller c =
    let code = c.args.code.now in
    let here = c.calls.here in
    let next = c.in-Some.next in
    let cells = c.hasten-reached.new.heap.cells in
    let same : c.hasten-reached.new.heap.closures ≡ c.calls.heap.closures = ap (λ (h : Contents). h.closures) c.hasten-reached.ensures.heap in
    let goes =
    subst (λ (cs : List Closure). Nests code cs c.hasten-reached.result.op c.calls.calls here.depth c.hasten-reached.new.row c.hasten-reached.result.pace c.nest_pass.new.calls next.depth c.nest_pass.new.row next.pace) same
    c.in-Some.ensures.nests in
    let fell = nested_falls _ _ _ _ _ _ _ _ _ _ _ _ _ _ _ _ _ c.law_measure_falls.ensures c.requires.valid c.hasten-reached.ensures.ran c.hasten-reached.ensures.op goes in
    subst (λ (cs : List Closure). rank_of code cs c.nest_pass.new.calls next.depth c.nest_pass.new.row cells next.pace < rank_of code c.calls.heap.closures c.calls.calls here.depth c.calls.row c.calls.heap.cells here.pace) (sym same) fell

pub calls-preserved : goal.calls-preserved
calls-preserved c =
    let code = c.args.code.now in
    let here = c.calls.here in
    let next = c.in-Some.next in
    let pace = c.hasten-reached.result.pace in
    let old = c.args.heap.now in
    let cells = c.hasten-reached.new.heap.cells in
    let before : c.calls.heap.closures ≡ old.closures = ap (λ (h : Contents). h.closures) c.calls.invariant.heap in
    let same : c.hasten-reached.new.heap.closures ≡ old.closures = ap (λ (h : Contents). h.closures) c.hasten-reached.ensures.heap ∙ before in
    let ran = subst (λ (cs : List Closure). Nested code cs c.calls.calls here.depth c.calls.row c.calls.heap.cells here.pace c.calls.calls here.depth c.hasten-reached.new.row cells pace) before c.hasten-reached.ensures.ran in
    let goes = subst (λ (cs : List Closure). Nests code cs c.hasten-reached.result.op c.calls.calls here.depth c.hasten-reached.new.row pace c.nest_pass.new.calls next.depth c.nest_pass.new.row next.pace) same c.in-Some.ensures.nests in
    record {
      ready = c.in-Some.ensures.ready;
      ran = nested_next _ _ _ _ _ _ _ _ _ _ _ _ _ _ _ _ _ (nested_join _ _ _ _ _ _ _ _ _ _ _ _ _ _ _ _ _ c.calls.invariant.ran ran) c.hasten-reached.ensures.op goes;
      heap = c.hasten-reached.ensures.heap ∙ ap (λ (h : Contents). record h { cells = cells }) c.calls.invariant.heap;
    }
