use Rattle.std.proofs.Common.{◌≡◌, ◌<◌, ℕ, List, sym, ap, ◌∙◌, subst, arith}
use Rattle.lua_value.specs.declared.value.Value.{Value}
use Rattle.lua_heap.specs.Contents.{Contents}
use Rattle.lua_steps.specs.Machine.{Closure}
use Rattle.lua_steps.specs.Measure.{total, rank}
use Rattle.lua_machine.specs.Nests.{over, Advanced}
use Rattle.lua_machine.specs.Stack.{Stacked, stacked}
use Rattle.lua_machine.specs.Stretch.{at_work, Stretched}
use Rattle.lua_machine.proofs.StretchLemmas.{holding, stretched_join}
use Rattle.lua_machine.proofs.NestLemmas.{advanced_falls}
use Rattle.lua_machine.proofs.stretch.stretch.Goals as goal

pub returns-in_default-pass-clause-ran : goal.returns-in_default-pass-clause-ran
returns-in_default-pass-clause-ran c =
    let code = c.args.code.now in
    let old = c.args.heap.now in
    let s = stacked c.frames.frames c.frames.here.depth in
    let first = stacked c.args.frames.now c.args.depth in
    let pace = c.in-Some.reached.pace in
    let none = c.in_default-pass.ensures.none in
    let same : c.frames.heap.closures ≡ old.closures = ap (λ (h : Contents). h.closures) c.frames.invariant.heap in
    let ran = subst (λ (cs : List Closure). Stretched code cs s c.frames.row c.frames.heap.cells c.frames.here.pace s c.hasten.new.row c.hasten.new.heap.cells pace) same c.in-Some.ensures.ran in
    let joined = stretched_join _ _ _ _ _ _ _ _ _ _ _ _ _ _ c.frames.invariant.ran ran in
    let in_heap = subst (λ (h : Contents). Stretched code old.closures first c.args.row.now old.cells c.args.start s c.hasten.new.row h.cells pace) (sym none.2) joined in
    let in_row = subst (λ (r : List Value). Stretched code old.closures first c.args.row.now old.cells c.args.start s r c.pass.new.heap.cells pace) (sym none.1) in_heap in
    subst (λ (t : Stacked). Stretched code old.closures first c.args.row.now old.cells c.args.start t c.pass.new.row c.pass.new.heap.cells pace) (sym none.0) in_row

pub returns-then-next-gt0-clause-ran : goal.returns-then-next-gt0-clause-ran
returns-then-next-gt0-clause-ran c =
    let code = c.args.code.now in
    let old = c.args.heap.now in
    let s = stacked c.frames.frames c.frames.here.depth in
    let next = c.in-Some-pass.next in
    let pace = c.in-Some.reached.pace in
    let before : c.frames.heap.closures ≡ old.closures = ap (λ (h : Contents). h.closures) c.frames.invariant.heap in
    let same : c.hasten.new.heap.closures ≡ old.closures = ap (λ (h : Contents). h.closures) c.in-Some.ensures.heap ∙ before in
    let ran = subst (λ (cs : List Closure). Stretched code cs s c.frames.row c.frames.heap.cells c.frames.here.pace s c.hasten.new.row c.hasten.new.heap.cells pace) before c.in-Some.ensures.ran in
    let passed =
    subst
    (λ (cs : List Closure). Advanced code cs s c.hasten.new.row c.hasten.new.heap.cells pace (over cs c.pass.new.calls next.inner (stacked c.pass.new.frames next.depth)) c.pass.new.row c.pass.new.heap.cells next.pace)
    same c.in-Some-pass.ensures.advanced in
    stretched_join _ _ _ _ _ _ _ _ _ _ _ _ _ _ (stretched_join _ _ _ _ _ _ _ _ _ _ _ _ _ _ c.frames.invariant.ran ran) passed.is

pub frames-smaller : goal.frames-smaller
frames-smaller c =
    let code = c.args.code.now in
    let s = stacked c.frames.frames c.frames.here.depth in
    let t = stacked c.pass.new.frames c.in-Some-pass.next.depth in
    let next = c.in-Some-pass.next in
    let pace = c.in-Some.reached.pace in
    let none : next.inner ≡ 0 = omega (arith, c.if-next-gt0.false) in
    let same : c.hasten.new.heap.closures ≡ c.frames.heap.closures = ap (λ (h : Contents). h.closures) c.in-Some.ensures.heap in
    let later : c.pass.new.heap.closures ≡ c.frames.heap.closures = ap (λ (h : Contents). h.closures) c.in-Some-pass.ensures.heap ∙ same in
    let in_heap =
    subst
    (λ (cs : List Closure). Advanced code cs s c.hasten.new.row c.hasten.new.heap.cells pace (over cs c.pass.new.calls next.inner t) c.pass.new.row c.pass.new.heap.cells next.pace)
    same c.in-Some-pass.ensures.advanced in
    let passed = subst (λ (n : ℕ). Advanced code c.frames.heap.closures s c.hasten.new.row c.hasten.new.heap.cells pace (over c.frames.heap.closures c.pass.new.calls n t) c.pass.new.row c.pass.new.heap.cells next.pace) none in_heap in
    let fell = advanced_falls _ _ _ _ _ _ _ _ _ _ _ _ _ _ c.law_measure_falls.ensures c.requires.valid c.in-Some.ensures.ran passed in
    subst
    (λ (cs : List Closure). rank (total code) (at_work t c.pass.new.row c.pass.new.heap.cells next.pace (holding cs)) < rank (total code) (at_work s c.frames.row c.frames.heap.cells c.frames.here.pace (holding c.frames.heap.closures)))
    (sym later) fell

pub frames-preserved : goal.frames-preserved
frames-preserved c =
    let code = c.args.code.now in
    let old = c.args.heap.now in
    let s = stacked c.frames.frames c.frames.here.depth in
    let t = stacked c.pass.new.frames c.in-Some-pass.next.depth in
    let next = c.in-Some-pass.next in
    let pace = c.in-Some.reached.pace in
    let none : next.inner ≡ 0 = omega (arith, c.if-next-gt0.false) in
    let before : c.frames.heap.closures ≡ old.closures = ap (λ (h : Contents). h.closures) c.frames.invariant.heap in
    let same : c.hasten.new.heap.closures ≡ old.closures = ap (λ (h : Contents). h.closures) c.in-Some.ensures.heap ∙ before in
    let ran = subst (λ (cs : List Closure). Stretched code cs s c.frames.row c.frames.heap.cells c.frames.here.pace s c.hasten.new.row c.hasten.new.heap.cells pace) before c.in-Some.ensures.ran in
    let in_heap = subst (λ (cs : List Closure). Advanced code cs s c.hasten.new.row c.hasten.new.heap.cells pace (over cs c.pass.new.calls next.inner t) c.pass.new.row c.pass.new.heap.cells next.pace) same c.in-Some-pass.ensures.advanced in
    let passed = subst (λ (n : ℕ). Advanced code old.closures s c.hasten.new.row c.hasten.new.heap.cells pace (over old.closures c.pass.new.calls n t) c.pass.new.row c.pass.new.heap.cells next.pace) none in_heap in
    record {
      within = c.in-Some-pass.ensures.depth;
      inner = none;
      ran = stretched_join _ _ _ _ _ _ _ _ _ _ _ _ _ _ (stretched_join _ _ _ _ _ _ _ _ _ _ _ _ _ _ c.frames.invariant.ran ran) passed.is;
      heap = c.in-Some-pass.ensures.heap ∙ ap (λ (h : Contents). record h { cells = c.pass.new.heap.cells }) (c.in-Some.ensures.heap ∙ ap (λ (h : Contents). record h { cells = c.hasten.new.heap.cells }) c.frames.invariant.heap);
    }
