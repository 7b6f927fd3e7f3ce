use Rattle.std.proofs.Common.{◌≡◌, ℕ, ◌+◌, ◌-◌, ◌∷◌, length, Some, List, sym, ap, ◌∙◌, subst, arith}
use Rattle.std.specs.Prelude.{slice_get}
use Rattle.lua_value.specs.declared.value.Value.TheVariants as value
use Rattle.lua_value.specs.Lists.{value_at}
use Rattle.lua_code.specs.declared.function.Shape.{Shape}
use Rattle.lua_steps.specs.Machine as steps
use Rattle.lua_steps.specs.Moves.{slot}
use Rattle.lua_steps.specs.Calls.{waiting}
use Rattle.lua_machine.specs.Stack.{plain, stacked}
use Rattle.lua_machine.specs.Stretch.{at_work}
use Rattle.lua_machine.specs.Passes.{Fits}
use Rattle.lua_machine.proofs.StackLemmas.{at_any}
use Rattle.lua_machine.proofs.PassLemmas.{passes_call}
use Rattle.lua_machine.proofs.pass.pass_call.Goals as goal

pub returns-clause-goes : goal.returns-clause-goes
returns-clause-goes c =
    let code = c.args.code.now in
    let base = c.args.base in
    let row = c.args.row.now in
    let d = c.args.depth in
    let fs = c.args.frames.now in
    let s = stacked fs d in
    let f = c.in-Some-function_at.function.now in
    let k = c.in-Some-closure_at.closure.now in
    let place = c.in-Some.place in
    let t = stacked c.enter.new.frames (d + 1) in
    let wants = steps.InSlots base c.args.results in
    let shape = c.shape-shape.result in
    let begins : c.top.inside.base ≡ s.top.base = ap (λ (x : steps.Frame). x.base) (c.top.view_is ∙ at_any d fs _ c.requires.within) in
    let after : place ≡ c.top.inside.base + (c.from.result + 1) = c.in-Some.ensures.1 in
    let from : c.from.result ≡ base = c.from.ensures in
    let is_place : place ≡ s.top.base + (base + 1) = omega arith in
    let fits : Fits f.shape c.args.args place (length row) c.args.pace.left = subst (λ (x : Shape). Fits x c.args.args place (length row) c.args.pace.left) c.shape-shape.ensures c.if-not-fits.ensures in
    let ran : steps.Frame = record s.top { at = c.args.pace.at } in
    let entered : t ≡ record { top = plain k f.shape.cells place; below = waiting wants ran ∷ s.below } =
    c.if-not-enter.ensures.0
    ∙ ap (λ (n : ℕ). record { top = plain k shape.cells place; below = waiting (steps.InSlots n c.args.results) ran ∷ s.below }) c.from-2.ensures
    ∙ ap (λ (x : Shape). record { top = plain k x.cells place; below = waiting wants ran ∷ s.below }) c.shape-shape.ensures in
    let pay : c.from-3.result ≡ f.shape.pay = c.from-3.ensures ∙ ap (λ (x : Shape). x.pay) c.shape-shape.ensures in
    record {
      is = λ m cells same.
          let x = at_work s row cells c.args.pace m in
          let is_func : slot x base ≡ value.Func c.in-Func.number = ap (λ (n : ℕ). value_at row (n + base)) (sym begins) ∙ sym c.value_at.ensures ∙ c.in-Func.is in
          let is_closure : slice_get x.closures c.in-Func.number ≡ Some k = ap (λ (cs : List steps.Closure). slice_get cs c.in-Func.number) same ∙ sym c.in-Some-closure_at.ensures in
          let is_routine : slice_get code k.function ≡ Some f = ap (λ (i : ℕ). slice_get code i) (sym c.function.ensures) ∙ sym c.in-Some-function_at.ensures in
          passes_call code x base c.args.args c.args.results c.in-Func.number place k f t is_func is_closure is_routine is_place fits entered
          ∙ ap (λ (n : ℕ). steps.On (record x { top = record t.top { at = 0 }; below = t.below; left = c.args.pace.left - n })) (sym pay);
    }
