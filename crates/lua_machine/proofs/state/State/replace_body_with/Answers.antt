use Rattle.std.proofs.Common.{◌≡◌, ℕ, ◌+◌, ◌-◌, ◌<◌, ◌≤◌, List, Some, sym, ap, ◌∙◌, arith}
use Rattle.std.specs.Prelude.{slice_get}
use Rattle.lua_value.specs.declared.value.Value.TheVariants as value
use Rattle.lua_value.specs.Lists.{adjusted}
use Rattle.lua_code.specs.declared.function.Shape.{Shape}
use Rattle.lua_steps.specs.Machine as steps
use Rattle.lua_steps.specs.Moves.{written, values_from}
use Rattle.lua_steps.specs.Calls.{room, grown, rest_of}
use Rattle.lua_machine.specs.Stack.{Stacked, plain}
use Rattle.lua_machine.proofs.InPlaceLemmas.{not_entered, entered}
use Rattle.lua_machine.proofs.state.State.replace_body_with.Goals as goal

pub returns-then-self-from : goal.returns-then-self-from
returns-then-self-from c =
    let m = c.args.self.now in
    let k = c.in-Some.closure.now in
    let f = c.in-Some-function_at.function.now in
    let is_closure : slice_get m.closures c.args.closure ≡ Some k = sym (ap (λ (x : steps.Machine). slice_get x.closures c.args.closure) c.self.view_is) ∙ sym c.in-Some.ensures in
    let is_routine : slice_get c.args.code.now k.function ≡ Some f = ap (λ (i : ℕ). slice_get c.args.code.now i) (sym c.function.ensures) ∙ sym c.in-Some-function_at.ensures in
    let pay : c.from.result ≡ f.shape.pay = c.from.ensures ∙ ap (λ (x : Shape). x.pay) c.shape-shape.ensures in
    let left : c.self.inside.left ≡ m.left = ap (λ (x : steps.Machine). x.left) c.self.view_is in
    let short : c.self.inside.left < c.from.result = c.if-self-from.true in
    not_entered c.args.code.now m c.args.closure (Some c.args.line) (value.Func c.args.closure) k f (values_from m.row c.args.args.from c.args.args.count) m.top.base m.below is_closure is_routine (omega arith)

pub returns : goal.returns
returns c =
    let m = c.args.self.now in
    let here = c.self.inside in
    let k = c.in-Some.closure.now in
    let f = c.in-Some-function_at.function.now in
    let shape = c.shape-shape.result in
    let b = m.top.base in
    let s = c.args.args.from in
    let n = c.args.args.count in
    let is_closure : slice_get m.closures c.args.closure ≡ Some k = sym (ap (λ (x : steps.Machine). slice_get x.closures c.args.closure) c.self.view_is) ∙ sym c.in-Some.ensures in
    let is_routine : slice_get c.args.code.now k.function ≡ Some f = ap (λ (i : ℕ). slice_get c.args.code.now i) (sym c.function.ensures) ∙ sym c.in-Some-function_at.ensures in
    let pay : c.from-2.result ≡ f.shape.pay = c.from-2.ensures ∙ ap (λ (x : Shape). x.pay) c.shape-shape.ensures in
    let first_pay : c.from.result ≡ f.shape.pay = c.from.ensures ∙ ap (λ (x : Shape). x.pay) c.shape-shape.ensures in
    let left : here.left ≡ m.left = ap (λ (x : steps.Machine). x.left) c.self.view_is in
    let enough : c.from.result ≤ here.left = omega arith in
    let begins : c.top.inside.base ≡ b = ap (λ (x : steps.Frame). x.base) (c.top.view_is ∙ c.top_mut-top.ensures.value) ∙ ap (λ (x : steps.Machine). x.top.base) c.self.view_is in
    let opens : c.reopen.new.self ≡ plain k shape.cells b =
    c.in_ok-reopen.ensures
    ∙ ap (λ (i : ℕ). plain (record { function = i; cells = c.cells.result.now }) shape.cells c.top.inside.base) c.function-2.ensures
    ∙ ap (λ (xs : List ℕ). plain (record { function = k.function; cells = xs }) shape.cells c.top.inside.base) c.cells.ensures
    ∙ ap (λ (i : ℕ). plain k shape.cells i) begins in
    let stack : Stacked = record { top = c.reopen.new.self; below = m.below } in
    let is_stack : stack ≡ record { top = plain k shape.cells b; below = m.below } = ap (λ (x : steps.Frame). record { top = x; below = m.below }) opens in
    let begun : ℕ → steps.Machine → steps.Machine = λ (i : ℕ) (x : steps.Machine).
    record x {
      top = record c.reopen.new.self { dots = rest_of shape.has_dots shape.params (values_from x.row s n) };
      row = written (grown (i + room shape) x.row) i (adjusted shape.params (values_from x.row s n));
      left = x.left - c.from-2.result;
    } in
    entered c.args.code.now m c.take_args.new.self c.args.closure (Some c.args.line) (value.Func c.args.closure) k f shape stack (values_from m.row s n) b c.from-2.result m.below is_closure is_routine c.shape-shape.ensures pay (omega arith) is_stack (c.in_ok-take_args.ensures ∙ ap (begun c.top.inside.base) c.self.view_is ∙ ap (λ (i : ℕ). begun i m) begins)
