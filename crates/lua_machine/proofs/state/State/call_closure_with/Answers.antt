use Rattle.std.proofs.Common.{◌≡◌, ℕ, ◌+◌, ◌-◌, ◌<◌, ◌≤◌, ◌∷◌, Some, sym, ap, ◌∙◌, arith}
use Rattle.std.specs.Prelude.{slice_get}
use Rattle.lua_value.specs.declared.value.Value.TheVariants as value
use Rattle.lua_value.specs.Lists.{adjusted}
use Rattle.lua_code.specs.declared.function.Shape.{Shape}
use Rattle.lua_steps.specs.Machine as steps
use Rattle.lua_steps.specs.Moves.{written, values_from}
use Rattle.lua_steps.specs.Calls.{room, grown, rest_of, waiting}
use Rattle.lua_machine.specs.Stack.{plain}
use Rattle.lua_machine.specs.Wants.{wanted_of}
use Rattle.lua_machine.proofs.InPlaceLemmas.{not_entered, entered}
use Rattle.lua_machine.proofs.state.State.call_closure_with.Goals as goal

pub returns-then-self-from : goal.returns-then-self-from
returns-then-self-from c =
    let m = c.args.self.now in
    let k = c.in-Some.closure.now in
    let f = c.in-Some-function_at.function.now in
    let is_closure : slice_get m.closures c.args.closure ≡ Some k = sym (ap (λ (x : steps.Machine). slice_get x.closures c.args.closure) c.self.view_is) ∙ sym c.in-Some.ensures in
    let is_routine : slice_get c.args.code.now k.function ≡ Some f = ap (λ (i : ℕ). slice_get c.args.code.now i) (sym c.function.ensures) ∙ sym c.in-Some-function_at.ensures in
    let pay : c.from.result ≡ f.shape.pay = c.from.ensures ∙ ap (λ (x : Shape). x.pay) c.shape-shape.ensures in
    let left : c.self.inside.left ≡ m.left = ap (λ (x : steps.Machine). x.left) c.self.view_is in
    let short : c.self.inside.left < c.from.result = c.if-self-from.true in
    not_entered c.args.code.now m c.args.closure c.args.line (value.Func c.args.closure) k f (values_from m.row c.args.args.from c.args.args.count) c.args.base (waiting (wanted_of c.args.wants) m.top ∷ m.below) is_closure is_routine (omega arith)

pub returns : goal.returns
returns c =
    let m = c.args.self.now in
    let here = c.self.inside in
    let k = c.in-Some.closure.now in
    let f = c.in-Some-function_at.function.now in
    let shape = c.shape-shape.result in
    let b = c.args.base in
    let s = c.args.args.from in
    let n = c.args.args.count in
    let waits = waiting (wanted_of c.args.wants) m.top in
    let is_closure : slice_get m.closures c.args.closure ≡ Some k = sym (ap (λ (x : steps.Machine). slice_get x.closures c.args.closure) c.self.view_is) ∙ sym c.in-Some.ensures in
    let is_routine : slice_get c.args.code.now k.function ≡ Some f = ap (λ (i : ℕ). slice_get c.args.code.now i) (sym c.function.ensures) ∙ sym c.in-Some-function_at.ensures in
    let pay : c.from-2.result ≡ f.shape.pay = c.from-2.ensures ∙ ap (λ (x : Shape). x.pay) c.shape-shape.ensures in
    let first_pay : c.from.result ≡ f.shape.pay = c.from.ensures ∙ ap (λ (x : Shape). x.pay) c.shape-shape.ensures in
    let left : here.left ≡ m.left = ap (λ (x : steps.Machine). x.left) c.self.view_is in
    let enough : c.from.result ≤ here.left = omega arith in
    let stack : c.begin.new.self ≡ record { top = plain k shape.cells b; below = waits ∷ m.below } = c.in_ok-begin.ensures ∙ ap (λ (x : steps.Machine). record { top = plain k shape.cells b; below = waiting (wanted_of c.args.wants) x.top ∷ x.below }) c.self.view_is in
    let begun : steps.Machine → steps.Machine = λ (x : steps.Machine).
    record x {
      top = record c.begin.new.self.top { dots = rest_of shape.has_dots shape.params (values_from x.row s n) };
      below = c.begin.new.self.below;
      row = written (grown (b + room shape) x.row) b (adjusted shape.params (values_from x.row s n));
      left = x.left - c.from-2.result;
    } in
    entered c.args.code.now m c.take_args.new.self c.args.closure c.args.line (value.Func c.args.closure) k f shape c.begin.new.self (values_from m.row s n) b c.from-2.result (waits ∷ m.below) is_closure is_routine c.shape-shape.ensures pay (omega arith) stack (c.in_ok-take_args.ensures ∙ ap begun c.self.view_is)
