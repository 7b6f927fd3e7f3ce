use Rattle.std.proofs.Common.{◌≡◌, ℕ, ◌+◌, length, Some, sym, ap, ◌∙◌, subst, arith}
use Rattle.std.specs.Prelude.{slice_get}
use Rattle.lua_code.specs.declared.function.Shape.{Shape}
use Rattle.lua_machine.specs.Passes.{Fits}
use Rattle.lua_machine.proofs.NestLemmas.{begins_so}
use Rattle.lua_machine.proofs.nest.entry.Goals as goal

pub returns-clause-begins : goal.returns-clause-begins
returns-clause-begins c =
    let k = c.in-Some.closure.now in
    let f = c.in-Some-function_at.routine.now in
    let row = c.args.row.now in
    let place = c.args.from + c.args.base + 1 in
    let is_routine : slice_get c.args.code.now k.function ≡ Some f = ap (λ (i : ℕ). slice_get c.args.code.now i) (sym c.function.ensures) ∙ sym c.in-Some-function_at.ensures in
    let is_place : place ≡ c.args.from + (c.args.base + 1) = omega arith in
    let fits : Fits f.shape c.args.args place (length row) c.args.left = subst (λ (x : Shape). Fits x c.args.args place (length row) c.args.left) c.shape-shape.ensures c.if-not-fits.ensures in
    let none : c.shape-shape.result.cells ≡ 0 = omega (arith, c.if-shape-ne0.false) in
    let no_cells : f.shape.cells ≡ 0 = ap (λ (x : Shape). x.cells) (sym c.shape-shape.ensures) ∙ none in
    begins_so _ _ _ _ _ _ _ _ _ _ _ k f (sym c.value_there.ensures ∙ c.in-Func.is) (sym c.in-Some.ensures) is_routine is_place fits no_cells c.function-2.ensures (c.from.ensures ∙ ap (λ (x : Shape). x.pay) c.shape-shape.ensures)
