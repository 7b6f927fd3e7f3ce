-- Arguments that stand where a call takes them leave the row as it is.
use Rattle.std.proofs.Common.{◌≡◌, ℕ, zero, suc, ◌+◌, ◌-◌, ◌≤◌, Bool, List, [], ◌∷◌, ◌++◌, length, Option, Some, refl, sym, ap, ◌∙◌, arith}
use Rattle.std.specs.Prelude.{slice_set, slice_get, replicate, drop, if◌then◌else◌}
use Rattle.lua_value.specs.declared.value.Value.{Value}
use Rattle.lua_value.specs.declared.value.Value.TheVariants as value
use Rattle.lua_value.specs.Lists.{value_at, adjusted}
use Rattle.lua_code.specs.Routine.{Routine}
use Rattle.lua_code.specs.declared.op.Op.TheVariants as op
use Rattle.lua_steps.specs.Machine.{Code, Closure, Machine, InSlots, Budget, Went, On, Off}
use Rattle.lua_steps.specs.Moves.{written, values_from, slot, slots_from}
use Rattle.lua_steps.specs.Calls.{room, grown, opened, begins, enter, calls, waiting}
use Rattle.lua_steps.specs.Exec.{line, perform}
use Rattle.lua_machine.specs.Stack.{Stacked, plain}
use Rattle.lua_machine.specs.Passes.{Fits}

set_own : (row : List Value) (i : ℕ) → slice_set row i (value_at row i) ≡ row
set_own [] i = refl
set_own (v ∷ row) zero = refl
set_own (v ∷ row) (suc i) = ap (λ (r : List Value). v ∷ r) (set_own row i)

pub written_own : (p n b : ℕ) (row : List Value) → p ≤ n → written row b (adjusted p (values_from row b n)) ≡ row
written_own zero n b row le = refl
written_own (suc p) zero b row le = absurd (omega arith)
written_own (suc p) (suc n) b row le = ap (λ (r : List Value). written r (b + 1) (adjusted p (values_from row (b + 1) n))) (set_own row b) ∙ written_own p n (b + 1) row (omega arith)

append_none : (row : List Value) → row ++ [] ≡ row
append_none [] = refl
append_none (v ∷ row) = ap (λ (r : List Value). v ∷ r) (append_none row)

pub grown_none : (n : ℕ) (row : List Value) → n ≤ length row → grown n row ≡ row
grown_none n row le =
    let none : n - length row ≡ 0 = omega arith in
    ap (λ (k : ℕ). row ++ replicate k value.Nil) none ∙ append_none row

pub passes_call : (code : Code) (m : Machine) (base args results k place : ℕ) (c : Closure) (f : Routine) (s : Stacked) → slot m base ≡ value.Func k → slice_get m.closures k ≡ Some c → slice_get code c.function ≡ Some f
    → place ≡ m.top.base + (base + 1) → Fits f.shape args place (length m.row) m.left → s ≡ record { top = plain c f.shape.cells place; below = waiting (InSlots base results) m.top ∷ m.below }
    → perform code (op.Call base args results) m ≡ On (record m { top = record s.top { at = 0 }; below = s.below; left = m.left - f.shape.pay })
passes_call code m base args results k place c f s is_func is_closure is_routine is_place fits is_entered =
    let at = Some (line code m) in
    let vs = slots_from m (base + 1) args in
    let b = m.top.base + base + 1 in
    let w = waiting (InSlots base results) m.top in
    let n = f.shape.params in
    let left = m.left - f.shape.pay in
    let same : b ≡ place = omega arith in
    let stand : vs ≡ values_from m.row place args = ap (λ (x : ℕ). values_from m.row x args) (sym is_place) in
    let entered : Machine → Went = λ (t : Machine). On (record t { top = opened c f vs b; below = w ∷ m.below; row = written (grown (b + room f.shape) t.row) b (adjusted n vs) }) in
    ap (λ (x : Value). calls code at x vs b w m) is_func
    ∙ ap (λ (x : Option Closure). enter code x at (value.Func k) vs b (w ∷ m.below) m) is_closure
    ∙ ap (λ (x : Option Routine). begins x c vs b (w ∷ m.below) m) is_routine
    ∙ ap (λ (x : Bool). if x then Off Budget m else entered (record m { left = left })) fits.paid
    ∙ ap (λ (x : ℕ). On (record m { left = left; top = opened c f vs x; below = w ∷ m.below; row = written (grown (x + room f.shape) m.row) x (adjusted n vs) })) same
    ∙ ap (λ (x : Bool). On (record m { left = left; top = record (plain c f.shape.cells place) { dots = if x then drop n vs else [] }; below = w ∷ m.below; row = written (grown (place + room f.shape) m.row) place (adjusted n vs) })) fits.no_dots
    ∙ ap (λ (x : List Value). On (record m { left = left; top = plain c f.shape.cells place; below = w ∷ m.below; row = written x place (adjusted n vs) })) (grown_none (place + room f.shape) m.row fits.long_enough)
    ∙ ap (λ (x : List Value). On (record m { left = left; top = plain c f.shape.cells place; below = w ∷ m.below; row = written m.row place (adjusted n x) })) stand
    ∙ ap (λ (x : List Value). On (record m { left = left; top = plain c f.shape.cells place; below = w ∷ m.below; row = x })) (written_own n args place m.row fits.filled)
    ∙ ap (λ (x : Stacked). On (record m { left = left; top = record x.top { at = 0 }; below = x.below })) (sym is_entered)
