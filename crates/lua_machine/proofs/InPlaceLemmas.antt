-- Values that a call or a return moves within the row.
use Rattle.std.proofs.Common.{◌≡◌, ◌≢◌, ℕ, zero, suc, ◌+◌, ◌-◌, ◌<◌, ◌≤◌, Bool, true, false, ltb, List, [], ◌∷◌, ◌++◌, length, drop, Option, Some, refl, sym, ap, ◌∙◌, arith}
use Rattle.std.specs.Prelude.{slice_set, slice_get, replicate, if◌then◌else◌}
use Rattle.std.proofs.lemmas.Bool.{ltb-true, ltb-false, lt-ltb, le-ltb}
use Rattle.lua_value.specs.declared.value.Value.{Value}
use Rattle.lua_value.specs.declared.value.Value.TheVariants as value
use Rattle.lua_value.specs.Lists.{value_at, adjusted}
use Rattle.lua_code.specs.declared.function.Shape.{Shape}
use Rattle.lua_code.specs.Routine.{Routine}
use Rattle.lua_steps.specs.Machine.{Code, Closure, Frame, Machine, Budget, Went, On, Off}
use Rattle.lua_steps.specs.Moves.{written, values_from}
use Rattle.lua_steps.specs.Calls.{room, grown, rest_of, opened, begins, enter}
use Rattle.lua_machine.specs.Stack.{Stacked, plain}
use Rattle.lua_machine.proofs.PassLemmas.{written_own}

-- ---- a value written elsewhere
at_other : (row : List Value) (t s : ℕ) (v : Value) → t ≢ s → value_at (slice_set row t v) s ≡ value_at row s
at_other [] t s v differs = refl
at_other (x ∷ row) zero zero v differs = absurd (differs refl)
at_other (x ∷ row) zero (suc s) v differs = refl
at_other (x ∷ row) (suc t) zero v differs = refl
at_other (x ∷ row) (suc t) (suc s) v differs = at_other row t s v (λ e. differs (ap suc e))

values_set : (row : List Value) (t : ℕ) (v : Value) (n s : ℕ) → (s ≤ t → s + n ≤ t) → values_from (slice_set row t v) s n ≡ values_from row s n
values_set row t v zero s apart = refl
values_set row t v (suc n) s apart =
    let differs : t ≢ s = λ e. omega arith in
    ap (λ (x : Value). x ∷ values_from (slice_set row t v) (s + 1) n) (at_other row t s v differs)
    ∙ ap (λ (xs : List Value). value_at row s ∷ xs) (values_set row t v n (s + 1) (λ le. omega arith))

-- ---- a row that grew
at_nils : (k s : ℕ) → value_at (replicate k value.Nil) s ≡ value.Nil
at_nils zero s = refl
at_nils (suc k) zero = refl
at_nils (suc k) (suc s) = at_nils k s

at_grown : (row : List Value) (k s : ℕ) → value_at (row ++ replicate k value.Nil) s ≡ value_at row s
at_grown [] k s = at_nils k s
at_grown (x ∷ row) k zero = refl
at_grown (x ∷ row) k (suc s) = at_grown row k s

values_more : (row : List Value) (k n s : ℕ) → values_from (row ++ replicate k value.Nil) s n ≡ values_from row s n
values_more row k zero s = refl
values_more row k (suc n) s =
    ap (λ (x : Value). x ∷ values_from (row ++ replicate k value.Nil) (s + 1) n) (at_grown row k s) ∙ ap (λ (xs : List Value). value_at row s ∷ xs) (values_more row k n (s + 1))

pub values_grown : (row : List Value) (m n s : ℕ) → values_from (grown m row) s n ≡ values_from row s n
values_grown row m n s = values_more row (m - length row) n s

-- ---- the values after the first
pub values_after : (row : List Value) (p n s : ℕ) → drop p (values_from row s n) ≡ values_from row (s + p) (n - p)
values_after row zero n s =
    let here : s ≡ s + 0 = omega arith in
    let all : n ≡ n - 0 = omega arith in
    ap (λ (x : ℕ). values_from row x n) here ∙ ap (λ (x : ℕ). values_from row (s + 0) x) all
values_after row (suc p) zero s =
    let none : 0 ≡ 0 - suc p = omega arith in
    ap (λ (x : ℕ). values_from row (s + suc p) x) none
values_after row (suc p) (suc n) s =
    let here : s + 1 + p ≡ s + suc p = omega arith in
    let left : n - p ≡ suc n - suc p = omega arith in
    values_after row p n (s + 1) ∙ ap (λ (x : ℕ). values_from row x (n - p)) here ∙ ap (λ (x : ℕ). values_from row (s + suc p) x) left

-- ---- a move, one value after another
adjusted_from : (row : List Value) (s n k i : ℕ)
    → adjusted (suc k) (values_from row (s + i) (n - i)) ≡ (if ltb i n then value_at row (s + i) else value.Nil) ∷ adjusted k (values_from row (s + (i + 1)) (n - (i + 1)))
adjusted_from row s n k i = go (ltb i n) refl where
  go : (b : Bool) → ltb i n ≡ b → adjusted (suc k) (values_from row (s + i) (n - i)) ≡ (if ltb i n then value_at row (s + i) else value.Nil) ∷ adjusted k (values_from row (s + (i + 1)) (n - (i + 1)))
  go true e =
      let lt : i < n = ltb-true i n e in
      let more : n - i ≡ suc (n - (i + 1)) = omega arith in
      let after : s + i + 1 ≡ s + (i + 1) = omega arith in
      let rest = adjusted k (values_from row (s + (i + 1)) (n - (i + 1))) in
      ap (λ (x : ℕ). adjusted (suc k) (values_from row (s + i) x)) more
      ∙ ap (λ (x : ℕ). value_at row (s + i) ∷ adjusted k (values_from row x (n - (i + 1)))) after
      ∙ ap (λ (x : Bool). (if x then value_at row (s + i) else value.Nil) ∷ rest) (sym e)
  go false e =
      let le : n ≤ i = ltb-false i n e in
      let none : n - i ≡ 0 = omega arith in
      let nothing : n - (i + 1) ≡ 0 = omega arith in
      ap (λ (x : ℕ). adjusted (suc k) (values_from row (s + i) x)) none
      ∙ ap (λ (x : ℕ). value.Nil ∷ adjusted k (values_from row (s + (i + 1)) x)) (sym nothing)
      ∙ ap (λ (x : Bool). (if x then value_at row (s + i) else value.Nil) ∷ adjusted k (values_from row (s + (i + 1)) (n - (i + 1)))) (sym e)

pub moved_next : (row all : List Value) (v : Value) (s t n p i : ℕ) → i < p → (s < t → s + n ≤ t) → v ≡ (if ltb i n then value_at row (s + i) else value.Nil)
    → written row (t + i) (adjusted (p - i) (values_from row (s + i) (n - i))) ≡ all
    → written (slice_set row (t + i) v) (t + (i + 1)) (adjusted (p - (i + 1)) (values_from (slice_set row (t + i) v) (s + (i + 1)) (n - (i + 1)))) ≡ all
moved_next row all v s t n p i lt apart is so_far =
    let put = slice_set row (t + i) v in
    let k = p - (i + 1) in
    let w : Value = if ltb i n then value_at row (s + i) else value.Nil in
    let vs = values_from row (s + (i + 1)) (n - (i + 1)) in
    let more : p - i ≡ suc k = omega arith in
    let after : t + (i + 1) ≡ t + i + 1 = omega arith in
    let keeps : s + (i + 1) ≤ t + i → s + (i + 1) + (n - (i + 1)) ≤ t + i = λ le. omega arith in
    ap (λ (x : List Value). written put (t + (i + 1)) (adjusted k x)) (values_set row (t + i) v (n - (i + 1)) (s + (i + 1)) keeps)
    ∙ ap (λ (x : ℕ). written put x (adjusted k vs)) after
    ∙ ap (λ (x : Value). written (slice_set row (t + i) x) (t + i + 1) (adjusted k vs)) is
    ∙ ap (λ (x : List Value). written row (t + i) x) (sym (adjusted_from row s n k i))
    ∙ ap (λ (x : ℕ). written row (t + i) (adjusted x (values_from row (s + i) (n - i)))) (sym more)
    ∙ so_far

-- ---- values that stand where they shall
set_own : (row : List Value) (i : ℕ) → slice_set row i (value_at row i) ≡ row
set_own row i = written_own 1 1 i row (omega arith)

stand_from : (k p n s : ℕ) (row : List Value) → k ≤ n → written row (s + k) (adjusted (p - k) (values_from row (s + k) (n - k))) ≡ written row s (adjusted p (values_from row s n))
stand_from zero p n s row le =
    let here : s + 0 ≡ s = omega arith in
    let count : p - 0 ≡ p = omega arith in
    let all : n - 0 ≡ n = omega arith in
    ap (λ (x : ℕ). written row x (adjusted (p - 0) (values_from row x (n - 0)))) here
    ∙ ap (λ (x : ℕ). written row s (adjusted x (values_from row s (n - 0)))) count
    ∙ ap (λ (x : ℕ). written row s (adjusted p (values_from row s x))) all
stand_from (suc k) zero n s row le =
    let none : 0 - suc k ≡ 0 = omega arith in
    ap (λ (x : ℕ). written row (s + suc k) (adjusted x (values_from row (s + suc k) (n - suc k)))) none
stand_from (suc k) (suc p) zero s row le = absurd (omega arith)
stand_from (suc k) (suc p) (suc n) s row le =
    let here : s + suc k ≡ s + 1 + k = omega arith in
    let count : suc p - suc k ≡ p - k = omega arith in
    let left : suc n - suc k ≡ n - k = omega arith in
    ap (λ (x : ℕ). written row x (adjusted (suc p - suc k) (values_from row x (suc n - suc k)))) here
    ∙ ap (λ (x : ℕ). written row (s + 1 + k) (adjusted x (values_from row (s + 1 + k) (suc n - suc k)))) count
    ∙ ap (λ (x : ℕ). written row (s + 1 + k) (adjusted (p - k) (values_from row (s + 1 + k) x))) left
    ∙ stand_from k p n (s + 1) row (omega arith)
    ∙ ap (λ (x : List Value). written x (s + 1) (adjusted p (values_from row (s + 1) n))) (sym (set_own row s))

pub moved_none : (k p n s t : ℕ) (row : List Value) → k ≤ n → (0 < k → s ≡ t) → written row (t + k) (adjusted (p - k) (values_from row (s + k) (n - k))) ≡ written row t (adjusted p (values_from row s n))
moved_none zero p n s t row le same =
    let there : t + 0 ≡ t = omega arith in
    let here : s + 0 ≡ s = omega arith in
    let count : p - 0 ≡ p = omega arith in
    let all : n - 0 ≡ n = omega arith in
    ap (λ (x : ℕ). written row x (adjusted (p - 0) (values_from row (s + 0) (n - 0)))) there
    ∙ ap (λ (x : ℕ). written row t (adjusted (p - 0) (values_from row x (n - 0)))) here
    ∙ ap (λ (x : ℕ). written row t (adjusted x (values_from row s (n - 0)))) count
    ∙ ap (λ (x : ℕ). written row t (adjusted p (values_from row s x))) all
moved_none (suc k) p n s t row le same =
    let is : s ≡ t = same (omega arith) in
    ap (λ (x : ℕ). written row (t + suc k) (adjusted (p - suc k) (values_from row (x + suc k) (n - suc k)))) is
    ∙ stand_from (suc k) p n t row le
    ∙ ap (λ (x : ℕ). written row t (adjusted p (values_from row x n))) (sym is)

pub moved_all : (row rest all : List Value) (t p i : ℕ) → p ≤ i → written row t (adjusted (p - i) rest) ≡ all → row ≡ all
moved_all row rest all t p i le e =
    let none : p - i ≡ 0 = omega arith in
    ap (λ (x : ℕ). written row t (adjusted x rest)) (sym none) ∙ e

-- ---- a closure is entered
pub not_entered : (code : Code) (m : Machine) (k : ℕ) (line : Option ℕ) (g : Value) (c : Closure) (f : Routine) (vs : List Value) (b : ℕ) (below : List Frame) → slice_get m.closures k ≡ Some c → slice_get code c.function ≡ Some f → m.left < f.shape.pay
    → enter code (slice_get m.closures k) line g vs b below m ≡ Off Budget m
not_entered code m k line g c f vs b below is_closure is_routine lt =
    let entered : Machine → Went = λ (t : Machine). On (record t { top = opened c f vs b; below = below; row = written (grown (b + room f.shape) t.row) b (adjusted f.shape.params vs) }) in
    ap (λ (x : Option Closure). enter code x line g vs b below m) is_closure
    ∙ ap (λ (x : Option Routine). begins x c vs b below m) is_routine
    ∙ ap (λ (x : Bool). if x then Off Budget m else entered (record m { left = m.left - f.shape.pay })) (lt-ltb m.left f.shape.pay lt)

-- the machine in which a body begins with these arguments, whose frame had none yet
abbrev begun : Machine → Shape → Stacked → List Value → ℕ → ℕ → Machine
begun m shape s vs b pay =
    record m {
      top = record s.top { dots = rest_of shape.has_dots shape.params vs };
      below = s.below;
      row = written (grown (b + room shape) m.row) b (adjusted shape.params vs);
      left = m.left - pay;
    }

pub entered : (code : Code) (m after : Machine) (k : ℕ) (line : Option ℕ) (g : Value) (c : Closure) (f : Routine) (shape : Shape) (s : Stacked) (vs : List Value) (b pay : ℕ) (below : List Frame)
    → slice_get m.closures k ≡ Some c → slice_get code c.function ≡ Some f → shape ≡ f.shape → pay ≡ f.shape.pay → pay ≤ m.left → s ≡ record { top = plain c shape.cells b; below = below } → after ≡ begun m shape s vs b pay
    → enter code (slice_get m.closures k) line g vs b below m ≡ On after
entered code m after k line g c f shape s vs b pay below is_closure is_routine is_shape is_pay le is_stack is_after =
    let going : Machine → Went = λ (t : Machine). On (record t { top = opened c f vs b; below = below; row = written (grown (b + room f.shape) t.row) b (adjusted f.shape.params vs) }) in
    let paid : ltb m.left f.shape.pay ≡ false = le-ltb m.left f.shape.pay (omega arith) in
    ap (λ (x : Option Closure). enter code x line g vs b below m) is_closure
    ∙ ap (λ (x : Option Routine). begins x c vs b below m) is_routine
    ∙ ap (λ (x : Bool). if x then Off Budget m else going (record m { left = m.left - f.shape.pay })) paid
    ∙ ap (λ (x : ℕ). going (record m { left = m.left - x })) (sym is_pay)
    ∙ ap (λ (x : Shape). On (begun m x (record { top = plain c x.cells b; below = below }) vs b pay)) (sym is_shape)
    ∙ ap (λ (x : Stacked). On (begun m shape x vs b pay)) (sym is_stack)
    ∙ ap (λ (x : Machine). On x) (sym is_after)
