-- The measure falls.
use Rattle.std.proofs.Common.{◌≡◌, ℕ, zero, suc, ◌+◌, ◌-◌, ◌*◌, ◌<◌, ◌≤◌, List, [], ◌∷◌, ◌++◌, Option, Some, None, refl, sym, subst, arith, Bool, true, false}
use Rattle.std.specs.Prelude.{ltb, if◌then◌else◌, slice_get, slice_set, ℤ, pos, negsuc}
use Rattle.std.specs.Int.{w64, cast_unsigned}
use Rattle.std.proofs.lemmas.Bool.{ltb-false}
use Rattle.std.proofs.lemmas.Option.{slice_get_within}
use Rattle.lua_value.specs.declared.value.Value.{Value}
use Rattle.lua_value.specs.declared.value.Value.TheVariants as value
use Rattle.lua_value.specs.Same.{is_true, is_nil}
use Rattle.lua_value.specs.Lists.{value_at, adjusted}
use Rattle.lua_model.specs.declared.operator.Binary.TheVariants as binary_op
use Rattle.lua_model.specs.declared.refusal.Refusal.{Refusal}
use Rattle.lua_model.specs.declared.refusal.Refusal.TheVariants as refusal
use Rattle.lua_model.specs.Answer as answer
use Rattle.lua_model.specs.Answer.{Answer}
use Rattle.lua_model.specs.Heap as model
use Rattle.lua_model.specs.Integer as lua
use Rattle.lua_model.specs.Operators.{binary, unary}
use Rattle.lua_meaning.specs.Loops.{turns_of}
use Rattle.lua_code.specs.declared.function.Constant.{Constant}
use Rattle.lua_code.specs.declared.function.Constant.TheVariants as constant
use Rattle.lua_code.specs.declared.op.Op.{Op}
use Rattle.lua_code.specs.declared.op.Op.TheVariants as op
use Rattle.lua_code.specs.Routine.{Routine}
use Rattle.lua_code.specs.Valid.{Fits, IsValid}
use Rattle.lua_steps.specs.Machine.{Code, Wanted, InSlots, OnTop, Frame, Closure, Resumer, Machine, Budget, Went, On, Off, Paused, Stuck}
use Rattle.lua_steps.specs.Moves.{next, jump, slot, with_slot, with_slots, gives, written, with_lists, on_list, paid, kept, made, received, back, finish, fail, raised, refused, answered}
use Rattle.lua_steps.specs.Calls.{room, grown, opened, begins, enter, asked, calls, tail_calls, waiting, hand}
use Rattle.lua_steps.specs.Loops.{turn, first_turn, numeric_by, numeric_from, next_turn, numeric_next, generic_next}
use Rattle.lua_steps.specs.Exec.{ops_of, op_at, line, constant_at, constant_value, cell_of, new_cell, closed, chosen, unless, applied, perform, perform_at, exec}
use Rattle.lua_steps.specs.Measure.{total, to_come, to_come_above, rank}

abbrev Lower : ℕ → ℕ → Went → Type 0
Lower n k (On m) = rank n m < k
Lower n k (Off x m) = Unit {0}
Lower n k (Paused c m) = Unit {0}
Lower n k Stuck = Unit {0}

-- ---- going on
next_lower : (n k : ℕ) (m : Machine) → m.top.at < n → rank n m ≤ k → Lower n k (next m)
next_lower n k m lt le = omega arith

jump_lower : (n k to : ℕ) (m : Machine) → m.top.at < n → m.top.at < to → rank n m ≤ k → Lower n k (jump to m)
jump_lower n k to m lt on le = omega arith

list_lower : (n k : ℕ) (ls : List (List Value)) (go : List Value → List (List Value) → Went) → ((l : List Value) (rest : List (List Value)) → Lower n k (go l rest)) → Lower n k (on_list ls go)
list_lower n k [] go h = tt
list_lower n k (l ∷ ls) go h = h l ls

-- ---- ticks and units
paid_in : (n k p : ℕ) (m : Machine) (go : Machine → Went) (b : Bool) → ltb m.left p ≡ b → ((j : ℕ) → m.left ≡ j + p → Lower n k (go (record m { left = j })))
    → Lower n k (if b then Off Budget m else go (record m { left = m.left - p }))
paid_in n k p m go true e h = tt
paid_in n k p m go false e h = let le : p ≤ m.left = ltb-false _ _ e in h (m.left - p) (omega arith)

paid_lower : (n k p : ℕ) (m : Machine) (go : Machine → Went) → ((j : ℕ) → m.left ≡ j + p → Lower n k (go (record m { left = j }))) → Lower n k (paid p m go)
paid_lower n k p m go h = paid_in n k p m go (ltb m.left p) refl h

-- fewer ticks are no more
left_le : (n l j p : ℕ) → l ≡ j + p → j * (n + 2) ≤ l * (n + 2)
left_le n l j p e = subst (λ i. j * (n + 2) ≤ i * (n + 2)) (sym e) (omega arith)

-- and a tick is more than n
left_less : (n l j p : ℕ) → 0 < p → l ≡ j + p → j * (n + 2) + n < l * (n + 2)
left_less n l j zero lt e = absurd (omega arith)
left_less n l j (suc q) lt e = subst (λ i. j * (n + 2) + n < i * (n + 2)) (sym e) (omega arith)

paid_next : (n k p : ℕ) (m : Machine) → m.top.at < n → rank n m ≤ k → Lower n k (paid p m (λ t. next t))
paid_next n k p m lt le = paid_lower n k p m (λ t. next t) (λ j e. let l = left_le n m.left j p e in omega arith)

paid_jump : (n k p to : ℕ) (m : Machine) → 0 < p → rank n m ≤ k → Lower n k (paid p m (λ t. jump to t))
paid_jump n k p to m some le = paid_lower n k p m (λ t. jump to t) (λ j e. let l = left_less n m.left j p some e in omega arith)

kept_lower : (n k : ℕ) (o : Option model.Heap) (m : Machine) (go : Machine → Went) → ((h : model.Heap) → Lower n k (go (record m { aside = record m.aside { heap = h } }))) → Lower n k (kept o m go)
kept_lower n k None m go h = tt
kept_lower n k (Some g) m go h = h g

made_lower : (n k : ℕ) (bytes : List ℕ) (m : Machine) (go : Value → Machine → Went)
    → ((v : Value) (j : ℕ) (h : model.Heap) → j * (n + 2) ≤ m.left * (n + 2) → Lower n k (go v (record m { left = j; aside = record m.aside { heap = h } }))) → Lower n k (made bytes m go)
made_lower n k bytes m go h =
    paid_lower n k (model.text_ticks bytes) m
    (λ t. kept (model.charged (model.text_units bytes) (model.holding bytes t.aside.heap)) t (go (model.text_value bytes t.aside.heap)))
    (λ j e. kept_lower n k (model.charged (model.text_units bytes) (model.holding bytes m.aside.heap)) (record m { left = j }) (go (model.text_value bytes m.aside.heap))
    (λ g. h (model.text_value bytes m.aside.heap) j g (left_le n m.left j (model.text_ticks bytes) e)))

-- ---- the end of a thread
received_lower : (n k : ℕ) (w : Wanted) (vs : List Value) (m : Machine) → rank n m < k → rank n (received w vs m) < k
received_lower n k (InSlots to count) vs m lt = lt
received_lower n k OnTop vs m lt = lt

back_lower : (n k : ℕ) (r : Resumer) (rs : List Resumer) (vs : List Value) (m : Machine) → m.left * (n + 2) + to_come_above n (r ∷ rs) < k → Lower n k (back r rs vs m)
back_lower n k r rs vs m lt = received_lower n k r.top.wants vs _ (omega arith)

finish_lower : (n k : ℕ) (rs : List Resumer) (vs : List Value) (m : Machine) → m.left * (n + 2) + to_come_above n rs < k → Lower n k (finish rs vs m)
finish_lower n k [] vs m lt = tt
finish_lower n k (r ∷ rs) vs m lt = back_lower n k r rs _ m lt

fail_lower : (n k : ℕ) (rs : List Resumer) (v : Value) (m : Machine) → m.left * (n + 2) + to_come_above n rs < k → Lower n k (fail rs v m)
fail_lower n k [] v m lt = tt
fail_lower n k (r ∷ rs) v m lt = back_lower n k r rs _ m lt

refused_lower : (n k : ℕ) (line : Option ℕ) (why : Refusal) (m : Machine) → m.top.at < n → rank n m ≤ k → Lower n k (refused line why m)
refused_lower n k line why m lt le = made_lower n k _ m (λ v t. raised v t) (λ v j h l. fail_lower n k m.aside.resumers v _ (omega arith))

answered_lower : (n k : ℕ) (a : Answer) (to line : ℕ) (m : Machine) → m.top.at < n → rank n m ≤ k → Lower n k (answered a to line m)
answered_lower n k (answer.Plain v) to line m lt le = next_lower n k (with_slot to v m) lt le
answered_lower n k (answer.Fresh bytes) to line m lt le = made_lower n k bytes m (λ v t. gives to v t) (λ v j h l. next_lower n k (with_slot to v (record m { left = j; aside = record m.aside { heap = h } })) lt (omega arith))
answered_lower n k (answer.Refused why) to line m lt le = refused_lower n k (Some line) why m lt le

hand_lower : (n k : ℕ) (vs : List Value) (fs : List Frame) (m : Machine) → m.left * (n + 2) + to_come n fs + to_come_above n m.aside.resumers < k → Lower n k (hand vs fs m)
hand_lower n k vs [] m lt = finish_lower n k m.aside.resumers vs m (omega arith)
hand_lower n k vs (f ∷ fs) m lt = received_lower n k f.wants vs (record m { top = f; below = fs }) (omega arith)

-- ---- calls
pub record Pays (code : Code) : Type 0 where
  pub each : (g : ℕ) (f : Routine) → slice_get code g ≡ Some f → 0 < f.shape.pay

begins_lower : (n k : ℕ) (code : Code) (o : Option Routine) (c : Closure) (vs : List Value) (base : ℕ) (below : List Frame) (m : Machine) → Pays code → slice_get code c.function ≡ o
    → m.left * (n + 2) + to_come n below + to_come_above n m.aside.resumers ≤ k → Lower n k (begins o c vs base below m)
begins_lower n k code None c vs base below m pays is le = tt
begins_lower n k code (Some f) c vs base below m pays is le =
    paid_lower n k f.shape.pay m
    (λ t. On (record t { top = opened c f vs base; below = below; row = written (grown (base + room f.shape) t.row) base (adjusted f.shape.params vs) }))
    (λ j e. let l = left_less n m.left j f.shape.pay (pays.each c.function f is) e in omega arith)

enter_lower : (n k : ℕ) (code : Code) (o : Option Closure) (line : Option ℕ) (f : Value) (vs : List Value) (base : ℕ) (below : List Frame) (m : Machine) → Pays code → m.top.at < n → rank n m ≤ k
    → m.left * (n + 2) + to_come n below + to_come_above n m.aside.resumers ≤ k → Lower n k (enter code o line f vs base below m)
enter_lower n k code None line f vs base below m pays lt le low = refused_lower n k line (refusal.Call f) m lt le
enter_lower n k code (Some c) line f vs base below m pays lt le low = begins_lower n k code (slice_get code c.function) c vs base below m pays refl low

asked_lower : (n k l : ℕ) (m : Machine) (f : Value) (vs : List Value) → Lower n k (asked l (record { called = f; args = vs }) m)
asked_lower n k zero m f vs = tt
asked_lower n k (suc l) m f vs = tt

calls_lower : (n k : ℕ) (code : Code) (line : Option ℕ) (f : Value) (vs : List Value) (base : ℕ) (w : Wanted) (top : Frame) (m : Machine) → Pays code → top.at ≡ m.top.at → m.top.at < n
    → rank n m ≤ k → Lower n k (calls code line f vs base (waiting w top) m)
calls_lower n k code line (value.Func i) vs base w top m pays same lt le = enter_lower n k code _ line (value.Func i) vs base (waiting w top ∷ m.below) m pays lt le (omega (arith, same))
calls_lower n k code line (value.Native i) vs base w top m pays same lt le = asked_lower n k m.left (record m { top = waiting w top }) (value.Native i) vs
calls_lower n k code line f vs base w top m pays same lt le = refused_lower n k line (refusal.Call f) m lt le

tail_lower : (n k : ℕ) (code : Code) (line : ℕ) (f : Value) (vs : List Value) (base : ℕ) (w : Wanted) (top : Frame) (m : Machine) → Pays code → top.at ≡ m.top.at → m.top.at < n
    → rank n m ≤ k → Lower n k (tail_calls code line f vs base (waiting w top) m)
tail_lower n k code line (value.Func i) vs base w top m pays same lt le = enter_lower n k code _ (Some line) (value.Func i) vs m.top.base m.below m pays lt le (omega arith)
tail_lower n k code line f vs base w top m pays same lt le = calls_lower n k code (Some line) f vs base w top m pays same lt le

-- ---- loops
first_lower : (n k c : ℕ) (at step : ℤ) (pay base to : ℕ) (m : Machine) → m.top.at < n → m.top.at < to → rank n m ≤ k → Lower n k (first_turn c at step pay base to m)
first_lower n k zero at step pay base to m lt on le = jump_lower n k to m lt on le
first_lower n k (suc c) at step pay base to m lt on le = paid_lower n k pay m (λ t. next (turn c at step base t)) (λ j e. let l = left_le n m.left j pay e in omega arith)

by_lower : (n k : ℕ) (a b c : ℤ) (line pay base to : ℕ) (m : Machine) → m.top.at < n → m.top.at < to → rank n m ≤ k → Lower n k (numeric_by a b c line pay base to m)
by_lower n k a b (pos zero) line pay base to m lt on le = refused_lower n k (Some line) refusal.ForStep m lt le
by_lower n k a b (pos (suc c)) line pay base to m lt on le = first_lower n k (turns_of a b (pos (suc c))) a (pos (suc c)) pay base to m lt on le
by_lower n k a b (negsuc c) line pay base to m lt on le = first_lower n k (turns_of a b (negsuc c)) a (negsuc c) pay base to m lt on le

from_lower : (n k : ℕ) (u v w : Value) (line pay base to : ℕ) (m : Machine) → m.top.at < n → m.top.at < to → rank n m ≤ k → Lower n k (numeric_from u v w line pay base to m)
from_lower n k (value.Int a) (value.Int b) (value.Int c) line pay base to m lt on le = by_lower n k (lua.wrap a) (lua.wrap b) (lua.wrap c) line pay base to m lt on le
from_lower n k u v w line pay base to m lt on le = refused_lower n k (Some line) refusal.ForValues m lt le

turn_lower : (n k c : ℕ) (at step : ℤ) (pay base to : ℕ) (m : Machine) → m.top.at < n → 0 < pay → rank n m ≤ k → Lower n k (next_turn c at step pay base to m)
turn_lower n k zero at step pay base to m lt some le = next_lower n k m lt le
turn_lower n k (suc c) at step pay base to m lt some le = paid_lower n k pay m (λ t. jump to (turn c (lua.add at step) step base t)) (λ j e. let l = left_less n m.left j pay some e in omega arith)

numeric_lower : (n k : ℕ) (u v w : Value) (pay base to : ℕ) (m : Machine) → m.top.at < n → 0 < pay → rank n m ≤ k → Lower n k (numeric_next u v w pay base to m)
numeric_lower n k (value.Int a) (value.Int b) (value.Int c) pay base to m lt some le = turn_lower n k (cast_unsigned w64 a) b c pay base to m lt some le
numeric_lower n k u v w pay base to m lt some le = tt

generic_lower : (n k : ℕ) (b : Bool) (v : Value) (pay base to : ℕ) (m : Machine) → m.top.at < n → 0 < pay → rank n m ≤ k → Lower n k (generic_next b v pay base to m)
generic_lower n k true v pay base to m lt some le = next_lower n k m lt le
generic_lower n k false v pay base to m lt some le = paid_lower n k pay m (λ t. jump to (with_slot (base + 2) v t)) (λ j e. let l = left_less n m.left j pay some e in omega arith)

-- ---- one operation
chosen_lower : (n k : ℕ) (b : Bool) (pay to : ℕ) (m : Machine) → m.top.at < n → m.top.at < to → rank n m ≤ k → Lower n k (chosen b pay to m)
chosen_lower n k true pay to m lt on le = paid_next n k pay m lt le
chosen_lower n k false pay to m lt on le = jump_lower n k to m lt on le

not_lower : (n k : ℕ) (b : Bool) (to : ℕ) (m : Machine) → m.top.at < n → m.top.at < to → rank n m ≤ k → Lower n k (if b then jump to m else next m)
not_lower n k true to m lt on le = jump_lower n k to m lt on le
not_lower n k false to m lt on le = next_lower n k m lt le

unless_lower : (n k : ℕ) (a : Answer) (line pay to : ℕ) (m : Machine) → m.top.at < n → m.top.at < to → rank n m ≤ k → Lower n k (unless a line pay to m)
unless_lower n k (answer.Plain v) line pay to m lt on le = chosen_lower n k (is_true v) pay to m lt on le
unless_lower n k (answer.Fresh bytes) line pay to m lt on le = tt
unless_lower n k (answer.Refused why) line pay to m lt on le = refused_lower n k (Some line) why m lt le

constant_lower : (n k : ℕ) (c : Option Constant) (to : ℕ) (m : Machine) → m.top.at < n → rank n m ≤ k → Lower n k (constant_value c to m)
constant_lower n k None to m lt le = tt
constant_lower n k (Some (constant.Int i)) to m lt le = next_lower n k (with_slot to (value.Int i) m) lt le
constant_lower n k (Some (constant.Text bytes)) to m lt le =
    next_lower n k (with_slot to (model.text_value bytes m.aside.heap) (record m { aside = record m.aside { heap = model.holding bytes m.aside.heap } })) lt le

closed_lower : (n k : ℕ) (o : Option model.Heap) (code : Code) (g : ℕ) (go : Value → Machine → Went) (m : Machine) → ((v : Value) (cs : List Closure) (h : model.Heap) → Lower n k (go v (record m { closures = cs; aside = record m.aside { heap = h } })))
    → Lower n k (closed o code g go m)
closed_lower n k None code g go m h = tt
closed_lower n k (Some x) code g go m h = h _ _ x

applied_lower : (n k : ℕ) (l : List Value) (go : Value → List Value → Went) → ((f : Value) (vs : List Value) → Lower n k (go f vs)) → Lower n k (applied l go)
applied_lower n k [] go h = tt
applied_lower n k (f ∷ vs) go h = h f vs

le_self : (n : ℕ) → n ≤ n
le_self n = omega arith

perform_lower : (n : ℕ) (code : Code) (o : Op) (m : Machine) (f : Routine) → Pays code → m.top.at < n → Fits code f m.top.at o → Lower n (rank n m) (perform code o m)
perform_lower n code (op.Nil to) m f pays lt fits = next_lower n (rank n m) (with_slot to value.Nil m) lt (le_self (rank n m))
perform_lower n code (op.Bool to b) m f pays lt fits = next_lower n (rank n m) (with_slot to (value.Bool b) m) lt (le_self (rank n m))
perform_lower n code (op.Int to i) m f pays lt fits = next_lower n (rank n m) (with_slot to (value.Int i) m) lt (le_self (rank n m))
perform_lower n code (op.Constant to i) m f pays lt fits = constant_lower n (rank n m) (constant_at code m.top.function i) to m lt (le_self (rank n m))
perform_lower n code (op.Move to from) m f pays lt fits = next_lower n (rank n m) (with_slot to (slot m from) m) lt (le_self (rank n m))
perform_lower n code (op.NewCell i from) m f pays lt fits = next_lower n (rank n m) (new_cell i (slot m from) m) lt (le_self (rank n m))
perform_lower n code (op.GetCell to i) m f pays lt fits = next_lower n (rank n m) (with_slot to (value_at m.cells (cell_of m.top.cells i)) m) lt (le_self (rank n m))
perform_lower n code (op.SetCell i from) m f pays lt fits = next_lower n (rank n m) (record m { cells = slice_set m.cells (cell_of m.top.cells i) (slot m from) }) lt (le_self (rank n m))
perform_lower n code (op.GetUp to i) m f pays lt fits = next_lower n (rank n m) (with_slot to (value_at m.cells (cell_of m.top.ups i)) m) lt (le_self (rank n m))
perform_lower n code (op.SetUp i from) m f pays lt fits = next_lower n (rank n m) (record m { cells = slice_set m.cells (cell_of m.top.ups i) (slot m from) }) lt (le_self (rank n m))
perform_lower n code (op.Close to g) m f pays lt fits = closed_lower n (rank n m) _ code g (gives to) m (λ v cs h. next_lower n (rank n m) (with_slot to v (record m { closures = cs; aside = record m.aside { heap = h } })) lt (le_self (rank n m)))
perform_lower n code (op.CloseCell i g) m f pays lt fits =
    closed_lower n (rank n m) (model.charged model.closure_units m.aside.heap) code g (λ v t. next (record t { cells = slice_set t.cells (cell_of t.top.cells i) v })) (new_cell i value.Nil m)
    (λ v cs h. next_lower n (rank n m) (record (new_cell i value.Nil m) { closures = cs; aside = record m.aside { heap = h }; cells = slice_set (new_cell i value.Nil m).cells (cell_of (new_cell i value.Nil m).top.cells i) v }) lt (le_self (rank n m)))
perform_lower n code (op.Add to p q) m f pays lt fits = answered_lower n (rank n m) (binary m.aside.heap.texts binary_op.Add (slot m p) (slot m q)) to (line code m) m lt (le_self (rank n m))
perform_lower n code (op.Sub to p q) m f pays lt fits = answered_lower n (rank n m) (binary m.aside.heap.texts binary_op.Sub (slot m p) (slot m q)) to (line code m) m lt (le_self (rank n m))
perform_lower n code (op.Mul to p q) m f pays lt fits = answered_lower n (rank n m) (binary m.aside.heap.texts binary_op.Mul (slot m p) (slot m q)) to (line code m) m lt (le_self (rank n m))
perform_lower n code (op.AddInt to p i) m f pays lt fits = answered_lower n (rank n m) (binary m.aside.heap.texts binary_op.Add (slot m p) (value.Int i)) to (line code m) m lt (le_self (rank n m))
perform_lower n code (op.MulInt to p i) m f pays lt fits = answered_lower n (rank n m) (binary m.aside.heap.texts binary_op.Mul (slot m p) (value.Int i)) to (line code m) m lt (le_self (rank n m))
perform_lower n code (op.BinaryInt o to p i) m f pays lt fits = answered_lower n (rank n m) (binary m.aside.heap.texts o (slot m p) (value.Int i)) to (line code m) m lt (le_self (rank n m))
perform_lower n code (op.Binary o to p q) m f pays lt fits = answered_lower n (rank n m) (binary m.aside.heap.texts o (slot m p) (slot m q)) to (line code m) m lt (le_self (rank n m))
perform_lower n code (op.Unary o to p) m f pays lt fits = answered_lower n (rank n m) (unary m.aside.heap.texts o (slot m p)) to (line code m) m lt (le_self (rank n m))
perform_lower n code (op.Tick pay) m f pays lt fits = paid_next n (rank n m) pay m lt (le_self (rank n m))
perform_lower n code (op.Jump to) m f pays lt fits = jump_lower n (rank n m) to m lt fits.0 (le_self (rank n m))
perform_lower n code (op.Loop pay to) m f pays lt fits = paid_jump n (rank n m) pay to m fits.0 (le_self (rank n m))
perform_lower n code (op.Test p to) m f pays lt fits = chosen_lower n (rank n m) (is_true (slot m p)) 0 to m lt fits.1.0 (le_self (rank n m))
perform_lower n code (op.TestNot p to) m f pays lt fits = not_lower n (rank n m) (is_true (slot m p)) to m lt fits.1.0 (le_self (rank n m))
perform_lower n code (op.UnlessLess p q pay to) m f pays lt fits = unless_lower n (rank n m) (binary m.aside.heap.texts binary_op.Less (slot m p) (slot m q)) (line code m) pay to m lt fits.2.0 (le_self (rank n m))
perform_lower n code (op.UnlessLessEqual p q pay to) m f pays lt fits = unless_lower n (rank n m) (binary m.aside.heap.texts binary_op.LessEqual (slot m p) (slot m q)) (line code m) pay to m lt fits.2.0 (le_self (rank n m))
perform_lower n code (op.UnlessEqual p q pay to) m f pays lt fits = unless_lower n (rank n m) (binary m.aside.heap.texts binary_op.Equal (slot m p) (slot m q)) (line code m) pay to m lt fits.2.0 (le_self (rank n m))
perform_lower n code (op.UnlessNotEqual p q pay to) m f pays lt fits = unless_lower n (rank n m) (binary m.aside.heap.texts binary_op.NotEqual (slot m p) (slot m q)) (line code m) pay to m lt fits.2.0 (le_self (rank n m))
perform_lower n code (op.UnlessLessInt p i pay to) m f pays lt fits = unless_lower n (rank n m) (binary m.aside.heap.texts binary_op.Less (slot m p) (value.Int i)) (line code m) pay to m lt fits.1.0 (le_self (rank n m))
perform_lower n code (op.UnlessLessEqualInt p i pay to) m f pays lt fits = unless_lower n (rank n m) (binary m.aside.heap.texts binary_op.LessEqual (slot m p) (value.Int i)) (line code m) pay to m lt fits.1.0 (le_self (rank n m))
perform_lower n code (op.UnlessGreaterInt p i pay to) m f pays lt fits = unless_lower n (rank n m) (binary m.aside.heap.texts binary_op.Greater (slot m p) (value.Int i)) (line code m) pay to m lt fits.1.0 (le_self (rank n m))
perform_lower n code (op.UnlessGreaterEqualInt p i pay to) m f pays lt fits = unless_lower n (rank n m) (binary m.aside.heap.texts binary_op.GreaterEqual (slot m p) (value.Int i)) (line code m) pay to m lt fits.1.0 (le_self (rank n m))
perform_lower n code (op.UnlessEqualInt p i pay to) m f pays lt fits = unless_lower n (rank n m) (binary m.aside.heap.texts binary_op.Equal (slot m p) (value.Int i)) (line code m) pay to m lt fits.1.0 (le_self (rank n m))
perform_lower n code (op.UnlessNotEqualInt p i pay to) m f pays lt fits = unless_lower n (rank n m) (binary m.aside.heap.texts binary_op.NotEqual (slot m p) (value.Int i)) (line code m) pay to m lt fits.1.0 (le_self (rank n m))
perform_lower n code (op.ForPrep pay base to) m f pays lt fits = from_lower n (rank n m) (slot m base) (slot m (base + 1)) (slot m (base + 2)) (line code m) pay base to m lt fits.1.0 (le_self (rank n m))
perform_lower n code (op.ForLoop pay base to) m f pays lt fits = numeric_lower n (rank n m) (slot m base) (slot m (base + 1)) (slot m (base + 2)) pay base to m lt fits.1.0 (le_self (rank n m))
perform_lower n code (op.ForCall base results) m f pays lt fits = calls_lower n (rank n m) code (Some (line code m)) (slot m base) _ _ (InSlots (base + 3) results) m.top m pays refl lt (le_self (rank n m))
perform_lower n code (op.ForEach pay base to) m f pays lt fits = generic_lower n (rank n m) (is_nil (slot m (base + 3))) _ pay base to m lt fits.1.0 (le_self (rank n m))
perform_lower n code (op.Call base args results) m f pays lt fits = calls_lower n (rank n m) code (Some (line code m)) (slot m base) _ _ (InSlots base results) m.top m pays refl lt (le_self (rank n m))
perform_lower n code (op.CallAll base args) m f pays lt fits = calls_lower n (rank n m) code (Some (line code m)) (slot m base) _ _ OnTop m.top m pays refl lt (le_self (rank n m))
perform_lower n code (op.TailCall base args) m f pays lt fits = tail_lower n (rank n m) code (line code m) (slot m base) _ _ OnTop m.top m pays refl lt (le_self (rank n m))
perform_lower n code (op.Return from count) m f pays lt fits = hand_lower n (rank n m) _ m.below m (omega arith)
perform_lower n code op.Begin m f pays lt fits = next_lower n (rank n m) (with_lists ([] ∷ m.top.lists) m) lt (le_self (rank n m))
perform_lower n code (op.Push from) m f pays lt fits = list_lower n (rank n m) m.top.lists _ (λ l ls. next_lower n (rank n m) (with_lists ((l ++ slot m from ∷ []) ∷ ls) m) lt (le_self (rank n m)))
perform_lower n code op.Append m f pays lt fits =
    list_lower n (rank n m) m.top.lists _ (λ vs ls. list_lower n (rank n m) ls _ (λ us rest. next_lower n (rank n m) (with_lists ((us ++ vs) ∷ rest) m) lt (le_self (rank n m))))
perform_lower n code op.Dots m f pays lt fits = next_lower n (rank n m) (with_lists (m.top.dots ∷ m.top.lists) m) lt (le_self (rank n m))
perform_lower n code (op.DotsTo to count) m f pays lt fits = next_lower n (rank n m) (with_slots to (adjusted count m.top.dots) m) lt (le_self (rank n m))
perform_lower n code (op.Spread to count) m f pays lt fits = list_lower n (rank n m) m.top.lists _ (λ vs ls. next_lower n (rank n m) (with_slots to (adjusted count vs) (with_lists ls m)) lt (le_self (rank n m)))
perform_lower n code (op.Item to i) m f pays lt fits = list_lower n (rank n m) m.top.lists _ (λ vs ls. next_lower n (rank n m) (with_slot to (value_at vs i) m) lt (le_self (rank n m)))
perform_lower n code (op.CallList base) m f pays lt fits =
    list_lower n (rank n m) m.top.lists _ (λ l ls. applied_lower n (rank n m) l _ (λ g vs. calls_lower n (rank n m) code (Some (line code m)) g vs _ OnTop (with_lists ls m).top (with_lists ls m) pays refl lt (le_self (rank n m))))
perform_lower n code (op.TailCallList base) m f pays lt fits =
    list_lower n (rank n m) m.top.lists _ (λ l ls. applied_lower n (rank n m) l _ (λ g vs. tail_lower n (rank n m) code (line code m) g vs _ OnTop (with_lists ls m).top (with_lists ls m) pays refl lt (le_self (rank n m))))
perform_lower n code op.ReturnList m f pays lt fits = list_lower n (rank n m) m.top.lists _ (λ vs ls. hand_lower n (rank n m) vs m.below (with_lists ls m) (omega arith))
perform_lower n code op.Start m f pays lt fits =
    list_lower n (rank n m) m.top.lists _ (λ l ls. applied_lower n (rank n m) l _ (λ g vs. calls_lower n (rank n m) code None g vs m.top.base OnTop (with_lists ls m).top (with_lists ls m) pays refl lt (le_self (rank n m))))

-- ---- valid code
at_within : (code : Code) (f a : ℕ) (o : Op) → op_at code f a ≡ Some o → a < total code
at_within [] f a o h = let lt = slice_get_within [] a o h in absurd (omega arith)
at_within (g ∷ code) zero a o h = let lt = slice_get_within g.ops a o h in omega arith
at_within (g ∷ code) (suc f) a o h = let lt = at_within code f a o h in omega arith

routine_at : (r : Option Routine) (a : ℕ) (o : Op) → slice_get (ops_of r) a ≡ Some o → (f : Routine) × (r ≡ Some f) × (slice_get f.ops a ≡ Some o)
routine_at None a o h = absurd (cc)
routine_at (Some f) a o h = (f, refl, h)

pays_of : (code : Code) → IsValid code → Pays code
pays_of code valid = record { each = λ g f is. (valid.functions.each g f is).whole.3 }

lower_at : (code : Code) (m : Machine) (o : Option Op) → IsValid code → op_at code m.top.function m.top.at ≡ o → Lower (total code) (rank (total code) m) (perform_at o code m)
lower_at code m None valid is = tt
lower_at code m (Some o) valid is =
    let r = routine_at (slice_get code m.top.function) m.top.at o is in
    perform_lower (total code) code o m r.0 (pays_of code valid) (at_within code _ _ o is) ((valid.functions.each m.top.function r.0 r.1).ops.fit m.top.at o r.2)

pub falls : (code : Code) (m t : Machine) → IsValid code → exec code m ≡ On t → rank (total code) t < rank (total code) m
falls code m t valid e = subst (λ w. Lower (total code) (rank (total code) m) w) e (lower_at code m (op_at code m.top.function m.top.at) valid refl)
