-- What one operation does to a machine (manual, sections 3.3 and 3.4). The operations themselves are this project's own.
use Rattle.std.specs.Prelude.{ℕ, ◌+◌, Bool, true, false, if◌then◌else◌, List, [], ◌∷◌, ◌++◌, length, map, Option, Some, None, slice_get, slice_set, unwrap_or}
use Rattle.lua_value.specs.declared.value.Value.{Value}
use Rattle.lua_value.specs.declared.value.Value.TheVariants as value
use Rattle.lua_value.specs.Same.{is_true, is_nil}
use Rattle.lua_value.specs.Lists.{value_at, adjusted}
use Rattle.lua_model.specs.declared.operator.Binary.TheVariants as binary_op
use Rattle.lua_model.specs.Answer as answer
use Rattle.lua_model.specs.Answer.{Answer}
use Rattle.lua_model.specs.Heap as model
use Rattle.lua_model.specs.Operators.{binary, unary}
use Rattle.lua_code.specs.declared.function.Capture.{Capture}
use Rattle.lua_code.specs.declared.function.Capture.TheVariants as capture
use Rattle.lua_code.specs.declared.function.Constant.{Constant}
use Rattle.lua_code.specs.declared.function.Constant.TheVariants as constant
use Rattle.lua_code.specs.declared.op.Op.{Op}
use Rattle.lua_code.specs.declared.op.Op.TheVariants as op
use Rattle.lua_code.specs.Routine.{Routine}
use Rattle.lua_steps.specs.Machine.{Code, InSlots, OnTop, Frame, Busy, Machine, HeapFull, Went, Off, Stuck}
use Rattle.lua_steps.specs.Moves.{next, jump, slot, with_slots, slots_from, gives, with_lists, on_list, paid, refused, answered}
use Rattle.lua_steps.specs.Calls.{calls, tail_calls, waiting, hand}
use Rattle.lua_steps.specs.Loops.{numeric_from, numeric_next, generic_next}

-- ---- code
abbrev pub ops_of : Option Routine → List Op
ops_of None = []
ops_of (Some f) = f.ops

abbrev pub lines_of : Option Routine → List ℕ
lines_of None = []
lines_of (Some f) = f.lines

abbrev pub constants_of : Option Routine → List Constant
constants_of None = []
constants_of (Some f) = f.constants

abbrev pub captures_of : Option Routine → List Capture
captures_of None = []
captures_of (Some f) = f.captures

abbrev pub op_at : Code → ℕ → ℕ → Option Op
op_at code f a = slice_get (ops_of (slice_get code f)) a

abbrev pub line_at : Code → ℕ → ℕ → Option ℕ
line_at code f a = slice_get (lines_of (slice_get code f)) a

abbrev pub constant_at : Code → ℕ → ℕ → Option Constant
constant_at code f i = slice_get (constants_of (slice_get code f)) i

-- the line of the operation that runs
abbrev pub line : Code → Machine → ℕ
line code m = unwrap_or (line_at code m.top.function m.top.at) 0

-- ---- constants
abbrev pub constant_value : Option Constant → ℕ → Machine → Went
constant_value None to m = Stuck
constant_value (Some (constant.Int n)) to m = gives to (value.Int n) m
-- a string of the source is no new string
constant_value (Some (constant.Text bytes)) to m =
    gives to (model.text_value bytes m.aside.heap) (record m { aside = record m.aside { heap = model.holding bytes m.aside.heap } })

-- ---- cells and closures
abbrev pub cell_of : List ℕ → ℕ → ℕ
cell_of cells i = unwrap_or (slice_get cells i) 0

-- a new cell with this value, in a place of the frame
abbrev pub new_cell : ℕ → Value → Machine → Machine
new_cell i v m = record m { top = record m.top { cells = slice_set m.top.cells i (length m.cells) }; cells = m.cells ++ v ∷ [] }

abbrev pub captured : Frame → Capture → ℕ
captured f (capture.Cell c) = cell_of f.cells c
captured f (capture.Up u) = cell_of f.ups u

-- the cells that a function of the code captures
abbrev pub taken : Code → ℕ → Frame → List ℕ
taken code g f = map (captured f) (captures_of (slice_get code g))

-- a function costs a unit
abbrev pub closed : Option model.Heap → Code → ℕ → (Value → Machine → Went) → Machine → Went
closed None code g go m = Off HeapFull m
closed (Some h) code g go m =
    go (value.Func (length m.closures)) (record m { closures = m.closures ++ record { function = g; cells = taken code g m.top } ∷ []; aside = record m.aside { heap = h } })

-- the closure of a local function goes to the cell that it may have captured
abbrev pub close_cell : Code → ℕ → ℕ → Machine → Went
close_cell code i g m =
    closed (model.charged model.closure_units m.aside.heap) code g (λ v t. next (record t { cells = slice_set t.cells (cell_of t.top.cells i) v })) (new_cell i value.Nil m)

-- ---- choices
-- pays and goes on where the answer is true, and else jumps
abbrev pub chosen : Bool → ℕ → ℕ → Machine → Went
chosen true pay to m = paid pay m (λ t. next t)
chosen false pay to m = jump to m

abbrev pub unless : Answer → ℕ → ℕ → ℕ → Machine → Went
unless (answer.Plain v) line pay to m = chosen (is_true v) pay to m
unless (answer.Fresh bytes) line pay to m = Stuck
unless (answer.Refused why) line pay to m = refused (Some line) why m

-- ---- lists
-- the first value of the list is called with the others
abbrev pub applied : List Value → (Value → List Value → Went) → Went
applied [] go = Stuck
applied (f ∷ vs) go = go f vs

-- the list is taken off before the call
abbrev pub calls_listed : Code → Option ℕ → Value → List Value → ℕ → Machine → Went
calls_listed code line f vs base m = calls code line f vs base (waiting OnTop m.top) m

abbrev pub tail_calls_listed : Code → ℕ → Value → List Value → ℕ → Machine → Went
tail_calls_listed code line f vs base m = tail_calls code line f vs base (waiting OnTop m.top) m

abbrev pub perform : Code → Op → Machine → Went
perform code (op.Nil to) m = gives to value.Nil m
perform code (op.Bool to b) m = gives to (value.Bool b) m
perform code (op.Int to n) m = gives to (value.Int n) m
perform code (op.Constant to i) m = constant_value (constant_at code m.top.function i) to m
perform code (op.Move to from) m = gives to (slot m from) m
perform code (op.NewCell i from) m = next (new_cell i (slot m from) m)
perform code (op.GetCell to i) m = gives to (value_at m.cells (cell_of m.top.cells i)) m
perform code (op.SetCell i from) m = next (record m { cells = slice_set m.cells (cell_of m.top.cells i) (slot m from) })
perform code (op.GetUp to i) m = gives to (value_at m.cells (cell_of m.top.ups i)) m
perform code (op.SetUp i from) m = next (record m { cells = slice_set m.cells (cell_of m.top.ups i) (slot m from) })
perform code (op.Close to g) m = closed (model.charged model.closure_units m.aside.heap) code g (gives to) m
perform code (op.CloseCell i g) m = close_cell code i g m
perform code (op.Add to p q) m = answered (binary m.aside.heap.texts binary_op.Add (slot m p) (slot m q)) to (line code m) m
perform code (op.Sub to p q) m = answered (binary m.aside.heap.texts binary_op.Sub (slot m p) (slot m q)) to (line code m) m
perform code (op.Mul to p q) m = answered (binary m.aside.heap.texts binary_op.Mul (slot m p) (slot m q)) to (line code m) m
perform code (op.AddInt to p n) m = answered (binary m.aside.heap.texts binary_op.Add (slot m p) (value.Int n)) to (line code m) m
perform code (op.MulInt to p n) m = answered (binary m.aside.heap.texts binary_op.Mul (slot m p) (value.Int n)) to (line code m) m
perform code (op.BinaryInt o to p n) m = answered (binary m.aside.heap.texts o (slot m p) (value.Int n)) to (line code m) m
perform code (op.Binary o to p q) m = answered (binary m.aside.heap.texts o (slot m p) (slot m q)) to (line code m) m
perform code (op.Unary o to p) m = answered (unary m.aside.heap.texts o (slot m p)) to (line code m) m
perform code (op.Tick pay) m = paid pay m (λ t. next t)
perform code (op.Jump to) m = jump to m
perform code (op.Loop pay to) m = paid pay m (λ t. jump to t)
perform code (op.Test p to) m = chosen (is_true (slot m p)) 0 to m
perform code (op.TestNot p to) m = if is_true (slot m p) then jump to m else next m
perform code (op.UnlessLess p q pay to) m = unless (binary m.aside.heap.texts binary_op.Less (slot m p) (slot m q)) (line code m) pay to m
perform code (op.UnlessLessEqual p q pay to) m = unless (binary m.aside.heap.texts binary_op.LessEqual (slot m p) (slot m q)) (line code m) pay to m
perform code (op.UnlessEqual p q pay to) m = unless (binary m.aside.heap.texts binary_op.Equal (slot m p) (slot m q)) (line code m) pay to m
perform code (op.UnlessNotEqual p q pay to) m = unless (binary m.aside.heap.texts binary_op.NotEqual (slot m p) (slot m q)) (line code m) pay to m
perform code (op.UnlessLessInt p n pay to) m = unless (binary m.aside.heap.texts binary_op.Less (slot m p) (value.Int n)) (line code m) pay to m
perform code (op.UnlessLessEqualInt p n pay to) m = unless (binary m.aside.heap.texts binary_op.LessEqual (slot m p) (value.Int n)) (line code m) pay to m
perform code (op.UnlessGreaterInt p n pay to) m = unless (binary m.aside.heap.texts binary_op.Greater (slot m p) (value.Int n)) (line code m) pay to m
perform code (op.UnlessGreaterEqualInt p n pay to) m = unless (binary m.aside.heap.texts binary_op.GreaterEqual (slot m p) (value.Int n)) (line code m) pay to m
perform code (op.UnlessEqualInt p n pay to) m = unless (binary m.aside.heap.texts binary_op.Equal (slot m p) (value.Int n)) (line code m) pay to m
perform code (op.UnlessNotEqualInt p n pay to) m = unless (binary m.aside.heap.texts binary_op.NotEqual (slot m p) (value.Int n)) (line code m) pay to m
perform code (op.ForPrep pay base to) m = numeric_from (slot m base) (slot m (base + 1)) (slot m (base + 2)) (line code m) pay base to m
perform code (op.ForLoop pay base to) m = numeric_next (slot m base) (slot m (base + 1)) (slot m (base + 2)) pay base to m
perform code (op.ForCall base results) m =
    calls code (Some (line code m)) (slot m base) (slots_from m (base + 1) 2) (m.top.base + base + 3) (waiting (InSlots (base + 3) results) m.top) m
perform code (op.ForEach pay base to) m = generic_next (is_nil (slot m (base + 3))) (slot m (base + 3)) pay base to m
perform code (op.Call base args results) m =
    calls code (Some (line code m)) (slot m base) (slots_from m (base + 1) args) (m.top.base + base + 1) (waiting (InSlots base results) m.top) m
perform code (op.CallAll base args) m =
    calls code (Some (line code m)) (slot m base) (slots_from m (base + 1) args) (m.top.base + base + 1) (waiting OnTop m.top) m
perform code (op.TailCall base args) m =
    tail_calls code (line code m) (slot m base) (slots_from m (base + 1) args) (m.top.base + base + 1) (waiting OnTop m.top) m
perform code (op.Return from count) m = hand (slots_from m from count) m.below m
perform code op.Begin m = next (with_lists ([] ∷ m.top.lists) m)
perform code (op.Push from) m = on_list m.top.lists (λ l ls. next (with_lists ((l ++ slot m from ∷ []) ∷ ls) m))
perform code op.Append m = on_list m.top.lists (λ vs ls. on_list ls (λ us rest. next (with_lists ((us ++ vs) ∷ rest) m)))
perform code op.Dots m = next (with_lists (m.top.dots ∷ m.top.lists) m)
perform code (op.DotsTo to count) m = next (with_slots to (adjusted count m.top.dots) m)
perform code (op.Spread to count) m = on_list m.top.lists (λ vs ls. next (with_slots to (adjusted count vs) (with_lists ls m)))
perform code (op.Item to i) m = on_list m.top.lists (λ vs ls. gives to (value_at vs i) m)
perform code (op.CallList base) m =
    on_list m.top.lists (λ l ls. applied l (λ f vs. calls_listed code (Some (line code m)) f vs (m.top.base + base) (with_lists ls m)))
perform code (op.TailCallList base) m =
    on_list m.top.lists (λ l ls. applied l (λ f vs. tail_calls_listed code (line code m) f vs (m.top.base + base) (with_lists ls m)))
perform code op.ReturnList m = on_list m.top.lists (λ vs ls. hand vs m.below (with_lists ls m))
perform code op.Start m = on_list m.top.lists (λ l ls. applied l (λ f vs. calls_listed code None f vs m.top.base (with_lists ls m)))

abbrev pub perform_at : Option Op → Code → Machine → Went
perform_at None code m = Stuck
perform_at (Some o) code m = perform code o m

-- the operation that comes next
abbrev pub exec : Code → Machine → Went
exec code m = perform_at (op_at code m.top.function m.top.at) code m

-- ---- the beginning
-- A thread begins in the code's first function, which has this value in a list and waits for its arguments.
abbrev pub fresh : Value → Frame
fresh f = record { function = 0; at = 0; base = 0; cells = []; ups = []; dots = []; lists = (f ∷ []) ∷ []; wants = OnTop }

-- the operations of that function
abbrev pub start_ops : List Op
start_ops = op.Append ∷ op.Start ∷ op.ReturnList ∷ []

-- thread 0 calls the chunk, which is the code's last function and the first closure; the heap holds what was made before it counts
abbrev pub opening : List ℕ → ℕ → model.Heap → ℕ → Machine
opening name chunk heap budget =
    record {
      top = fresh (value.Func 0);
      below = [];
      row = [];
      cells = [];
      closures = record { function = chunk; cells = [] } ∷ [];
      left = budget;
      aside = record { name = name; heap = heap; running = 0; resumers = []; threads = Busy ∷ [] };
    }
