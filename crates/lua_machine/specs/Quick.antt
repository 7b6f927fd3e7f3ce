-- Operations that touch slots, cells, the place and ticks alone, as a run of them has these in hand. They are this project's own.
use Rattle.std.specs.Prelude.{◌≡◌, ℕ, ◌+◌, ◌<◌, Bool, ℤ, List, ◌++◌, length, slice_get, Option}
use Rattle.lua_value.specs.declared.value.Value.{Value}
use Rattle.lua_value.specs.declared.value.Value.TheVariants as value
use Rattle.lua_model.specs.declared.operator.Binary.{Binary}
use Rattle.lua_model.specs.declared.operator.Unary.{Unary}
use Rattle.lua_model.specs.Answer as answer
use Rattle.lua_model.specs.Operators.{binary, unary}
use Rattle.lua_model.specs.Texts.{Texts}
use Rattle.lua_code.specs.declared.function.Constant.{Constant}
use Rattle.lua_code.specs.declared.op.Op.{Op}
use Rattle.lua_code.specs.declared.op.Op.TheVariants as op
use Rattle.lua_steps.specs.Machine.{Code, Machine, Went, On}
use Rattle.lua_steps.specs.Moves.{slot, gives, paid, answered}
use Rattle.lua_steps.specs.Exec.{line, constants_of, constant_value, chosen, unless, perform}
use Rattle.lua_steps.specs.Loops.{next_turn}
use Rattle.lua_machine.specs.declared.pace.Pace.{Pace}
use Rattle.lua_machine.specs.declared.pace.Pass.{Pass}
use Rattle.lua_machine.specs.declared.pace.Pass.TheVariants as pass
use Rattle.lua_machine.specs.Runs.{Runs}

-- ---- what is in hand
-- a machine that runs a frame of a function: the cells of its captured locals and of its closure, and the values that stand before its slots
pub record Around : Type 0 where
  pub function : ℕ
  pub own : List ℕ
  pub ups : List ℕ
  pub before : List Value
  pub machine : Machine

-- the machine with these slots and all after them, these cells, at this pace
abbrev pub in_hand : Around → List Value → List Value → Pace → Machine
in_hand g row cells pace =
    record g.machine {
      top = record g.machine.top { function = g.function; at = pace.at; base = length g.before; cells = g.own; ups = g.ups };
      row = g.before ++ row;
      cells = cells;
      left = pace.left;
    }

abbrev pub around : ℕ → List ℕ → List ℕ → List Value → Machine → Around
around f own ups before m = record { function = f; own = own; ups = ups; before = before; machine = m }

-- an operation of a function leads from there to there, whatever else the machine has
pub record Quick (code : Code) (f : ℕ) (o : Op) (own ups : List ℕ) (row cells : List Value) (pace : Pace) (after later : List Value) (then_at : Pace) : Type 0 where
  pub is : (before : List Value) (m : Machine)
      → perform code o (in_hand (around f own ups before m) row cells pace) ≡ On (in_hand (around f own ups before m) after later then_at)

-- one that touches no cell does
pub record OnSlots (o : Op) (row : List Value) (pace : Pace) (after : List Value) (then_at : Pace) : Type 0 where
  pub is : (code : Code) (g : Around) (cells : List Value) → perform code o (in_hand g row cells pace) ≡ On (in_hand g after cells then_at)

-- some number of operations does
pub record Ran (code : Code) (f : ℕ) (own ups : List ℕ) (row cells : List Value) (pace : Pace) (after later : List Value) (then_at : Pace) : Type 0 where
  pub is : (before : List Value) (m : Machine) → Runs code (in_hand (around f own ups before m) row cells pace) (On (in_hand (around f own ups before m) after later then_at))

-- the machine whose frame's slots begin at a place of this row
abbrev pub placed : ℕ → List ℕ → List ℕ → ℕ → List Value → List Value → Pace → Machine → Machine
placed f own ups base row cells pace m =
    record m { top = record m.top { function = f; at = pace.at; base = base; cells = own; ups = ups }; row = row; cells = cells; left = pace.left }

-- some number of operations does, in a whole row
pub record Led (code : Code) (f : ℕ) (own ups : List ℕ) (base : ℕ) (row cells : List Value) (pace : Pace) (after later : List Value) (then_at : Pace) : Type 0 where
  pub is : (m : Machine) → Runs code (placed f own ups base row cells pace m) (On (placed f own ups base after later then_at m))

-- ---- what an operation is
-- it is this call or return, if it is said to be one
abbrev pub IsPass : Pass → Op → Type 0
IsPass (pass.Call base args results) o = o ≡ op.Call base args results
IsPass (pass.Return from count) o = o ≡ op.Return from count
IsPass pass.Neither o = Unit {0}

-- ---- what valid code says of them
-- the slots that a quick operation names are among so many
abbrev pub Within : ℕ → Op → Type 0
Within n (op.Nil to) = to < n
Within n (op.Bool to value) = to < n
Within n (op.Int to value) = to < n
Within n (op.Constant to index) = to < n
Within n (op.Move to from) = (to < n) × (from < n)
Within n (op.GetCell to cell) = to < n
Within n (op.SetCell cell from) = from < n
Within n (op.GetUp to up) = to < n
Within n (op.SetUp up from) = from < n
Within n (op.Add to left right) = (to < n) × (left < n) × (right < n)
Within n (op.Sub to left right) = (to < n) × (left < n) × (right < n)
Within n (op.Mul to left right) = (to < n) × (left < n) × (right < n)
Within n (op.AddInt to left value) = (to < n) × (left < n)
Within n (op.MulInt to left value) = (to < n) × (left < n)
Within n (op.Binary sign to left right) = (to < n) × (left < n) × (right < n)
Within n (op.BinaryInt sign to left value) = (to < n) × (left < n)
Within n (op.Unary sign to from) = (to < n) × (from < n)
Within n (op.Test from to) = from < n
Within n (op.TestNot from to) = from < n
Within n (op.UnlessLess left right pay to) = (left < n) × (right < n)
Within n (op.UnlessLessEqual left right pay to) = (left < n) × (right < n)
Within n (op.UnlessEqual left right pay to) = (left < n) × (right < n)
Within n (op.UnlessNotEqual left right pay to) = (left < n) × (right < n)
Within n (op.UnlessLessInt left value pay to) = left < n
Within n (op.UnlessLessEqualInt left value pay to) = left < n
Within n (op.UnlessGreaterInt left value pay to) = left < n
Within n (op.UnlessGreaterEqualInt left value pay to) = left < n
Within n (op.UnlessEqualInt left value pay to) = left < n
Within n (op.UnlessNotEqualInt left value pay to) = left < n
Within n (op.ForLoop pay base to) = base + 3 < n
Within n _ = Unit {0}

-- the constant that an operation names is one of the function's, which is there
pub record Holds (code : Code) (f : ℕ) (o : Op) : Type 0 where
  pub function : (to index : ℕ) → o ≡ op.Constant to index → f < length code
  pub constant : (to index : ℕ) → o ≡ op.Constant to index → index < length (constants_of (slice_get code f))

-- the places that may follow a quick operation are among so many
abbrev pub Near : ℕ → ℕ → Op → Type 0
Near n at (op.Jump to) = to < n
Near n at (op.Loop pay to) = to < n
Near n at (op.Test from to) = (to < n) × (at + 1 < n)
Near n at (op.TestNot from to) = (to < n) × (at + 1 < n)
Near n at (op.UnlessLess left right pay to) = (to < n) × (at + 1 < n)
Near n at (op.UnlessLessEqual left right pay to) = (to < n) × (at + 1 < n)
Near n at (op.UnlessEqual left right pay to) = (to < n) × (at + 1 < n)
Near n at (op.UnlessNotEqual left right pay to) = (to < n) × (at + 1 < n)
Near n at (op.UnlessLessInt left value pay to) = (to < n) × (at + 1 < n)
Near n at (op.UnlessLessEqualInt left value pay to) = (to < n) × (at + 1 < n)
Near n at (op.UnlessGreaterInt left value pay to) = (to < n) × (at + 1 < n)
Near n at (op.UnlessGreaterEqualInt left value pay to) = (to < n) × (at + 1 < n)
Near n at (op.UnlessEqualInt left value pay to) = (to < n) × (at + 1 < n)
Near n at (op.UnlessNotEqualInt left value pay to) = (to < n) × (at + 1 < n)
Near n at (op.ForLoop pay base to) = (to < n) × (at + 1 < n)
Near n at (op.Return from count) = Unit {0}
Near n at op.ReturnList = Unit {0}
Near n at _ = at + 1 < n

-- ---- families of operations
-- an operator answers a plain value
pub record Computes (o : Binary) (u v w : Value) : Type 0 where
  pub is : (texts : Texts) → binary texts o u v ≡ answer.Plain w

pub record ComputesOne (o : Unary) (v w : Value) : Type 0 where
  pub is : (texts : Texts) → unary texts o v ≡ answer.Plain w

pub record IsGiven (op : Op) (to : ℕ) (v : Value) : Type 0 where
  pub is : (code : Code) (m : Machine) → perform code op m ≡ gives to v m

pub record IsOfSlots (op : Op) (o : Binary) (to p q : ℕ) : Type 0 where
  pub is : (code : Code) (m : Machine) → perform code op m ≡ answered (binary m.aside.heap.texts o (slot m p) (slot m q)) to (line code m) m

pub record IsOfInt (op : Op) (o : Binary) (to p : ℕ) (n : ℤ) : Type 0 where
  pub is : (code : Code) (m : Machine) → perform code op m ≡ answered (binary m.aside.heap.texts o (slot m p) (value.Int n)) to (line code m) m

pub record IsTestOfSlots (op : Op) (o : Binary) (p q pay to : ℕ) : Type 0 where
  pub is : (code : Code) (m : Machine) → perform code op m ≡ unless (binary m.aside.heap.texts o (slot m p) (slot m q)) (line code m) pay to m

pub record IsTestOfInt (op : Op) (o : Binary) (p : ℕ) (n : ℤ) (pay to : ℕ) : Type 0 where
  pub is : (code : Code) (m : Machine) → perform code op m ≡ unless (binary m.aside.heap.texts o (slot m p) (value.Int n)) (line code m) pay to m

-- ---- their parts
-- the next operation follows, with this value in a slot
pub record Gives (row : List Value) (pace : Pace) (to : ℕ) (v : Value) (after : List Value) (then_at : Pace) : Type 0 where
  pub is : (g : Around) (cells : List Value) → gives to v (in_hand g row cells pace) ≡ On (in_hand g after cells then_at)

-- the next operation follows, with this constant in a slot
pub record GivesConstant (row : List Value) (pace : Pace) (to : ℕ) (k : Option Constant) (after : List Value) (then_at : Pace) : Type 0 where
  pub is : (g : Around) (cells : List Value) → constant_value k to (in_hand g row cells pace) ≡ On (in_hand g after cells then_at)

-- a choice leads from there to there
pub record Chooses (holds : Bool) (pay to : ℕ) (pace then_at : Pace) : Type 0 where
  pub is : (g : Around) (row cells : List Value) → chosen holds pay to (in_hand g row cells pace) ≡ On (in_hand g row cells then_at)

-- the ticks are paid, whatever follows
pub record Pays (pay : ℕ) (pace then_at : Pace) : Type 0 where
  pub is : (g : Around) (row cells : List Value) (go : Machine → Went) → paid pay (in_hand g row cells pace) go ≡ go (in_hand g row cells then_at)
  pub at : then_at.at ≡ pace.at

-- the next turn of a numeric loop leads from there to there
pub record Turns (n : ℕ) (at step : ℤ) (pay slot to : ℕ) (row : List Value) (pace : Pace) (after : List Value) (then_at : Pace) : Type 0 where
  pub is : (g : Around) (cells : List Value) → next_turn n at step pay slot to (in_hand g row cells pace) ≡ On (in_hand g after cells then_at)
