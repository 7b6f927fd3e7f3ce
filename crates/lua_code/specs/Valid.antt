-- Code that a machine can run without a test of a place, a slot, a cell, a constant or a function number.
use Rattle.std.specs.Prelude.{◌≡◌, ℕ, ◌+◌, ◌-◌, ◌<◌, ◌≤◌, List, [], length, Option, Some, None, slice_get, All, IfSome}
use Rattle.lua_code.specs.declared.op.Op.{Op}
use Rattle.lua_code.specs.declared.op.Op.TheVariants as op
use Rattle.lua_code.specs.declared.function.Capture.{Capture}
use Rattle.lua_code.specs.declared.function.Capture.TheVariants as capture
use Rattle.lua_code.specs.Routine.{Routine}

-- so many slots from this one on
abbrev pub Slots : Routine → ℕ → ℕ → Type 0
Slots f from count = from + count ≤ f.shape.slots

abbrev pub Cell : Routine → ℕ → Type 0
Cell f c = c < f.shape.cells

abbrev pub Up : Routine → ℕ → Type 0
Up f u = u < length f.captures

-- another operation follows this one
abbrev pub GoesOn : Routine → ℕ → Type 0
GoesOn f at = at + 1 < length f.ops

-- a jump from a place to a later one
abbrev pub Forward : Routine → ℕ → ℕ → Type 0
Forward f at to = (at < to) × (to < length f.ops)

-- a jump that pays may also go back
abbrev pub Pays : Routine → ℕ → ℕ → Type 0
Pays f pay to = (0 < pay) × (to < length f.ops)

abbrev pub CaptureFits : Routine → Capture → Type 0
CaptureFits f (capture.Cell c) = Cell f c
CaptureFits f (capture.Up u) = Up f u

-- the function is one of the code, and what it captures is there
abbrev pub CanClose : List Routine → Routine → ℕ → Type 0
CanClose code f g = (g < length code) × IfSome (slice_get code g) (λ h. All (CaptureFits f) h.captures)

-- what an operation at a place asks
abbrev pub Fits : List Routine → Routine → ℕ → Op → Type 0
Fits code f at (op.Nil to) = Slots f to 1 × GoesOn f at
Fits code f at (op.Bool to value) = Slots f to 1 × GoesOn f at
Fits code f at (op.Int to value) = Slots f to 1 × GoesOn f at
Fits code f at (op.Constant to index) = Slots f to 1 × (index < length f.constants) × GoesOn f at
Fits code f at (op.Move to from) = Slots f to 1 × Slots f from 1 × GoesOn f at
Fits code f at (op.NewCell cell from) = Cell f cell × Slots f from 1 × GoesOn f at
Fits code f at (op.GetCell to cell) = Slots f to 1 × Cell f cell × GoesOn f at
Fits code f at (op.SetCell cell from) = Cell f cell × Slots f from 1 × GoesOn f at
Fits code f at (op.GetUp to up) = Slots f to 1 × Up f up × GoesOn f at
Fits code f at (op.SetUp up from) = Up f up × Slots f from 1 × GoesOn f at
Fits code f at (op.Close to function) = Slots f to 1 × CanClose code f function × GoesOn f at
Fits code f at (op.CloseCell cell function) = Cell f cell × CanClose code f function × GoesOn f at
Fits code f at (op.Add to left right) = Slots f to 1 × Slots f left 1 × Slots f right 1 × GoesOn f at
Fits code f at (op.Sub to left right) = Slots f to 1 × Slots f left 1 × Slots f right 1 × GoesOn f at
Fits code f at (op.Mul to left right) = Slots f to 1 × Slots f left 1 × Slots f right 1 × GoesOn f at
Fits code f at (op.AddInt to left value) = Slots f to 1 × Slots f left 1 × GoesOn f at
Fits code f at (op.MulInt to left value) = Slots f to 1 × Slots f left 1 × GoesOn f at
Fits code f at (op.BinaryInt sign to left value) = Slots f to 1 × Slots f left 1 × GoesOn f at
Fits code f at (op.Binary sign to left right) = Slots f to 1 × Slots f left 1 × Slots f right 1 × GoesOn f at
Fits code f at (op.Unary sign to from) = Slots f to 1 × Slots f from 1 × GoesOn f at
Fits code f at (op.Tick pay) = GoesOn f at
Fits code f at (op.Jump to) = Forward f at to
Fits code f at (op.Loop pay to) = Pays f pay to
Fits code f at (op.Test from to) = Slots f from 1 × Forward f at to × GoesOn f at
Fits code f at (op.TestNot from to) = Slots f from 1 × Forward f at to × GoesOn f at
Fits code f at (op.UnlessLess left right pay to) = Slots f left 1 × Slots f right 1 × Forward f at to × GoesOn f at
Fits code f at (op.UnlessLessEqual left right pay to) = Slots f left 1 × Slots f right 1 × Forward f at to × GoesOn f at
Fits code f at (op.UnlessEqual left right pay to) = Slots f left 1 × Slots f right 1 × Forward f at to × GoesOn f at
Fits code f at (op.UnlessNotEqual left right pay to) = Slots f left 1 × Slots f right 1 × Forward f at to × GoesOn f at
Fits code f at (op.UnlessLessInt left value pay to) = Slots f left 1 × Forward f at to × GoesOn f at
Fits code f at (op.UnlessLessEqualInt left value pay to) = Slots f left 1 × Forward f at to × GoesOn f at
Fits code f at (op.UnlessGreaterInt left value pay to) = Slots f left 1 × Forward f at to × GoesOn f at
Fits code f at (op.UnlessGreaterEqualInt left value pay to) = Slots f left 1 × Forward f at to × GoesOn f at
Fits code f at (op.UnlessEqualInt left value pay to) = Slots f left 1 × Forward f at to × GoesOn f at
Fits code f at (op.UnlessNotEqualInt left value pay to) = Slots f left 1 × Forward f at to × GoesOn f at
Fits code f at (op.ForPrep pay base to) = Slots f base 4 × Forward f at to × GoesOn f at
Fits code f at (op.ForLoop pay base to) = Slots f base 4 × Pays f pay to × GoesOn f at
Fits code f at (op.ForCall base results) = Slots f base (3 + results) × (0 < results) × GoesOn f at
Fits code f at (op.ForEach pay base to) = Slots f base 4 × Pays f pay to × GoesOn f at
Fits code f at (op.Call base args results) = Slots f base (1 + args) × Slots f base results × GoesOn f at
Fits code f at (op.CallAll base args) = Slots f base (1 + args) × GoesOn f at
Fits code f at (op.TailCall base args) = Slots f base (1 + args) × GoesOn f at
Fits code f at (op.Return from count) = Slots f from count
Fits code f at op.Begin = GoesOn f at
Fits code f at (op.Push from) = Slots f from 1 × GoesOn f at
Fits code f at op.Append = GoesOn f at
Fits code f at op.Dots = GoesOn f at
Fits code f at (op.DotsTo to count) = Slots f to count × GoesOn f at
Fits code f at (op.Spread to count) = Slots f to count × GoesOn f at
Fits code f at (op.Item to index) = Slots f to 1 × GoesOn f at
Fits code f at (op.CallList base) = GoesOn f at
Fits code f at (op.TailCallList base) = GoesOn f at
Fits code f at op.ReturnList = Unit {0}
Fits code f at op.Start = GoesOn f at

-- Besides its operations: there is a first one, each has its line, the parameters are slots, and an entry pays a tick.
abbrev pub Whole : Routine → Type 0
Whole f = (0 < length f.ops) × (length f.lines ≡ length f.ops) × (f.shape.params ≤ f.shape.slots) × (0 < f.shape.pay)

pub record AllFit (code : List Routine) (f : Routine) : Type 0 where
  pub fit : (at : ℕ) (o : Op) → slice_get f.ops at ≡ Some o → Fits code f at o

pub record IsValidFunction (code : List Routine) (f : Routine) : Type 0 where
  pub whole : Whole f
  pub ops : AllFit code f

pub record AllValid (code : List Routine) : Type 0 where
  pub each : (i : ℕ) (f : Routine) → slice_get code i ≡ Some f → IsValidFunction code f

abbrev pub CapturesNothing : Option Routine → Type 0
CapturesNothing None = ⊥
CapturesNothing (Some f) = f.captures ≡ []

-- the last function is the chunk, which captures nothing
abbrev pub HasChunk : List Routine → Type 0
HasChunk code = CapturesNothing (slice_get code (length code - 1))

pub record IsValid (code : List Routine) : Type 0 where
  pub chunk : HasChunk code
  pub functions : AllValid code
