-- A function that is being written, and what was written before. A jump names a label; labels have their places when the function is
-- done. It is this project's own.
use Rattle.std.specs.Prelude.{ℕ, ◌+◌, max, Bool, true, ◌||◌, if◌then◌else◌, List, [], ◌∷◌, ◌++◌, length, map, slice_get, slice_set, unwrap_or}
use Rattle.lua_tree.specs.Source.{Text}
use Rattle.lua_code.specs.declared.function.Capture.{Capture}
use Rattle.lua_code.specs.declared.function.Capture.TheVariants as capture
use Rattle.lua_code.specs.declared.function.Constant.{Constant}
use Rattle.lua_code.specs.declared.function.Shape.{Shape}
use Rattle.lua_code.specs.declared.op.Op.{Op}
use Rattle.lua_code.specs.declared.op.Op.TheVariants as op
use Rattle.lua_code.specs.Routine.{Routine}
use Rattle.lua_steps.specs.declared.scope.Place.{Place}
use Rattle.lua_steps.specs.declared.scope.Place.TheVariants.{InCell, InUp, Hidden}
use Rattle.lua_steps.specs.declared.scope.Known.{Known}
use Rattle.lua_steps.specs.Scope.{Scope, in_slot, in_cell, past}

pub record Writer : Type 0 where
  -- the function so far
  pub draft : Routine
  -- the place of its next operation
  pub at : ℕ
  -- the places of its labels
  pub labels : List ℕ
  -- the functions that are done
  pub made : List Routine
  -- how many locals of the chunk were declared, and which of them go to cells
  pub locals : ℕ
  pub flags : List Bool
  -- whether something had no code: it makes or reads a table, or a name that no local has
  pub lost : Bool

-- ---- how much an operation needs
-- the slot after those that it names
abbrev pub reach : Op → ℕ
reach (op.Nil to) = to + 1
reach (op.Bool to b) = to + 1
reach (op.Int to n) = to + 1
reach (op.Constant to i) = to + 1
reach (op.Move to from) = max (to + 1) (from + 1)
reach (op.NewCell cell from) = from + 1
reach (op.GetCell to cell) = to + 1
reach (op.SetCell cell from) = from + 1
reach (op.GetUp to up) = to + 1
reach (op.SetUp up from) = from + 1
reach (op.Close to g) = to + 1
reach (op.CloseCell cell g) = 0
reach (op.Add to p q) = max (to + 1) (max (p + 1) (q + 1))
reach (op.Sub to p q) = max (to + 1) (max (p + 1) (q + 1))
reach (op.Mul to p q) = max (to + 1) (max (p + 1) (q + 1))
reach (op.AddInt to p n) = max (to + 1) (p + 1)
reach (op.MulInt to p n) = max (to + 1) (p + 1)
reach (op.BinaryInt o to p n) = max (to + 1) (p + 1)
reach (op.Binary o to p q) = max (to + 1) (max (p + 1) (q + 1))
reach (op.Unary o to p) = max (to + 1) (p + 1)
reach (op.Tick pay) = 0
reach (op.Jump to) = 0
reach (op.Loop pay to) = 0
reach (op.Test p to) = p + 1
reach (op.TestNot p to) = p + 1
reach (op.UnlessLess p q pay to) = max (p + 1) (q + 1)
reach (op.UnlessLessEqual p q pay to) = max (p + 1) (q + 1)
reach (op.UnlessEqual p q pay to) = max (p + 1) (q + 1)
reach (op.UnlessNotEqual p q pay to) = max (p + 1) (q + 1)
reach (op.UnlessLessInt p n pay to) = p + 1
reach (op.UnlessLessEqualInt p n pay to) = p + 1
reach (op.UnlessGreaterInt p n pay to) = p + 1
reach (op.UnlessGreaterEqualInt p n pay to) = p + 1
reach (op.UnlessEqualInt p n pay to) = p + 1
reach (op.UnlessNotEqualInt p n pay to) = p + 1
reach (op.ForPrep pay base to) = base + 4
reach (op.ForLoop pay base to) = base + 4
reach (op.ForCall base results) = base + 3 + results
reach (op.ForEach pay base to) = base + 4
reach (op.Call base args results) = max (base + 1 + args) (base + results)
reach (op.CallAll base args) = base + 1 + args
reach (op.TailCall base args) = base + 1 + args
reach (op.Return from count) = from + count
reach op.Begin = 0
reach (op.Push from) = from + 1
reach op.Append = 0
reach op.Dots = 0
reach (op.DotsTo to count) = to + count
reach (op.Spread to count) = to + count
reach (op.Item to i) = to + 1
reach (op.CallList base) = 0
reach (op.TailCallList base) = 0
reach op.ReturnList = 0
reach op.Start = 0

-- the cell after the one that it names
abbrev pub cell_reach : Op → ℕ
cell_reach (op.NewCell cell from) = cell + 1
cell_reach (op.GetCell to cell) = cell + 1
cell_reach (op.SetCell cell from) = cell + 1
cell_reach (op.CloseCell cell g) = cell + 1
cell_reach o = 0

abbrev pub widened : Op → Shape → Shape
widened o shape = record shape { slots = max shape.slots (reach o); cells = max shape.cells (cell_reach o) }

-- ---- writing
-- an operation of this line comes last
abbrev pub emit : Op → ℕ → Writer → Writer
emit o line w =
    record w {
      at = w.at + 1;
      draft = record w.draft { ops = w.draft.ops ++ o ∷ []; lines = w.draft.lines ++ line ∷ []; shape = widened o w.draft.shape };
    }

-- an operation whose line no error tells
abbrev pub put : Op → Writer → Writer
put o w = emit o 0 w

-- a new label; its number is how many there were
abbrev pub labelled : Writer → Writer
labelled w = record w { labels = w.labels ++ 0 ∷ [] }

abbrev pub label_of : Writer → ℕ
label_of w = length w.labels

-- the label stands at the next operation
abbrev pub placed_here : ℕ → Writer → Writer
placed_here l w = record w { labels = slice_set w.labels l w.at }

abbrev pub with_constant : Constant → Writer → Writer
with_constant c w = record w { draft = record w.draft { constants = w.draft.constants ++ c ∷ [] } }

abbrev pub lost_if : Bool → Writer → Writer
lost_if b w = record w { lost = w.lost || b }

abbrev pub counted : Writer → Writer
counted w = record w { locals = w.locals + 1 }

-- ---- labels become places
abbrev pub place : List ℕ → ℕ → ℕ
place labels l = unwrap_or (slice_get labels l) 0

abbrev pub placed : List ℕ → Op → Op
placed labels (op.Jump l) = op.Jump (place labels l)
placed labels (op.Loop pay l) = op.Loop pay (place labels l)
placed labels (op.Test p l) = op.Test p (place labels l)
placed labels (op.TestNot p l) = op.TestNot p (place labels l)
placed labels (op.UnlessLess p q pay l) = op.UnlessLess p q pay (place labels l)
placed labels (op.UnlessLessEqual p q pay l) = op.UnlessLessEqual p q pay (place labels l)
placed labels (op.UnlessEqual p q pay l) = op.UnlessEqual p q pay (place labels l)
placed labels (op.UnlessNotEqual p q pay l) = op.UnlessNotEqual p q pay (place labels l)
placed labels (op.UnlessLessInt p n pay l) = op.UnlessLessInt p n pay (place labels l)
placed labels (op.UnlessLessEqualInt p n pay l) = op.UnlessLessEqualInt p n pay (place labels l)
placed labels (op.UnlessGreaterInt p n pay l) = op.UnlessGreaterInt p n pay (place labels l)
placed labels (op.UnlessGreaterEqualInt p n pay l) = op.UnlessGreaterEqualInt p n pay (place labels l)
placed labels (op.UnlessEqualInt p n pay l) = op.UnlessEqualInt p n pay (place labels l)
placed labels (op.UnlessNotEqualInt p n pay l) = op.UnlessNotEqualInt p n pay (place labels l)
placed labels (op.ForPrep pay base l) = op.ForPrep pay base (place labels l)
placed labels (op.ForLoop pay base l) = op.ForLoop pay base (place labels l)
placed labels (op.ForEach pay base l) = op.ForEach pay base (place labels l)
placed labels o = o

abbrev pub done : Writer → Routine
done w = record w.draft { ops = map (placed w.labels) w.draft.ops }

-- ---- locals
abbrev pub flag : List Bool → ℕ → Bool
flag flags k = unwrap_or (slice_get flags k) true

-- the next local of the chunk, of this name, is in the first free slot, or in a cell that takes the value from there
abbrev pub known : Text → Scope → List Bool → ℕ → Scope
known x sc flags k = if flag flags k then past 1 (in_cell x sc) else in_slot x sc

abbrev pub all_known : List Text → Scope → List Bool → ℕ → Scope
all_known [] sc flags k = sc
all_known (x ∷ xs) sc flags k = all_known xs (known x sc flags k) flags (k + 1)

abbrev pub declare : Scope → Writer → Writer
declare sc w = counted (if flag w.flags w.locals then put (op.NewCell sc.cells sc.free) w else w)

abbrev pub declare_all : List Text → Scope → Writer → Writer
declare_all [] sc w = w
declare_all (x ∷ xs) sc w = declare_all xs (known x sc w.flags w.locals) (declare sc w)

-- ---- functions
abbrev pub captured : Place → List Capture → List Capture
captured (InCell c) rest = capture.Cell c ∷ rest
captured (InUp u) rest = capture.Up u ∷ rest
captured _ rest = rest

-- a function captures all cells that it can see
abbrev pub captures_of : List Known → List Capture
captures_of [] = []
captures_of (n ∷ ns) = captured n.place (captures_of ns)

abbrev pub up_from : Place → ℕ → Place
up_from (InCell c) i = InUp i
up_from (InUp u) i = InUp i
up_from _ i = Hidden

abbrev pub after_up : Place → ℕ → ℕ
after_up (InCell c) i = i + 1
after_up (InUp u) i = i + 1
after_up _ i = i

-- and sees their names, the first of them as its cell i
abbrev pub seen_inside : ℕ → List Known → List Known
seen_inside i [] = []
seen_inside i (n ∷ ns) = record { name = n.name; place = up_from n.place i } ∷ seen_inside (after_up n.place i) ns

-- a function begins
abbrev pub begun : Shape → List Known → Writer → Writer
begun shape names w =
    record w {
      draft = record { ops = []; lines = []; constants = []; captures = captures_of names; shape = shape };
      at = 0;
      labels = [];
    }

-- a function inside is done, and this one goes on
abbrev pub resumed : Writer → Writer → Writer
resumed inner w = record w { made = inner.made ++ done inner ∷ []; locals = inner.locals; lost = inner.lost }
