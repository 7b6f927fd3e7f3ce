-- Quick operations are operations of the machine.
use Rattle.std.proofs.Common.{◌≡◌, ℕ, zero, suc, ◌+◌, ◌<◌, ◌≤◌, List, [], ◌∷◌, ◌++◌, length, take, drop, Option, Some, None, IfSome, IfNone, refl, sym, ap, ◌∙◌, subst, arith, slice_get}
use Rattle.std.specs.Prelude.{slice_set}
use Rattle.lua_value.specs.declared.value.Value.{Value}
use Rattle.lua_value.specs.Lists.{value_at}
use Rattle.lua_model.specs.Heap.{empty}
use Rattle.lua_heap.specs.Contents.{Contents}
use Rattle.lua_code.specs.declared.op.Op.{Op}
use Rattle.lua_code.specs.declared.op.Op.TheVariants as op
use Rattle.lua_code.specs.Routine.{Routine}
use Rattle.lua_code.specs.Valid.{Fits, IsValid}
use Rattle.lua_steps.specs.Machine.{Code, Machine, On}
use Rattle.lua_steps.specs.Moves.{written}
use Rattle.lua_steps.specs.Exec.{ops_of, constants_of, op_at, perform_at, exec, opening}
use Rattle.lua_steps.specs.Measure.{total, rank, MeasureFalls}
use Rattle.lua_machine.specs.declared.pace.Pace.{Pace}
use Rattle.lua_machine.specs.declared.pace.Pass.{Pass}
use Rattle.lua_machine.specs.declared.pace.Pass.TheVariants as pass
use Rattle.lua_machine.specs.Runs.{Runs}
use Rattle.lua_machine.specs.Quick.{around, in_hand, placed, Quick, OnSlots, Ran, Led, Within, Holds, Near}
use Rattle.lua_machine.proofs.RunLemmas.{runs_more, runs_none}

-- ---- slots behind others
pub value_after : (before row : List Value) (i : ℕ) → value_at (before ++ row) (length before + i) ≡ value_at row i
value_after [] row i = let e : 0 + i ≡ i = omega arith in ap (λ (k : ℕ). value_at row k) e
value_after (u ∷ before) row i =
    let e : length (u ∷ before) + i ≡ suc (length before + i) = omega arith in
    ap (λ (k : ℕ). value_at (u ∷ before ++ row) k) e ∙ value_after before row i

pub set_after : (before row : List Value) (i : ℕ) (v : Value) → slice_set (before ++ row) (length before + i) v ≡ before ++ slice_set row i v
set_after [] row i v = let e : 0 + i ≡ i = omega arith in ap (λ (k : ℕ). slice_set row k v) e
set_after (u ∷ before) row i v =
    let e : length (u ∷ before) + i ≡ suc (length before + i) = omega arith in
    ap (λ (k : ℕ). slice_set (u ∷ before ++ row) k v) e ∙ ap (λ (r : List Value). u ∷ r) (set_after before row i v)

pub written_after : (before row : List Value) (i : ℕ) (vs : List Value) → written (before ++ row) (length before + i) vs ≡ before ++ written row i vs
written_after before row i [] = refl
written_after before row i (v ∷ vs) =
    let e : length before + i + 1 ≡ length before + (i + 1) = omega arith in
    ap (λ (r : List Value). written r (length before + i + 1) vs) (set_after before row i v)
    ∙ ap (λ (k : ℕ). written (before ++ slice_set row i v) k vs) e
    ∙ written_after before (slice_set row i v) (i + 1) vs

-- ---- valid code
pub within_fits : (code : Code) (f : Routine) (at n : ℕ) (o : Op) → Fits code f at o → f.shape.slots ≤ n → Within n o
within_fits code f at n (op.Nil to) (p, g) le = let s : to + 1 ≤ f.shape.slots = p in omega (arith, s, le)
within_fits code f at n (op.Constant to index) (p, i, g) le = let s : to + 1 ≤ f.shape.slots = p in omega (arith, s, le)
within_fits code f at n (op.Bool to value) (p, g) le = let s : to + 1 ≤ f.shape.slots = p in omega (arith, s, le)
within_fits code f at n (op.Int to value) (p, g) le = let s : to + 1 ≤ f.shape.slots = p in omega (arith, s, le)
within_fits code f at n (op.Move to from) (p, q, g) le = let s : to + 1 ≤ f.shape.slots = p in let t : from + 1 ≤ f.shape.slots = q in (omega (arith, s, le), omega (arith, t, le))
within_fits code f at n (op.Unary sign to from) (p, q, g) le = let s : to + 1 ≤ f.shape.slots = p in let t : from + 1 ≤ f.shape.slots = q in (omega (arith, s, le), omega (arith, t, le))
within_fits code f at n (op.GetCell to cell) (p, j, g) le = let s : to + 1 ≤ f.shape.slots = p in omega (arith, s, le)
within_fits code f at n (op.SetCell cell from) (c, p, g) le = let s : from + 1 ≤ f.shape.slots = p in omega (arith, s, le)
within_fits code f at n (op.GetUp to up) (p, j, g) le = let s : to + 1 ≤ f.shape.slots = p in omega (arith, s, le)
within_fits code f at n (op.SetUp up from) (c, p, g) le = let s : from + 1 ≤ f.shape.slots = p in omega (arith, s, le)
within_fits code f at n (op.Add to left right) (p, q, r, g) le =
    let s : to + 1 ≤ f.shape.slots = p in
    let t : left + 1 ≤ f.shape.slots = q in
    let u : right + 1 ≤ f.shape.slots = r in
    (omega (arith, s, le), omega (arith, t, le), omega (arith, u, le))
within_fits code f at n (op.Sub to left right) (p, q, r, g) le =
    let s : to + 1 ≤ f.shape.slots = p in
    let t : left + 1 ≤ f.shape.slots = q in
    let u : right + 1 ≤ f.shape.slots = r in
    (omega (arith, s, le), omega (arith, t, le), omega (arith, u, le))
within_fits code f at n (op.Mul to left right) (p, q, r, g) le =
    let s : to + 1 ≤ f.shape.slots = p in
    let t : left + 1 ≤ f.shape.slots = q in
    let u : right + 1 ≤ f.shape.slots = r in
    (omega (arith, s, le), omega (arith, t, le), omega (arith, u, le))
within_fits code f at n (op.AddInt to left value) (p, q, g) le = let s : to + 1 ≤ f.shape.slots = p in let t : left + 1 ≤ f.shape.slots = q in (omega (arith, s, le), omega (arith, t, le))
within_fits code f at n (op.MulInt to left value) (p, q, g) le = let s : to + 1 ≤ f.shape.slots = p in let t : left + 1 ≤ f.shape.slots = q in (omega (arith, s, le), omega (arith, t, le))
within_fits code f at n (op.Binary sign to left right) (p, q, r, g) le =
    let s : to + 1 ≤ f.shape.slots = p in
    let t : left + 1 ≤ f.shape.slots = q in
    let u : right + 1 ≤ f.shape.slots = r in
    (omega (arith, s, le), omega (arith, t, le), omega (arith, u, le))
within_fits code f at n (op.BinaryInt sign to left value) (p, q, g) le = let s : to + 1 ≤ f.shape.slots = p in let t : left + 1 ≤ f.shape.slots = q in (omega (arith, s, le), omega (arith, t, le))
within_fits code f at n (op.Test from to) (p, j, g) le = let s : from + 1 ≤ f.shape.slots = p in omega (arith, s, le)
within_fits code f at n (op.TestNot from to) (p, j, g) le = let s : from + 1 ≤ f.shape.slots = p in omega (arith, s, le)
within_fits code f at n (op.UnlessLess left right pay to) (p, q, j, g) le = let s : left + 1 ≤ f.shape.slots = p in let t : right + 1 ≤ f.shape.slots = q in (omega (arith, s, le), omega (arith, t, le))
within_fits code f at n (op.UnlessLessEqual left right pay to) (p, q, j, g) le = let s : left + 1 ≤ f.shape.slots = p in let t : right + 1 ≤ f.shape.slots = q in (omega (arith, s, le), omega (arith, t, le))
within_fits code f at n (op.UnlessEqual left right pay to) (p, q, j, g) le = let s : left + 1 ≤ f.shape.slots = p in let t : right + 1 ≤ f.shape.slots = q in (omega (arith, s, le), omega (arith, t, le))
within_fits code f at n (op.UnlessNotEqual left right pay to) (p, q, j, g) le = let s : left + 1 ≤ f.shape.slots = p in let t : right + 1 ≤ f.shape.slots = q in (omega (arith, s, le), omega (arith, t, le))
within_fits code f at n (op.UnlessLessInt left value pay to) (p, j, g) le = let s : left + 1 ≤ f.shape.slots = p in omega (arith, s, le)
within_fits code f at n (op.UnlessLessEqualInt left value pay to) (p, j, g) le = let s : left + 1 ≤ f.shape.slots = p in omega (arith, s, le)
within_fits code f at n (op.UnlessGreaterInt left value pay to) (p, j, g) le = let s : left + 1 ≤ f.shape.slots = p in omega (arith, s, le)
within_fits code f at n (op.UnlessGreaterEqualInt left value pay to) (p, j, g) le = let s : left + 1 ≤ f.shape.slots = p in omega (arith, s, le)
within_fits code f at n (op.UnlessEqualInt left value pay to) (p, j, g) le = let s : left + 1 ≤ f.shape.slots = p in omega (arith, s, le)
within_fits code f at n (op.UnlessNotEqualInt left value pay to) (p, j, g) le = let s : left + 1 ≤ f.shape.slots = p in omega (arith, s, le)
within_fits code f at n (op.ForLoop pay base to) (p, j, g) le = let s : base + 4 ≤ f.shape.slots = p in omega (arith, s, le)
within_fits code f at n (op.NewCell cell from) fits le = tt
within_fits code f at n (op.Close to function) fits le = tt
within_fits code f at n (op.CloseCell cell function) fits le = tt
within_fits code f at n (op.Tick pay) fits le = tt
within_fits code f at n (op.Jump to) fits le = tt
within_fits code f at n (op.Loop pay to) fits le = tt
within_fits code f at n (op.ForPrep pay base to) fits le = tt
within_fits code f at n (op.ForCall base results) fits le = tt
within_fits code f at n (op.ForEach pay base to) fits le = tt
within_fits code f at n (op.Call base args results) fits le = tt
within_fits code f at n (op.CallAll base args) fits le = tt
within_fits code f at n (op.TailCall base args) fits le = tt
within_fits code f at n (op.Return from count) fits le = tt
within_fits code f at n op.Begin fits le = tt
within_fits code f at n (op.Push from) fits le = tt
within_fits code f at n op.Append fits le = tt
within_fits code f at n op.Dots fits le = tt
within_fits code f at n (op.DotsTo to count) fits le = tt
within_fits code f at n (op.Spread to count) fits le = tt
within_fits code f at n (op.Item to index) fits le = tt
within_fits code f at n (op.CallList base) fits le = tt
within_fits code f at n (op.TailCallList base) fits le = tt
within_fits code f at n op.ReturnList fits le = tt
within_fits code f at n op.Start fits le = tt

pub near_fits : (code : Code) (f : Routine) (at : ℕ) (o : Op) → Fits code f at o → Near (length f.ops) at o
near_fits code f at (op.Nil to) (a, g) = g
near_fits code f at (op.Bool to value) (a, g) = g
near_fits code f at (op.Int to value) (a, g) = g
near_fits code f at (op.Close to function) (a, b, g) = g
near_fits code f at (op.CloseCell cell function) (a, b, g) = g
near_fits code f at (op.Constant to index) (a, b, g) = g
near_fits code f at (op.Move to from) (a, b, g) = g
near_fits code f at (op.NewCell cell from) (a, b, g) = g
near_fits code f at (op.GetCell to cell) (a, b, g) = g
near_fits code f at (op.SetCell cell from) (a, b, g) = g
near_fits code f at (op.GetUp to up) (a, b, g) = g
near_fits code f at (op.SetUp up from) (a, b, g) = g
near_fits code f at (op.AddInt to left value) (a, b, g) = g
near_fits code f at (op.MulInt to left value) (a, b, g) = g
near_fits code f at (op.BinaryInt sign to left value) (a, b, g) = g
near_fits code f at (op.Unary sign to from) (a, b, g) = g
near_fits code f at (op.ForCall base results) (a, b, g) = g
near_fits code f at (op.Call base args results) (a, b, g) = g
near_fits code f at (op.CallAll base args) (a, g) = g
near_fits code f at (op.TailCall base args) (a, g) = g
near_fits code f at (op.Push from) (a, g) = g
near_fits code f at (op.DotsTo to count) (a, g) = g
near_fits code f at (op.Spread to count) (a, g) = g
near_fits code f at (op.Item to index) (a, g) = g
near_fits code f at (op.Add to left right) (a, b, c, g) = g
near_fits code f at (op.Sub to left right) (a, b, c, g) = g
near_fits code f at (op.Mul to left right) (a, b, c, g) = g
near_fits code f at (op.Binary sign to left right) (a, b, c, g) = g
near_fits code f at (op.Tick pay) g = g
near_fits code f at op.Begin g = g
near_fits code f at op.Append g = g
near_fits code f at op.Dots g = g
near_fits code f at (op.CallList base) g = g
near_fits code f at (op.TailCallList base) g = g
near_fits code f at op.Start g = g
near_fits code f at (op.Jump to) (lt, within) = within
near_fits code f at (op.Loop pay to) (paid, within) = within
near_fits code f at (op.Test from to) (a, (lt, within), g) = (within, g)
near_fits code f at (op.TestNot from to) (a, (lt, within), g) = (within, g)
near_fits code f at (op.UnlessLessInt left value pay to) (a, (lt, within), g) = (within, g)
near_fits code f at (op.UnlessLessEqualInt left value pay to) (a, (lt, within), g) = (within, g)
near_fits code f at (op.UnlessGreaterInt left value pay to) (a, (lt, within), g) = (within, g)
near_fits code f at (op.UnlessGreaterEqualInt left value pay to) (a, (lt, within), g) = (within, g)
near_fits code f at (op.UnlessEqualInt left value pay to) (a, (lt, within), g) = (within, g)
near_fits code f at (op.UnlessNotEqualInt left value pay to) (a, (lt, within), g) = (within, g)
near_fits code f at (op.UnlessLess left right pay to) (a, b, (lt, within), g) = (within, g)
near_fits code f at (op.UnlessLessEqual left right pay to) (a, b, (lt, within), g) = (within, g)
near_fits code f at (op.UnlessEqual left right pay to) (a, b, (lt, within), g) = (within, g)
near_fits code f at (op.UnlessNotEqual left right pay to) (a, b, (lt, within), g) = (within, g)
near_fits code f at (op.ForPrep pay base to) (a, j, g) = g
near_fits code f at (op.ForLoop pay base to) (a, (paid, within), g) = (within, g)
near_fits code f at (op.ForEach pay base to) (a, j, g) = g
near_fits code f at (op.Return from count) fits = tt
near_fits code f at op.ReturnList fits = tt

routine_there : (code : Code) (i : ℕ) (f : Routine) → slice_get code i ≡ Some f → i < length code
routine_there [] i f e = absurd (cc)
routine_there (x ∷ code) zero f e = omega arith
routine_there (x ∷ code) (suc i) f e = let lt = routine_there code i f e in omega (arith, lt)

pub holds_fits : (code : Code) (i : ℕ) (f : Routine) (at : ℕ) (o : Op) → slice_get code i ≡ Some f → Fits code f at o → Holds code i o
holds_fits code i f at o here fits = record {
  function = λ to index e. routine_there code i f here;
  constant = λ to index e.
      let own : index < length f.constants = (subst (λ (x : Op). Fits code f at x) e fits).1 in
      subst (λ (r : Option Routine). index < length (constants_of r)) (sym here) own;
}

pub fits_at : (code : Code) (i : ℕ) (f : Routine) (at : ℕ) (o : Op) → IsValid code → slice_get code i ≡ Some f → slice_get f.ops at ≡ Some o → Fits code f at o
fits_at code i f at o valid here is = (valid.functions.each i f here).ops.fit at o is

pub op_there : (code : Code) (i : ℕ) (f : Routine) (at : ℕ) (o : Op) → slice_get code i ≡ Some f → slice_get f.ops at ≡ Some o → op_at code i at ≡ Some o
op_there code i f at o here is = ap (λ r. slice_get (ops_of r) at) here ∙ is

-- ---- answers that may be none
pub some_map : (o : Option Pace) (P Q : Pace → Type 0) → ((p : Pace) → P p → Q p) → IfSome o P → IfSome o Q
some_map None P Q f h = tt
some_map (Some p) P Q f h = f p h

none_at : (o : Option Pace) (P : Type 0) → o ≡ None → IfNone o P → P
none_at o P is h = subst (λ (x : Option Pace). IfNone x P) is h

pub held_at : (o : Option Pace) (p : Pace) (P : Pace → Type 0) → o ≡ Some p → IfSome o P → P p
held_at o p P is h = subst (λ (x : Option Pace). IfSome x P) is h

-- what holds of the pace that an operation leads to holds of the one that is kept
pub kept : (next : Option Pace) (left : Option Pass) (then_at : Pace) (P : Pace → Type 0) → IfNone left (next ≡ Some then_at) → IfSome next P → IfNone left (P then_at)
kept next None then_at P is h = held_at next then_at P is h
kept next (Some p) then_at P is h = tt

pub kept_next : (next : Option Pace) (left : Option Pass) (then_at : Pace) (at count : ℕ) → at + 1 < count → IfNone left (next ≡ Some then_at) → IfSome next (λ p. p.at ≡ at + 1) → IfNone left (then_at.at < count)
kept_next next left then_at at count lt is h = kept next left then_at (λ (p : Pace). p.at < count) is (some_map next (λ (p : Pace). p.at ≡ at + 1) (λ (p : Pace). p.at < count) (λ p e. omega (arith, e, lt)) h)

pub kept_near : (next : Option Pace) (left : Option Pass) (then_at : Pace) (count : ℕ) → IfNone left (next ≡ Some then_at) → IfSome next (λ p. p.at < count) → IfNone left (then_at.at < count)
kept_near next left then_at count is h = kept next left then_at (λ (p : Pace). p.at < count) is h

-- what comes to a stop leaves all as it was
pub stays_more : (next : Option Pace) (left : Option Pass) (row after : List Value) (h : Contents) (start end : Pace) → IfSome left (λ p. (p ≡ pass.Neither) × (end ≡ start) × (next ≡ None)) → IfNone next (after ≡ row)
    → IfSome left (λ p. (after ≡ row) × (h ≡ h) × (end ≡ start))
stays_more next None row after h start end is e = tt
stays_more next (Some p) row after h start end is e = (none_at next (after ≡ row) is.2 e, refl, is.1)

-- ---- an operation that touches no cell
pub lifts : (code : Code) (f : ℕ) (o : Op) (own ups : List ℕ) (row after cells : List Value) (pace p : Pace) → OnSlots o row pace after p → Quick code f o own ups row cells pace after cells p
lifts code f o own ups row after cells pace p h = record { is = λ before m. h.is code (around f own ups before m) cells }

pub lifts_kept : (code : Code) (f : ℕ) (o : Op) (own ups : List ℕ) (row after cells : List Value) (pace then_at : Pace) (next : Option Pace) (left : Option Pass)
    → IfNone left (next ≡ Some then_at) → IfSome next (λ p. OnSlots o row pace after p) → IfNone left (Quick code f o own ups row cells pace after cells then_at)
lifts_kept code f o own ups row after cells pace then_at next None is h = lifts code f o own ups row after cells pace then_at (held_at next then_at (λ (p : Pace). OnSlots o row pace after p) is h)
lifts_kept code f o own ups row after cells pace then_at next (Some p) is h = tt

-- ---- runs
-- a machine that has nothing but what is in hand
abbrev pub bare : Machine
bare = opening [] 0 (empty 0) 0

pub stepped : (code : Code) (f : ℕ) (own ups : List ℕ) (row cells after later : List Value) (pace then_at : Pace) (o : Op) → op_at code f pace.at ≡ Some o
    → Quick code f o own ups row cells pace after later then_at → (before : List Value) (m : Machine)
    → exec code (in_hand (around f own ups before m) row cells pace) ≡ On (in_hand (around f own ups before m) after later then_at)
stepped code f own ups row cells after later pace then_at o is quick before m =
    ap (λ x. perform_at x code (in_hand (around f own ups before m) row cells pace)) is ∙ quick.is before m

pub ran_more : (code : Code) (f : ℕ) (own ups : List ℕ) (first held row cells after later : List Value) (start pace then_at : Pace) (o : Op)
    → Ran code f own ups first held start row cells pace → op_at code f pace.at ≡ Some o → Quick code f o own ups row cells pace after later then_at
    → Ran code f own ups first held start after later then_at
ran_more code f own ups first held row cells after later start pace then_at o ran is quick = record {
  is = λ before m.
      let g = around f own ups before m in
      let here = in_hand g row cells pace in
      runs_more code (in_hand g first held start) here _ (ran.is before m)
      (stepped code f own ups row cells after later pace then_at o is quick before m);
}

pub ran_none : (code : Code) (f : ℕ) (own ups : List ℕ) (row cells : List Value) (pace : Pace) → Ran code f own ups row cells pace row cells pace
ran_none code f own ups row cells pace = record { is = λ before m. runs_none code (in_hand (around f own ups before m) row cells pace) }

pub ran_falls : (code : Code) (f : ℕ) (own ups : List ℕ) (row cells after later : List Value) (pace then_at : Pace) (o : Op) → MeasureFalls → IsValid code
    → op_at code f pace.at ≡ Some o → Quick code f o own ups row cells pace after later then_at
    → rank (total code) (in_hand (around f own ups [] bare) after later then_at) < rank (total code) (in_hand (around f own ups [] bare) row cells pace)
ran_falls code f own ups row cells after later pace then_at o falls valid is quick =
    falls code (in_hand (around f own ups [] bare) row cells pace) (in_hand (around f own ups [] bare) after later then_at) valid
    (stepped code f own ups row cells after later pace then_at o is quick [] bare)

-- ---- a row in two parts
pub split : (n : ℕ) (xs : List Value) → n ≤ length xs → (take n xs ++ drop n xs ≡ xs) × (length (take n xs) ≡ n)
split zero xs le = (refl, refl)
split (suc n) [] le = absurd (omega (arith, le))
split (suc n) (x ∷ xs) le =
    let less : n ≤ length xs = omega (arith, le) in
    let (same, long) = split n xs less in
    (ap (λ (ys : List Value). x ∷ ys) same, ap (λ (k : ℕ). suc k) long)

pub led : (code : Code) (f : ℕ) (own ups : List ℕ) (base : ℕ) (row cells : List Value) (pace : Pace) (w later : List Value) (then_at : Pace) → base ≤ length row
    → Ran code f own ups (drop base row) cells pace w later then_at → Led code f own ups base row cells pace (take base row ++ w) later then_at
led code f own ups base row cells pace w later then_at le ran =
    let (same, long) = split base row le in
    record {
      is = λ m.
          subst (λ (r : List Value). Runs code (placed f own ups base r cells pace m) (On (placed f own ups base (take base row ++ w) later then_at m))) same
          (subst (λ (n : ℕ). Runs code (placed f own ups n (take base row ++ drop base row) cells pace m) (On (placed f own ups n (take base row ++ w) later then_at m))) long
          (ran.is (take base row) m));
    }

-- a run of quick operations is a run of the machine from which it was begun
pub hurried : (code : Code) (m to : Machine) (f base : ℕ) (own ups : List ℕ) (row cells after later : List Value) (start pace : Pace) → Led code f own ups base row cells start after later pace
    → f ≡ m.top.function → base ≡ m.top.base → own ≡ m.top.cells → ups ≡ m.top.ups → row ≡ m.row → cells ≡ m.cells → start.at ≡ m.top.at → start.left ≡ m.left
    → to ≡ record m { top = record m.top { at = pace.at }; row = after; cells = later; left = pace.left } → Runs code m (On to)
hurried code m to f base own ups row cells after later start pace run same_f same_base same_own same_ups same_row same_cells same_at same_left same =
    let begun : placed f own ups base row cells start m ≡ m =
    ap (λ (x : ℕ). record m { top = record m.top { function = x; at = start.at; base = base; cells = own; ups = ups }; row = row; cells = cells; left = start.left }) same_f
    ∙ ap (λ (x : ℕ). record m { top = record m.top { at = start.at; base = x; cells = own; ups = ups }; row = row; cells = cells; left = start.left }) same_base
    ∙ ap (λ (x : List ℕ). record m { top = record m.top { at = start.at; cells = x; ups = ups }; row = row; cells = cells; left = start.left }) same_own
    ∙ ap (λ (x : List ℕ). record m { top = record m.top { at = start.at; ups = x }; row = row; cells = cells; left = start.left }) same_ups
    ∙ ap (λ (x : List Value). record m { top = record m.top { at = start.at }; row = x; cells = cells; left = start.left }) same_row
    ∙ ap (λ (x : List Value). record m { top = record m.top { at = start.at }; cells = x; left = start.left }) same_cells
    ∙ ap (λ (x : ℕ). record m { top = record m.top { at = x }; left = start.left }) same_at
    ∙ ap (λ (x : ℕ). record m { left = x }) same_left in
    let ended : placed f own ups base after later pace m ≡ to =
    ap (λ (x : ℕ). record m { top = record m.top { function = x; at = pace.at; base = base; cells = own; ups = ups }; row = after; cells = later; left = pace.left }) same_f
    ∙ ap (λ (x : ℕ). record m { top = record m.top { at = pace.at; base = x; cells = own; ups = ups }; row = after; cells = later; left = pace.left }) same_base
    ∙ ap (λ (x : List ℕ). record m { top = record m.top { at = pace.at; cells = x; ups = ups }; row = after; cells = later; left = pace.left }) same_own
    ∙ ap (λ (x : List ℕ). record m { top = record m.top { at = pace.at; ups = x }; row = after; cells = later; left = pace.left }) same_ups
    ∙ sym same in
    subst (λ (x : Machine). Runs code x (On to)) begun (subst (λ (x : Machine). Runs code (placed f own ups base row cells start m) (On x)) ended (run.is m))

took : {A : Type 0} (xs ys : List A) → take (length xs) (xs ++ ys) ≡ xs
took [] ys = refl
took (x ∷ xs) ys = ap (λ (zs : List _). x ∷ zs) (took xs ys)

pub taken_all : {A : Type 0} (n : ℕ) (xs ys : List A) → length xs ≡ n → take n (xs ++ ys) ≡ xs
taken_all n xs ys e = ap (λ (k : ℕ). take k (xs ++ ys)) (sym e) ∙ took xs ys
