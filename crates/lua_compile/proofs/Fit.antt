-- An operation that is written fits the function that it ends up in.
use Rattle.std.proofs.Common.{◌≡◌, ℕ, zero, suc, ◌+◌, ◌<◌, ◌≤◌, subst, List, [], ◌∷◌, ◌++◌, length, Some, arith}
use Rattle.std.specs.Prelude.{slice_get, max}
use Rattle.std.proofs.Math.Nat.{le-max_left, le-max_right}
use Rattle.lua_code.specs.declared.function.Constant.{Constant}
use Rattle.lua_code.specs.declared.op.Op.{Op}
use Rattle.lua_code.specs.declared.op.Op.TheVariants as op
use Rattle.lua_code.specs.Routine.{Routine}
use Rattle.lua_code.specs.Valid.{Slots, Up, Forward, Pays, CanClose, Fits}
use Rattle.lua_steps.specs.Machine.{Code}
use Rattle.lua_compile.specs.Writer.{Writer, reach, cell_reach, emit, placed_here, place, placed}
use Rattle.lua_compile.proofs.Kept.{Level, Kept, kept_self, kept_placed_below}
use Rattle.lua_compile.proofs.KeptForms.{K}
use Rattle.lua_compile.proofs.Final.{Final, part}

-- what an operation asks besides slots and cells
abbrev pub Asks : Code → Routine → List ℕ → ℕ → Op → Type 0
Asks code r L k (op.Constant to i) = i < length r.constants
Asks code r L k (op.GetUp to u) = Up r u
Asks code r L k (op.SetUp u from) = Up r u
Asks code r L k (op.Close to g) = CanClose code r g
Asks code r L k (op.CloseCell cell g) = CanClose code r g
Asks code r L k (op.Jump l) = Forward r k (place L l)
Asks code r L k (op.Loop pay l) = Pays r pay (place L l)
Asks code r L k (op.Test p l) = Forward r k (place L l)
Asks code r L k (op.TestNot p l) = Forward r k (place L l)
Asks code r L k (op.UnlessLess p q pay l) = Forward r k (place L l)
Asks code r L k (op.UnlessLessEqual p q pay l) = Forward r k (place L l)
Asks code r L k (op.UnlessEqual p q pay l) = Forward r k (place L l)
Asks code r L k (op.UnlessNotEqual p q pay l) = Forward r k (place L l)
Asks code r L k (op.UnlessLessInt p n pay l) = Forward r k (place L l)
Asks code r L k (op.UnlessLessEqualInt p n pay l) = Forward r k (place L l)
Asks code r L k (op.UnlessGreaterInt p n pay l) = Forward r k (place L l)
Asks code r L k (op.UnlessGreaterEqualInt p n pay l) = Forward r k (place L l)
Asks code r L k (op.UnlessEqualInt p n pay l) = Forward r k (place L l)
Asks code r L k (op.UnlessNotEqualInt p n pay l) = Forward r k (place L l)
Asks code r L k (op.ForPrep pay base l) = Forward r k (place L l)
Asks code r L k (op.ForLoop pay base l) = Pays r pay (place L l)
Asks code r L k (op.ForEach pay base l) = Pays r pay (place L l)
Asks code r L k (op.ForCall base results) = 0 < results
Asks code r L k _ = Unit {0}

one : (r : Routine) (s : ℕ) → s + 1 ≤ r.shape.slots → Slots r s 1
one r s h = h

two_left : (n p q : ℕ) → max p q ≤ n → p ≤ n
two_left n p q h = (let l = le-max_left p q in omega arith)

two_right : (n p q : ℕ) → max p q ≤ n → q ≤ n
two_right n p q h = (let l = le-max_right p q in omega arith)

pub fits_of : (code : Code) (r : Routine) (L : List ℕ) (k : ℕ) (o : Op) → Asks code r L k o → reach o ≤ r.shape.slots → cell_reach o ≤ r.shape.cells → k + 1 < length r.ops → Fits code r k (placed L o)
fits_of code r L k (op.Nil to) a s c g = (s, g)
fits_of code r L k (op.Bool to b) a s c g = (s, g)
fits_of code r L k (op.Int to n) a s c g = (s, g)
fits_of code r L k (op.Constant to i) a s c g = (s, a, g)
fits_of code r L k (op.Move to from) a s c g = (two_left _ (to + 1) (from + 1) s, two_right _ (to + 1) (from + 1) s, g)
fits_of code r L k (op.NewCell cell from) a s c g = (omega arith, s, g)
fits_of code r L k (op.GetCell to cell) a s c g = (s, omega arith, g)
fits_of code r L k (op.SetCell cell from) a s c g = (omega arith, s, g)
fits_of code r L k (op.GetUp to u) a s c g = (s, a, g)
fits_of code r L k (op.SetUp u from) a s c g = (a, s, g)
fits_of code r L k (op.Close to h) a s c g = (s, a, g)
fits_of code r L k (op.CloseCell cell h) a s c g = (omega arith, a, g)
fits_of code r L k (op.Add to p q) a s c g = (two_left _ (to + 1) _ s, two_left _ (p + 1) (q + 1) (two_right _ (to + 1) _ s), two_right _ (p + 1) (q + 1) (two_right _ (to + 1) _ s), g)
fits_of code r L k (op.Sub to p q) a s c g = (two_left _ (to + 1) _ s, two_left _ (p + 1) (q + 1) (two_right _ (to + 1) _ s), two_right _ (p + 1) (q + 1) (two_right _ (to + 1) _ s), g)
fits_of code r L k (op.Mul to p q) a s c g = (two_left _ (to + 1) _ s, two_left _ (p + 1) (q + 1) (two_right _ (to + 1) _ s), two_right _ (p + 1) (q + 1) (two_right _ (to + 1) _ s), g)
fits_of code r L k (op.AddInt to p n) a s c g = (two_left _ (to + 1) (p + 1) s, two_right _ (to + 1) (p + 1) s, g)
fits_of code r L k (op.MulInt to p n) a s c g = (two_left _ (to + 1) (p + 1) s, two_right _ (to + 1) (p + 1) s, g)
fits_of code r L k (op.BinaryInt o to p n) a s c g = (two_left _ (to + 1) (p + 1) s, two_right _ (to + 1) (p + 1) s, g)
fits_of code r L k (op.Binary o to p q) a s c g = (two_left _ (to + 1) _ s, two_left _ (p + 1) (q + 1) (two_right _ (to + 1) _ s), two_right _ (p + 1) (q + 1) (two_right _ (to + 1) _ s), g)
fits_of code r L k (op.Unary o to p) a s c g = (two_left _ (to + 1) (p + 1) s, two_right _ (to + 1) (p + 1) s, g)
fits_of code r L k (op.Tick pay) a s c g = g
fits_of code r L k (op.Jump l) a s c g = a
fits_of code r L k (op.Loop pay l) a s c g = a
fits_of code r L k (op.Test p l) a s c g = (s, a, g)
fits_of code r L k (op.TestNot p l) a s c g = (s, a, g)
fits_of code r L k (op.UnlessLess p q pay l) a s c g = (two_left _ (p + 1) (q + 1) s, two_right _ (p + 1) (q + 1) s, a, g)
fits_of code r L k (op.UnlessLessEqual p q pay l) a s c g = (two_left _ (p + 1) (q + 1) s, two_right _ (p + 1) (q + 1) s, a, g)
fits_of code r L k (op.UnlessEqual p q pay l) a s c g = (two_left _ (p + 1) (q + 1) s, two_right _ (p + 1) (q + 1) s, a, g)
fits_of code r L k (op.UnlessNotEqual p q pay l) a s c g = (two_left _ (p + 1) (q + 1) s, two_right _ (p + 1) (q + 1) s, a, g)
fits_of code r L k (op.UnlessLessInt p n pay l) a s c g = (s, a, g)
fits_of code r L k (op.UnlessLessEqualInt p n pay l) a s c g = (s, a, g)
fits_of code r L k (op.UnlessGreaterInt p n pay l) a s c g = (s, a, g)
fits_of code r L k (op.UnlessGreaterEqualInt p n pay l) a s c g = (s, a, g)
fits_of code r L k (op.UnlessEqualInt p n pay l) a s c g = (s, a, g)
fits_of code r L k (op.UnlessNotEqualInt p n pay l) a s c g = (s, a, g)
fits_of code r L k (op.ForPrep pay base l) a s c g = (s, a, g)
fits_of code r L k (op.ForLoop pay base l) a s c g = (s, a, g)
fits_of code r L k (op.ForCall base results) a s c g = (omega arith, a, g)
fits_of code r L k (op.ForEach pay base l) a s c g = (s, a, g)
fits_of code r L k (op.Call base args results) a s c g = ((let x = two_left _ (base + 1 + args) (base + results) s in omega arith), two_right _ (base + 1 + args) (base + results) s, g)
fits_of code r L k (op.CallAll base args) a s c g = (omega arith, g)
fits_of code r L k (op.TailCall base args) a s c g = (omega arith, g)
fits_of code r L k (op.Return from count) a s c g = s
fits_of code r L k op.Begin a s c g = g
fits_of code r L k (op.Push from) a s c g = (s, g)
fits_of code r L k op.Append a s c g = g
fits_of code r L k op.Dots a s c g = g
fits_of code r L k (op.DotsTo to count) a s c g = (s, g)
fits_of code r L k (op.Spread to count) a s c g = (s, g)
fits_of code r L k (op.Item to i) a s c g = (s, g)
fits_of code r L k (op.CallList base) a s c g = g
fits_of code r L k (op.TailCallList base) a s c g = g
fits_of code r L k op.ReturnList a s c g = tt
fits_of code r L k op.Start a s c g = g

-- w as the final function r, number f, has it, and what r has room for
pub record Fin (code : Code) (f : ℕ) (r : Routine) (L : List ℕ) (n : ℕ) (w : Writer) : Type 0 where
  pub final : Final code f L n w
  pub slots : w.draft.shape.slots ≤ r.shape.slots
  pub cells : w.draft.shape.cells ≤ r.shape.cells
  pub at : w.at < length r.ops
  pub constants : (k : ℕ) (c : Constant) → slice_get w.draft.constants k ≡ Some c → k < length r.constants

pub fin_part : (code : Code) (f : ℕ) (r : Routine) (L : List ℕ) (n m p : ℕ) (w v : Writer) → Fin code f r L n v → Kept m w v → n ≤ p → m ≤ p → Fin code f r L p w
fin_part code f r L n m p w v fin k le le' =
    record {
      final = part code f L n m p w v fin.final k le le';
      slots = omega (arith, fin.slots, k.slots);
      cells = omega (arith, fin.cells, k.cells);
      at = omega (arith, fin.at, k.at);
      constants = λ i c e. fin.constants i c (k.constants i c e);
    }

pub fin_back : (code : Code) (f : ℕ) (r : Routine) (L : List ℕ) (n : ℕ) (w v : Writer) → Fin code f r L n v → K w v → Fin code f r L n w
fin_back code f r L n w v fin k = fin_part code f r L n 0 n w v fin k (omega arith) (omega arith)

pub fin_below : (code : Code) (f : ℕ) (r : Routine) (L : List ℕ) (n l m : ℕ) (q : Writer) → Fin code f r L n (placed_here l q) → l < m → n ≤ m → Fin code f r L m q
fin_below code f r L n l m q fin lt le = fin_part code f r L n m m q (placed_here l q) fin (kept_placed_below m l q q lt (kept_self m q)) le (omega arith)

-- all operations so far fit
pub record Fitting (code : Code) (r : Routine) (L : List ℕ) (w : Writer) : Type 0 where
  pub each : (k : ℕ) (o : Op) → slice_get w.draft.ops k ≡ Some o → Fits code r k (placed L o)

-- an operation of a list that grew at its end
pub at_end : (P : ℕ → Op → Type 0) (xs : List Op) (o : Op) (m : ℕ) → ((i : ℕ) (q : Op) → slice_get xs i ≡ Some q → P (m + i) q) → P (m + length xs) o
    → (k : ℕ) (p : Op) → slice_get (xs ++ o ∷ []) k ≡ Some p → P (m + k) p
at_end P [] o m before here zero p is = (let same : o ≡ p = cc in subst (λ q. P (m + 0) q) same here)
at_end P [] o m before here (suc k) p is = absurd (cc)
at_end P (x ∷ xs) o m before here zero p is = before 0 p is
at_end P (x ∷ xs) o m before here (suc k) p is =
    let e : m + 1 + k ≡ m + suc k = omega arith in
    let e' : m + length (x ∷ xs) ≡ m + 1 + length xs = omega arith in
    subst (λ i. P i p) e (at_end P xs o (m + 1) (λ i q h. (let s : m + suc i ≡ m + 1 + i = omega arith in subst (λ j. P j q) s (before (suc i) q h))) (subst (λ i. P i o) e' here) k p is)

pub zero_on : (P : ℕ → Type 0) (k : ℕ) → P k → P (0 + k)
zero_on P k h = (let e : k ≡ 0 + k = omega arith in subst P e h)

pub fit_emit : (code : Code) (f : ℕ) (r : Routine) (L : List ℕ) (n : ℕ) (o : Op) (line : ℕ) (w : Writer) → Level w → Fin code f r L n (emit o line w) → Asks code r L w.at o → Fitting code r L w → Fitting code r L (emit o line w)
fit_emit code f r L n o line w lv fin asks ok =
    let s : reach o ≤ r.shape.slots = (let x = le-max_right w.draft.shape.slots (reach o) in omega (arith, fin.slots)) in
    let c : cell_reach o ≤ r.shape.cells = (let x = le-max_right w.draft.shape.cells (cell_reach o) in omega (arith, fin.cells)) in
    let here : Fits code r w.at (placed L o) = fits_of code r L w.at o asks s c fin.at in
    let P = λ (k : ℕ) (p : Op). Fits code r k (placed L p) in
    record {
      each = λ k p is.
          let e : 0 + k ≡ k = omega arith in
          subst (λ i. P i p) e (at_end P w.draft.ops o 0 (λ i q h. zero_on (λ j. P j q) i (ok.each i q h)) (zero_on (λ j. P j o) (length w.draft.ops) (subst (λ i. P i o) lv.ops here)) k p is);
    }
