-- Operators, assignments, locals and ticks serve what they are written for.
use Rattle.std.proofs.Common.{◌≡◌, ℕ, zero, suc, ◌+◌, inl, inr, refl, sym, subst, List, [], ◌∷◌, ◌++◌, length, Option, Some, None, arith, Bool, true, false, append_assoc, length-append}
use Rattle.std.specs.Prelude.{slice_get, ◌&&◌, ltb, if◌then◌else◌, ℤ}
use Rattle.lua_tree.specs.Source.{Text}
use Rattle.lua_model.specs.declared.operator.Binary.{Binary}
use Rattle.lua_model.specs.declared.operator.Binary.TheVariants as binary
use Rattle.lua_model.specs.declared.operator.Unary.{Unary}
use Rattle.lua_model.specs.declared.operator.Unary.TheVariants as unary
use Rattle.lua_code.specs.declared.function.Capture.{Capture}
use Rattle.lua_code.specs.declared.function.Capture.TheVariants as capture
use Rattle.lua_code.specs.declared.op.Op.{Op}
use Rattle.lua_code.specs.declared.op.Op.TheVariants as op
use Rattle.lua_steps.specs.declared.scope.Place.{Place}
use Rattle.lua_steps.specs.declared.scope.Place.TheVariants.{InSlot, InCell, InUp, Hidden}
use Rattle.lua_steps.specs.declared.scope.Known.{Known}
use Rattle.lua_steps.specs.Machine.{Code}
use Rattle.lua_steps.specs.Scope.{Scope, place_of, in_slot, in_cell, past, Shares, Inside}
use Rattle.lua_steps.specs.Stand as stand
use Rattle.lua_steps.specs.Stand.{At, AtLine, AtSome, Ticks, Tick, IsNils, Shown, Reg, Imm, Not, Holds, Fails, IsOperand, WhereDecided, IsPut, IsDeclares, IsBinary, IsUnary, IsWanted, Write, Origin, FromSlot, FromItem, IsWrite, IsWrites, short_op, int_op, test_op}
use Rattle.lua_compile.specs.declared.aim.Aim.{Aim}
use Rattle.lua_compile.specs.declared.aim.Aim.TheVariants.{Into, Anywhere, Unless}
use Rattle.lua_compile.specs.declared.aim.Operand.{Operand}
use Rattle.lua_compile.specs.declared.aim.Operand.TheVariants.{Slot, Constant as Held}
use Rattle.lua_compile.specs.declared.aim.Want.{Want}
use Rattle.lua_compile.specs.declared.aim.Want.TheVariants as want
use Rattle.lua_compile.specs.Writer.{Writer, emit, put, counted, declare_all, all_known, flag, place, placed, captured, captures_of, up_from, after_up, seen_inside}
use Rattle.lua_compile.specs.Forms.{register, target_of, stored, from, stores_written, nils_written, shown_of, on_slot, some_written, or_else, binary_written, test_written, unary_slot, wanted_written, ticked, ticked_more, ticked_twice, paid_before}
use Rattle.lua_compile.proofs.Kept.{Level, kept_self, kept_emit}
use Rattle.lua_compile.proofs.KeptForms.{k_put, k_stored, k_from, k_stores, k_nils, k_declare_all}
use Rattle.lua_compile.proofs.Final.{Final, back, at_op, at_line, never_lost, Given}
use Rattle.lua_compile.proofs.ServesForms.{test_pays, put_in, stored_stands}

pub two : (a : ℕ) (R : ℕ → Type 0) → R (a + 1 + 1) → R (a + 2)
two a R r = (let e : a + 1 + 1 ≡ a + 2 = omega arith in subst R e r)

-- an operand of the writer's is one that an operator takes
pub is_operand : (p : Operand) → IsOperand (shown_of p)
is_operand (Slot r) = tt
is_operand (Held n) = tt

-- ---- calls
abbrev pub want_of : Want → stand.Want
want_of (want.Count n) = stand.Count n
want_of want.AsList = stand.AsList
want_of want.AsResult = stand.AsResult

-- what follows where the values are used
abbrev pub Follows : Want → (ℕ → Type 0) → ℕ → Type 0
Follows (want.Count n) R c = R c
Follows want.AsList R c = R c
Follows want.AsResult R c = Unit {0}

module _ (code : Code) (f : ℕ) (L : List ℕ) where
  -- ---- assignment
  write_one : (n : ℕ) (o : Origin) (x : Write) (sc : Scope) (w : Writer) (R : ℕ → Type 0) → Level w → Final code f L n (from o sc.free (place_of sc.names x.name) w)
      → R (from o sc.free (place_of sc.names x.name) w).at → IsWrite code f sc x o w.at R
  write_one n (FromSlot r) x sc w R lv fin h =
      let s = stored_stands code f L n r (place_of sc.names x.name) w lv fin in (s.0, subst R s.1 h)
  write_one n (FromItem i) x sc w R lv fin h =
      let d = sc.free in
      let o = place_of sc.names x.name in
      let u = put (op.Item d i) w in
      let s = stored_stands code f L n d o u ((kept_emit 0 (op.Item d i) 0 w).level lv) fin in
      (at_op code f L n (op.Item d i) 0 w lv (back code f L n u (stored o d u) fin (k_stored u u o d (kept_self 0 u))), s.0, two w.at R (subst R s.1 h))

  pub writes_serve : (n : ℕ) (xs : List Write) (sc : Scope) (w : Writer) (R : ℕ → Type 0) → Level w → Final code f L n (stores_written xs sc.free sc.names w) → R (stores_written xs sc.free sc.names w).at → IsWrites code f sc xs w.at R
  writes_serve n [] sc w R lv fin r = r
  writes_serve n (x ∷ xs) sc w R lv fin r =
      let v = from x.origin sc.free (place_of sc.names x.name) w in
      write_one n x.origin x sc w (λ b. IsWrites code f sc xs b R) lv
      (back code f L n v (stores_written xs sc.free sc.names v) fin (k_stores v v xs sc.free sc.names (kept_self 0 v)))
      (writes_serve n xs sc v R ((k_from w w x.origin sc.free (place_of sc.names x.name) (kept_self 0 w)).level lv) fin r)

  pub nils_serve : (n r m : ℕ) (w : Writer) (R : ℕ → Type 0) → Level w → Final code f L n (nils_written r m w) → R (nils_written r m w).at → IsNils code f r m w.at R
  nils_serve n r zero w R lv fin g = g
  nils_serve n r (suc m) w R lv fin g =
      let v = put (op.Nil r) w in (
        at_op code f L n (op.Nil r) 0 w lv (back code f L n v (nils_written (r + 1) m v) fin (k_nils v v (r + 1) m (kept_self 0 v))),
        nils_serve n (r + 1) m v R ((kept_emit 0 (op.Nil r) 0 w).level lv) fin g,
      )

  -- ---- operators
  slot_unary : (n x d : ℕ) (u : Unary) (aim : Aim) (line : ℕ) (w : Writer) (R : ℕ → Shown → Type 0) → Level w → Final code f L n (unary_slot u x d aim line w)
      → Given code f L aim (Slot (register aim d)) R (unary_slot u x d aim line w).at → IsUnary code f w.at u (target_of aim) d (Reg x) line R
  slot_unary n x d unary.Not (Into r) line w R lv fin g = inl (at_line code f L n (op.Unary unary.Not r x) line w lv fin, g)
  slot_unary n x d unary.Not (Anywhere room) line w R lv fin g = inl (at_line code f L n (op.Unary unary.Not d x) line w lv fin, g)
  slot_unary n x d unary.Not (Unless l pay) line w R lv fin g = (let t = test_pays code f L n pay (op.TestNot x l) w lv fin in inr (g.test_not w.at x t.1 t.0))
  slot_unary n x d unary.Minus (Into r) line w R lv fin g = (at_line code f L n (op.Unary unary.Minus r x) line w lv fin, g)
  slot_unary n x d unary.Minus (Anywhere room) line w R lv fin g = (at_line code f L n (op.Unary unary.Minus d x) line w lv fin, g)
  slot_unary n x d unary.Minus (Unless l pay) line w R lv fin g = put_in code f L n d (Unless l pay) (op.Unary unary.Minus d x) line w R lv fin g
  slot_unary n x d unary.BitNot (Into r) line w R lv fin g = (at_line code f L n (op.Unary unary.BitNot r x) line w lv fin, g)
  slot_unary n x d unary.BitNot (Anywhere room) line w R lv fin g = (at_line code f L n (op.Unary unary.BitNot d x) line w lv fin, g)
  slot_unary n x d unary.BitNot (Unless l pay) line w R lv fin g = put_in code f L n d (Unless l pay) (op.Unary unary.BitNot d x) line w R lv fin g
  slot_unary n x d unary.Length (Into r) line w R lv fin g = (at_line code f L n (op.Unary unary.Length r x) line w lv fin, g)
  slot_unary n x d unary.Length (Anywhere room) line w R lv fin g = (at_line code f L n (op.Unary unary.Length d x) line w lv fin, g)
  slot_unary n x d unary.Length (Unless l pay) line w R lv fin g = put_in code f L n d (Unless l pay) (op.Unary unary.Length d x) line w R lv fin g

  pub unary_serves : (n d : ℕ) (u : Unary) (p : Operand) (aim : Aim) (line : ℕ) (w : Writer) (R : ℕ → Shown → Type 0) → Level w → Final code f L n (on_slot p w (λ x. unary_slot u x d aim line w))
      → Given code f L aim (Slot (register aim d)) R (on_slot p w (λ x. unary_slot u x d aim line w)).at → IsUnary code f w.at u (target_of aim) d (shown_of p) line R
  unary_serves n d u (Slot x) aim line w R lv fin g = slot_unary n x d u aim line w R lv fin g
  unary_serves n d u (Held i) aim line w R lv fin g = absurd (never_lost code f L n w fin)

  -- an operation that is there, or something was lost
  some_stands : (n : ℕ) (o : Option Op) (line : ℕ) (w : Writer) → Level w → Final code f L n (some_written o line w)
      → (p : Op) × (o ≡ Some p) × AtLine code f w.at (placed L p) line × ((some_written o line w).at ≡ w.at + 1)
  some_stands n None line w lv fin = absurd (never_lost code f L n w fin)
  some_stands n (Some p) line w lv fin = (p, refl, at_line code f L n p line w lv fin, refl)

  short_stands : (n : ℕ) (o : Binary) (r x y line : ℕ) (w : Writer) → Level w → Final code f L n (emit (or_else (short_op o r x y) (op.Binary o r x y)) line w)
      → IsBinary code f w.at o r (Reg x) (Reg y) line
  short_stands n binary.Add r x y line w lv fin = inr (at_line code f L n (op.Add r x y) line w lv fin)
  short_stands n binary.Sub r x y line w lv fin = inr (at_line code f L n (op.Sub r x y) line w lv fin)
  short_stands n binary.Mul r x y line w lv fin = inr (at_line code f L n (op.Mul r x y) line w lv fin)
  short_stands n o r x y line w lv fin = inl (at_line code f L n (op.Binary o r x y) line w lv fin)

  two_stands : (n : ℕ) (b : Bool) (o : Binary) (r x y line : ℕ) (w : Writer) → Level w
      → Final code f L n (if b then emit (or_else (short_op o r x y) (op.Binary o r x y)) line w else emit (op.Binary o r x y) line w)
      → IsBinary code f w.at o r (Reg x) (Reg y) line × ((if b then emit (or_else (short_op o r x y) (op.Binary o r x y)) line w else emit (op.Binary o r x y) line w).at ≡ w.at + 1)
  two_stands n true o r x y line w lv fin = (short_stands n o r x y line w lv fin, refl)
  two_stands n false o r x y line w lv fin = (inl (at_line code f L n (op.Binary o r x y) line w lv fin), refl)

  int_there : (n : ℕ) (o : Binary) (r x : ℕ) (m : ℤ) (line : ℕ) (w : Writer) → Level w → Final code f L n (emit (int_op o r x m) line w) → AtLine code f w.at (int_op o r x m) line
  int_there n binary.Add r x m line w lv fin = at_line code f L n _ line w lv fin
  int_there n binary.Sub r x m line w lv fin = at_line code f L n _ line w lv fin
  int_there n binary.Mul r x m line w lv fin = at_line code f L n _ line w lv fin
  int_there n o r x m line w lv fin = at_line code f L n _ line w lv fin

  pub binary_stands : (n : ℕ) (o : Binary) (r : ℕ) (p q : Operand) (line : ℕ) (w : Writer) → Level w → Final code f L n (binary_written o r p q line w)
      → IsBinary code f w.at o r (shown_of p) (shown_of q) line × ((binary_written o r p q line w).at ≡ w.at + 1)
  binary_stands n o r (Slot x) (Slot y) line w lv fin = two_stands n (ltb r 256 && ltb x 256 && ltb y 256) o r x y line w lv fin
  binary_stands n o r (Slot x) (Held m) line w lv fin = (int_there n o r x m line w lv fin, refl)
  binary_stands n o r (Held m) q line w lv fin = absurd (never_lost code f L n w fin)

  test_there : (n : ℕ) (o : Binary) (p q : Operand) (pay l line : ℕ) (w : Writer) → Level w → Final code f L n (some_written (test_op o (shown_of p) (shown_of q) pay l) line w)
      → AtSome code f w.at (test_op o (shown_of p) (shown_of q) pay (place L l)) line
  test_there n binary.Less (Slot x) (Slot y) pay l line w lv fin = at_line code f L n _ line w lv fin
  test_there n binary.Less (Slot x) (Held m) pay l line w lv fin = at_line code f L n _ line w lv fin
  test_there n binary.Less (Held m) (Slot y) pay l line w lv fin = at_line code f L n _ line w lv fin
  test_there n binary.Less (Held m) (Held i) pay l line w lv fin = never_lost code f L n w fin
  test_there n binary.LessEqual (Slot x) (Slot y) pay l line w lv fin = at_line code f L n _ line w lv fin
  test_there n binary.LessEqual (Slot x) (Held m) pay l line w lv fin = at_line code f L n _ line w lv fin
  test_there n binary.LessEqual (Held m) (Slot y) pay l line w lv fin = at_line code f L n _ line w lv fin
  test_there n binary.LessEqual (Held m) (Held i) pay l line w lv fin = never_lost code f L n w fin
  test_there n binary.Greater (Slot x) (Slot y) pay l line w lv fin = at_line code f L n _ line w lv fin
  test_there n binary.Greater (Slot x) (Held m) pay l line w lv fin = at_line code f L n _ line w lv fin
  test_there n binary.Greater (Held m) (Slot y) pay l line w lv fin = at_line code f L n _ line w lv fin
  test_there n binary.Greater (Held m) (Held i) pay l line w lv fin = never_lost code f L n w fin
  test_there n binary.GreaterEqual (Slot x) (Slot y) pay l line w lv fin = at_line code f L n _ line w lv fin
  test_there n binary.GreaterEqual (Slot x) (Held m) pay l line w lv fin = at_line code f L n _ line w lv fin
  test_there n binary.GreaterEqual (Held m) (Slot y) pay l line w lv fin = at_line code f L n _ line w lv fin
  test_there n binary.GreaterEqual (Held m) (Held i) pay l line w lv fin = never_lost code f L n w fin
  test_there n binary.Equal (Slot x) (Slot y) pay l line w lv fin = at_line code f L n _ line w lv fin
  test_there n binary.Equal (Slot x) (Held m) pay l line w lv fin = at_line code f L n _ line w lv fin
  test_there n binary.Equal (Held m) (Slot y) pay l line w lv fin = at_line code f L n _ line w lv fin
  test_there n binary.Equal (Held m) (Held i) pay l line w lv fin = never_lost code f L n w fin
  test_there n binary.NotEqual (Slot x) (Slot y) pay l line w lv fin = at_line code f L n _ line w lv fin
  test_there n binary.NotEqual (Slot x) (Held m) pay l line w lv fin = at_line code f L n _ line w lv fin
  test_there n binary.NotEqual (Held m) (Slot y) pay l line w lv fin = at_line code f L n _ line w lv fin
  test_there n binary.NotEqual (Held m) (Held i) pay l line w lv fin = never_lost code f L n w fin
  test_there n o p q pay l line w lv fin = never_lost code f L n w fin

  pub test_stands : (n : ℕ) (o : Binary) (p q : Operand) (pay l line : ℕ) (w : Writer) → Level w → Final code f L n (test_written o p q (Unless l pay) line w)
      → AtSome code f w.at (test_op o (shown_of p) (shown_of q) pay (place L l)) line × ((test_written o p q (Unless l pay) line w).at ≡ w.at + 1)
  test_stands n o p q pay l line w lv fin =
      (test_there n o p q pay l line w lv fin, (some_stands n (test_op o (shown_of p) (shown_of q) pay l) line w lv fin).3)

  -- ---- locals
  declares_at : (n : ℕ) (b : Bool) (x : Text) (xs : List Text) (sc : Scope) (w : Writer) (R : Scope → ℕ → Type 0) → Level w
      → Final code f L n (declare_all xs (if b then past 1 (in_cell x sc) else in_slot x sc) (counted (if b then put (op.NewCell sc.cells sc.free) w else w)))
      → R (all_known xs (if b then past 1 (in_cell x sc) else in_slot x sc) w.flags (w.locals + 1)) (declare_all xs (if b then past 1 (in_cell x sc) else in_slot x sc) (counted (if b then put (op.NewCell sc.cells sc.free) w else w))).at
      → ((sc' : Scope) (v : Writer) → Level v → Final code f L n (declare_all xs sc' v) → R (all_known xs sc' v.flags v.locals) (declare_all xs sc' v).at → IsDeclares code f sc' xs v.at R)
      → IsDeclares code f sc (x ∷ xs) w.at R
  declares_at n true x xs sc w R lv fin r rec =
      let o = op.NewCell sc.cells sc.free in
      let v = counted (put o w) in
      let l = (kept_emit 0 o 0 w).level lv in
      let up = k_declare_all v v xs (past 1 (in_cell x sc)) (kept_self 0 v) in
      let whole = back code f L n v _ fin up in
      inr (
        at_op code f L n o 0 w lv (record { ops = whole.ops; lines = whole.lines; constants = whole.constants; made = whole.made; labels = whole.labels; found = whole.found }),
        rec (past 1 (in_cell x sc)) v (record { ops = l.ops; lines = l.lines }) fin r,
      )
  declares_at n false x xs sc w R lv fin r rec = inl (rec (in_slot x sc) (counted w) (record { ops = lv.ops; lines = lv.lines }) fin r)

  pub declares_serve : (n : ℕ) (xs : List Text) (sc : Scope) (w : Writer) (R : Scope → ℕ → Type 0) → Level w → Final code f L n (declare_all xs sc w)
      → R (all_known xs sc w.flags w.locals) (declare_all xs sc w).at → IsDeclares code f sc xs w.at R
  declares_serve n [] sc w R lv fin r = r
  declares_serve n (x ∷ xs) sc w R lv fin r = declares_at n (flag w.flags w.locals) x xs sc w R lv fin r (λ sc' v. declares_serve n xs sc' v R)

  -- ---- ticks
  pub tick_serves : (n k : ℕ) (w : Writer) (R : ℕ → Type 0) → Level w → Final code f L n (ticked k w) → R (ticked k w).at → Tick code f k w.at R
  tick_serves n zero w R lv fin r = inl (0, at_op code f L n (op.Tick 1) 0 w lv fin, (refl, r))
  tick_serves n (suc zero) w R lv fin r = (refl, r)
  tick_serves n (suc (suc k)) w R lv fin r = absurd (never_lost code f L n w fin)

  pub ticks_serve : (n k m : ℕ) (w : Writer) (R : ℕ → ℕ → Type 0) → Level w → Final code f L n (ticked_more k m w) → R (paid_before k m) (ticked_more k m w).at → Ticks code f k w.at R
  ticks_serve n zero m w R lv fin r = inl (m, at_op code f L n (op.Tick (suc m)) 0 w lv fin, r)
  ticks_serve n (suc k) m w R lv fin r = r

  pub twice_serves : (n k m : ℕ) (w : Writer) (R : ℕ → ℕ → Type 0) → Level w → Final code f L n (ticked_twice k m w) → R m (ticked_twice k m w).at
      → Ticks code f k w.at (λ i b. Ticks code f i b R)
  twice_serves n zero m w R lv fin r = inl (suc m, at_op code f L n (op.Tick (suc (suc m))) 0 w lv fin, r)
  twice_serves n (suc zero) m w R lv fin r = inl (m, at_op code f L n (op.Tick (suc m)) 0 w lv fin, r)
  twice_serves n (suc (suc k)) m w R lv fin r = absurd (never_lost code f L n w fin)

  -- ---- calls
  pub wanted_serves : (n d : ℕ) (a : Want) (w : Writer) (R : ℕ → Type 0) → Level w → Final code f L n (wanted_written a d w) → Follows a R (wanted_written a d w).at → IsWanted code f w.at d (want_of a) R
  wanted_serves n d (want.Count zero) w R lv fin r = r
  wanted_serves n d (want.Count (suc m)) w R lv fin r = nils_serve n (d + 1) m w R lv fin r
  wanted_serves n d want.AsList w R lv fin r =
      let v = put op.Begin w in (
        at_op code f L n op.Begin 0 w lv (back code f L n v (put (op.Push d) v) fin (k_put v v (op.Push d) (kept_self 0 v))),
        at_op code f L n (op.Push d) 0 v ((kept_emit 0 op.Begin 0 w).level lv) fin,
        two w.at R r,
      )
  wanted_serves n d want.AsResult w R lv fin r = at_op code f L n (op.Return d 1) 0 w lv fin

-- ---- what a function sees of the names outside
get_next : {A : Type 0} (xs : List A) (x : A) (ys : List A) → slice_get (xs ++ x ∷ ys) (length xs) ≡ Some x
get_next [] x ys = refl
get_next (y ∷ xs) x ys = get_next xs x ys

seen_at : (p : Place) (pre rest : List Capture) (i : ℕ) → i ≡ length pre → Shares (pre ++ captured p rest) p (up_from p i)
seen_at (InSlot s) pre rest i e = tt
seen_at (InCell c) pre rest i e = subst (λ j. slice_get (pre ++ capture.Cell c ∷ rest) j ≡ Some (capture.Cell c)) (sym e) (get_next pre (capture.Cell c) rest)
seen_at (InUp u) pre rest i e = subst (λ j. slice_get (pre ++ capture.Up u ∷ rest) j ≡ Some (capture.Up u)) (sym e) (get_next pre (capture.Up u) rest)
seen_at Hidden pre rest i e = tt

-- what comes before the captures of the other names
abbrev before : Place → List Capture → List Capture
before (InCell c) pre = pre ++ capture.Cell c ∷ []
before (InUp u) pre = pre ++ capture.Up u ∷ []
before _ pre = pre

before_all : (p : Place) (pre rest : List Capture) → before p pre ++ rest ≡ pre ++ captured p rest
before_all (InSlot s) pre rest = refl
before_all (InCell c) pre rest = append_assoc pre (capture.Cell c ∷ []) rest
before_all (InUp u) pre rest = append_assoc pre (capture.Up u ∷ []) rest
before_all Hidden pre rest = refl

before_long : (p : Place) (pre : List Capture) (i : ℕ) → i ≡ length pre → after_up p i ≡ length (before p pre)
before_long (InSlot s) pre i e = e
before_long (InCell c) pre i e = omega (arith, e, length-append pre (capture.Cell c ∷ []))
before_long (InUp u) pre i e = omega (arith, e, length-append pre (capture.Up u ∷ []))
before_long Hidden pre i e = e

inside_from : (ns : List Known) (pre : List Capture) (i : ℕ) → i ≡ length pre → Inside (pre ++ captures_of ns) ns (seen_inside i ns)
inside_from [] pre i e = tt
inside_from (n ∷ ns) pre i e = (
  refl,
  seen_at n.place pre (captures_of ns) i e,
  subst (λ cs. Inside cs ns (seen_inside (after_up n.place i) ns)) (before_all n.place pre (captures_of ns)) (inside_from ns (before n.place pre) (after_up n.place i) (before_long n.place pre i e)),
)

pub inside_all : (ns : List Known) → Inside (captures_of ns) ns (seen_inside 0 ns)
inside_all ns = inside_from ns [] 0 refl
