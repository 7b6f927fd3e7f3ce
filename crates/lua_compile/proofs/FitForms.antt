-- The forms of code fit the function that they end up in.
use Rattle.std.proofs.Common.{◌≡◌, ℕ, zero, suc, ◌+◌, ◌<◌, ◌≤◌, refl, subst, List, [], ◌∷◌, length, Option, Some, None, arith, Bool, true, false, All}
use Rattle.std.specs.Prelude.{slice_get, if◌then◌else◌, ℤ, get_or}
use Rattle.std.proofs.Math.Nat.{le-max_right}
use Rattle.lua_tree.specs.Source.{Text, Suffixes, NoSuffix, MoreSuffixes, Operands, NoOperand, MoreOperands, Branches, NoElse, Else, Elseif}
use Rattle.lua_model.specs.declared.operator.Binary.{Binary}
use Rattle.lua_model.specs.declared.operator.Binary.TheVariants as binary
use Rattle.lua_model.specs.declared.operator.Unary.{Unary}
use Rattle.lua_model.specs.declared.operator.Unary.TheVariants as unary
use Rattle.lua_code.specs.declared.function.Capture.{Capture}
use Rattle.lua_code.specs.declared.function.Capture.TheVariants as capture
use Rattle.lua_code.specs.declared.function.Constant.TheVariants as constant
use Rattle.lua_code.specs.declared.op.Op.{Op}
use Rattle.lua_code.specs.declared.op.Op.TheVariants as op
use Rattle.lua_code.specs.Routine.{Routine}
use Rattle.lua_code.specs.Valid.{Forward, CaptureFits, IsValidFunction}
use Rattle.lua_steps.specs.declared.scope.Place.{Place}
use Rattle.lua_steps.specs.declared.scope.Place.TheVariants.{InSlot, InCell, InUp, Hidden}
use Rattle.lua_steps.specs.declared.scope.Known.{Known}
use Rattle.lua_steps.specs.Machine.{Code}
use Rattle.lua_steps.specs.Scope.{Scope, place_of, in_slot, in_cell, past}
use Rattle.lua_steps.specs.Stand.{Write, Origin, FromSlot, FromItem, short_op, int_op, test_op}
use Rattle.lua_compile.specs.declared.aim.Aim.{Aim}
use Rattle.lua_compile.specs.declared.aim.Aim.TheVariants.{Into, Anywhere, Unless}
use Rattle.lua_compile.specs.declared.aim.Operand.{Operand}
use Rattle.lua_compile.specs.declared.aim.Operand.TheVariants.{Slot, Constant as Held}
use Rattle.lua_compile.specs.declared.aim.Want.{Want}
use Rattle.lua_compile.specs.declared.aim.Want.TheVariants as want
use Rattle.lua_compile.specs.Writer.{Writer, emit, put, with_constant, lost_if, counted, declare_all, all_known, flag, place, captured, captures_of, up_from, after_up, seen_inside}
use Rattle.lua_compile.specs.Forms.{register, paid_here, settled, int_written, int_aimed, has_room, true_written, slot_written, name_written, stored, from, stores_written, nils_written, on_slot, some_written, or_else, shown_of, differ, binary_written, test_written, unary_slot, last_settled, called, called_list, wanted_written, where_none, ticked, ticked_more, ticked_twice, jumped, where_else}
use Rattle.lua_compile.proofs.Kept.{Level, kept_self, kept_emit, get_end}
use Rattle.lua_compile.proofs.KeptForms.{k_put, k_paid, k_settled, k_nils, k_stored, k_from, k_stores, k_declare_all}
use Rattle.lua_compile.proofs.Fit.{Asks, Fin, fin_back, Fitting, fit_emit}

-- what is written fits, and the functions that are done are valid
pub record Good (code : Code) (r : Routine) (L : List ℕ) (w : Writer) : Type 0 where
  pub fit : Fitting code r L w
  pub made : (k : ℕ) (h : Routine) → slice_get w.made k ≡ Some h → IsValidFunction code h

-- the place of a label is not before c
abbrev pub Ahead : Routine → List ℕ → ℕ → ℕ → Type 0
Ahead r L l c = (c ≤ place L l) × (place L l < length r.ops)

abbrev pub Aimed : Routine → List ℕ → Aim → ℕ → Type 0
Aimed r L (Unless l pay) c = Ahead r L l c
Aimed r L _ c = Unit {0}

abbrev pub Leaves : Routine → List ℕ → Option ℕ → ℕ → Type 0
Leaves r L None c = Unit {0}
Leaves r L (Some l) c = Ahead r L l c

-- ---- names
abbrev pub PlaceFits : ℕ → ℕ → Place → Type 0
PlaceFits cells ups (InSlot s) = Unit {0}
PlaceFits cells ups (InCell c) = c < cells
PlaceFits cells ups (InUp u) = u < ups
PlaceFits cells ups Hidden = Unit {0}

abbrev pub NamesFit : ℕ → ℕ → List Known → Type 0
NamesFit cells ups [] = Unit {0}
NamesFit cells ups (n ∷ ns) = PlaceFits cells ups n.place × NamesFit cells ups ns

-- the places that a function's names have
abbrev pub Sees : Routine → List Known → Type 0
Sees r ns = NamesFit r.shape.cells (length r.captures) ns

abbrev pub MayFit : ℕ → ℕ → Option Place → Type 0
MayFit cells ups None = Unit {0}
MayFit cells ups (Some p) = PlaceFits cells ups p

may_if : (cells ups : ℕ) (b : Bool) (p : Place) (o : Option Place) → PlaceFits cells ups p → MayFit cells ups o → MayFit cells ups (if b then Some p else o)
may_if cells ups true p o h k = h
may_if cells ups false p o h k = k

pub place_fits : (cells ups : ℕ) (ns : List Known) (x : Text) → NamesFit cells ups ns → MayFit cells ups (place_of ns x)
place_fits cells ups [] x h = tt
place_fits cells ups (n ∷ ns) x h = may_if cells ups _ n.place (place_of ns x) h.0 (place_fits cells ups ns x h.1)

all_one_more : (P : Capture → Type 0) (x : Capture) (xs : List Capture) → P x → All P xs → All P (x ∷ xs)
all_one_more P x xs h a = λ k d lt. by_place k d lt
  where
    by_place : (k : ℕ) (d : Capture) → k < length (x ∷ xs) → P (get_or (x ∷ xs) k d)
    by_place zero d lt = h
    by_place (suc k) d lt = a k d (omega arith)

capture_fits : (r : Routine) (p : Place) (rest : List Capture) → PlaceFits r.shape.cells (length r.captures) p → All (CaptureFits r) rest → All (CaptureFits r) (captured p rest)
capture_fits r (InSlot s) rest h a = a
capture_fits r (InCell c) rest h a = all_one_more (CaptureFits r) (capture.Cell c) rest h a
capture_fits r (InUp u) rest h a = all_one_more (CaptureFits r) (capture.Up u) rest h a
capture_fits r Hidden rest h a = a

pub captures_fit : (r : Routine) (ns : List Known) → Sees r ns → All (CaptureFits r) (captures_of ns)
captures_fit r [] h = λ k d lt. absurd (omega arith)
captures_fit r (n ∷ ns) h = capture_fits r n.place (captures_of ns) h.0 (captures_fit r ns h.1)

seen_place : (cells m : ℕ) (p : Place) (rest : List Capture) (i : ℕ) → i + length (captured p rest) ≤ m → PlaceFits cells m (up_from p i) × (after_up p i + length rest ≤ m)
seen_place cells m (InSlot s) rest i h = (tt, h)
seen_place cells m (InCell c) rest i h = (omega arith, omega arith)
seen_place cells m (InUp u) rest i h = (omega arith, omega arith)
seen_place cells m Hidden rest i h = (tt, h)

pub seen_fits : (cells m : ℕ) (ns : List Known) (i : ℕ) → i + length (captures_of ns) ≤ m → NamesFit cells m (seen_inside i ns)
seen_fits cells m [] i h = tt
seen_fits cells m (n ∷ ns) i h =
    let s = seen_place cells m n.place (captures_of ns) i h in (s.0, seen_fits cells m ns (after_up n.place i) s.1)

module _ (code : Code) (f : ℕ) (r : Routine) (L : List ℕ) where
  abbrev F : ℕ → Writer → Type 0
  F n w = Fin code f r L n w

  abbrev G : Writer → Type 0
  G w = Good code r L w

  pub g_emit : (n : ℕ) (o : Op) (line : ℕ) (w : Writer) → Level w → F n (emit o line w) → Asks code r L w.at o → G w → G (emit o line w)
  g_emit n o line w lv fin asks g = record { fit = fit_emit code f r L n o line w lv fin asks g.fit; made = g.made }

  -- what changes no operation and no function
  pub g_same : (w v : Writer) → v.draft.ops ≡ w.draft.ops → v.made ≡ w.made → G w → G v
  g_same w v e m g =
      record {
        fit = record { each = λ k o is. g.fit.each k o (subst (λ (xs : List Op). slice_get xs k ≡ Some o) e is) };
        made = λ k h is. g.made k h (subst (λ (xs : List Routine). slice_get xs k ≡ Some h) m is);
      }

  g_paid : (n pay : ℕ) (w : Writer) → Level w → F n (paid_here pay w) → G w → G (paid_here pay w)
  g_paid n zero w lv fin g = g
  g_paid n (suc k) w lv fin g = g_emit n (op.Tick (suc k)) 0 w lv fin tt g

  -- a test whose label is ahead, and the ticks after it
  g_tested : (n pay l : ℕ) (o : Op) (w : Writer) → Level w → F n (paid_here pay (put o w)) → Ahead r L l (paid_here pay (put o w)).at → (Forward r w.at (place L l) → Asks code r L w.at o) → G w → G (paid_here pay (put o w))
  g_tested n pay l o w lv fin a asks g =
      let v = put o w in
      let k = k_paid v v pay (kept_self 0 v) in
      g_paid n pay v ((kept_emit 0 o 0 w).level lv) fin (g_emit n o 0 w lv (fin_back code f r L n v (paid_here pay v) fin k) (asks (omega (arith, a.0, k.at), a.1)) g)

  pub g_settled : (n : ℕ) (aim : Aim) (s : ℕ) (v : Writer) → Level v → F n (settled aim s v) → Aimed r L aim (settled aim s v).at → G v → G (settled aim s v)
  g_settled n (Into d) s v lv fin a g = g
  g_settled n (Anywhere room) s v lv fin a g = g
  g_settled n (Unless l pay) s v lv fin a g = g_tested n pay l (op.Test s l) v lv fin a (λ h. h) g

  pub g_int : (n s : ℕ) (m : ℤ) (b : Bool) (w : Writer) → Level w → F n (if b then put (op.Int s m) w else put (op.Constant s (length w.draft.constants)) (with_constant (constant.Int m) w)) → G w
      → G (if b then put (op.Int s m) w else put (op.Constant s (length w.draft.constants)) (with_constant (constant.Int m) w))
  g_int n s m true w lv fin g = g_emit n (op.Int s m) 0 w lv fin tt g
  g_int n s m false w lv fin g =
      let v = with_constant (constant.Int m) w in
      g_emit n (op.Constant s (length w.draft.constants)) 0 v (record { ops = lv.ops; lines = lv.lines }) fin (fin.constants (length w.draft.constants) (constant.Int m) (get_end w.draft.constants (constant.Int m))) (g_same w v refl refl g)

  g_room : (n d : ℕ) (m : ℤ) (b : Bool) (w : Writer) → Level w → F n (if b then w else int_written d m w) → G w → G (if b then w else int_written d m w)
  g_room n d m true w lv fin g = g
  g_room n d m false w lv fin g = g_int n d m _ w lv fin g

  pub g_aimed : (n : ℕ) (m : ℤ) (d : ℕ) (aim : Aim) (w : Writer) → Level w → F n (int_aimed m d aim w) → G w → G (int_aimed m d aim w)
  g_aimed n m d (Into s) w lv fin g = g_int n s m _ w lv fin g
  g_aimed n m d (Anywhere room) w lv fin g = g_room n d m (has_room room m) w lv fin g
  g_aimed n m d (Unless l pay) w lv fin g = g_paid n pay w lv fin g

  pub g_true : (n d : ℕ) (aim : Aim) (w : Writer) → Level w → F n (true_written d aim w) → G w → G (true_written d aim w)
  g_true n d (Into s) w lv fin g = g_emit n (op.Bool s true) 0 w lv fin tt g
  g_true n d (Anywhere room) w lv fin g = g_emit n (op.Bool d true) 0 w lv fin tt g
  g_true n d (Unless l pay) w lv fin g = g_paid n pay w lv fin g

  g_slot : (n s d : ℕ) (aim : Aim) (w : Writer) → Level w → F n (slot_written s d aim w) → Aimed r L aim (slot_written s d aim w).at → G w → G (slot_written s d aim w)
  g_slot n s d (Into t) w lv fin a g = g_emit n (op.Move t s) 0 w lv fin tt g
  g_slot n s d (Anywhere room) w lv fin a g = g
  g_slot n s d (Unless l pay) w lv fin a g = g_tested n pay l (op.Test s l) w lv fin a (λ h. h) g

  -- an operation that asks nothing more, and what its aim asks
  pub g_put_in : (n d : ℕ) (aim : Aim) (o : Op) (line : ℕ) (w : Writer) → Level w → F n (settled aim (register aim d) (emit o line w)) → Aimed r L aim (settled aim (register aim d) (emit o line w)).at → Asks code r L w.at o → G w
      → G (settled aim (register aim d) (emit o line w))
  g_put_in n d aim o line w lv fin a asks g =
      let v = emit o line w in
      g_settled n aim (register aim d) v ((kept_emit 0 o line w).level lv) fin a (g_emit n o line w lv (fin_back code f r L n v (settled aim (register aim d) v) fin (k_settled v v aim (register aim d) (kept_self 0 v))) asks g)

  pub g_name : (n : ℕ) (o : Option Place) (d : ℕ) (aim : Aim) (w : Writer) → Level w → F n (name_written o d aim w) → Aimed r L aim (name_written o d aim w).at → MayFit r.shape.cells (length r.captures) o → G w → G (name_written o d aim w)
  g_name n (Some (InSlot s)) d aim w lv fin a m g = g_slot n s d aim w lv fin a g
  g_name n (Some (InCell c)) d aim w lv fin a m g = g_put_in n d aim (op.GetCell (register aim d) c) 0 w lv fin a tt g
  g_name n (Some (InUp u)) d aim w lv fin a m g = g_put_in n d aim (op.GetUp (register aim d) u) 0 w lv fin a m g
  g_name n (Some Hidden) d aim w lv fin a m g = g_same w (lost_if true w) refl refl g
  g_name n None d aim w lv fin a m g = g_same w (lost_if true w) refl refl g

  g_stored : (n s : ℕ) (o : Option Place) (w : Writer) → Level w → F n (stored o s w) → MayFit r.shape.cells (length r.captures) o → G w → G (stored o s w)
  g_stored n s (Some (InSlot t)) w lv fin m g = g_emit n (op.Move t s) 0 w lv fin tt g
  g_stored n s (Some (InCell c)) w lv fin m g = g_emit n (op.SetCell c s) 0 w lv fin tt g
  g_stored n s (Some (InUp u)) w lv fin m g = g_emit n (op.SetUp u s) 0 w lv fin m g
  g_stored n s (Some Hidden) w lv fin m g = g_same w (lost_if true w) refl refl g
  g_stored n s None w lv fin m g = g_same w (lost_if true w) refl refl g

  g_from : (n : ℕ) (x : Origin) (d : ℕ) (o : Option Place) (w : Writer) → Level w → F n (from x d o w) → MayFit r.shape.cells (length r.captures) o → G w → G (from x d o w)
  g_from n (FromSlot s) d o w lv fin m g = g_stored n s o w lv fin m g
  g_from n (FromItem i) d o w lv fin m g =
      let u = put (op.Item d i) w in
      g_stored n d o u ((kept_emit 0 (op.Item d i) 0 w).level lv) fin m
      (g_emit n (op.Item d i) 0 w lv (fin_back code f r L n u (stored o d u) fin (k_stored u u o d (kept_self 0 u))) tt g)

  pub g_stores : (n : ℕ) (xs : List Write) (d : ℕ) (names : List Known) (w : Writer) → Level w → F n (stores_written xs d names w) → Sees r names → G w → G (stores_written xs d names w)
  g_stores n [] d names w lv fin s g = g
  g_stores n (x ∷ xs) d names w lv fin s g =
      let o = place_of names x.name in
      let v = from x.origin d o w in
      g_stores n xs d names v ((k_from w w x.origin d o (kept_self 0 w)).level lv) fin s
      (g_from n x.origin d o w lv (fin_back code f r L n v (stores_written xs d names v) fin (k_stores v v xs d names (kept_self 0 v))) (place_fits r.shape.cells (length r.captures) names x.name s) g)

  pub g_nils : (n s m : ℕ) (w : Writer) → Level w → F n (nils_written s m w) → G w → G (nils_written s m w)
  g_nils n s zero w lv fin g = g
  g_nils n s (suc m) w lv fin g =
      let v = put (op.Nil s) w in
      g_nils n (s + 1) m v ((kept_emit 0 (op.Nil s) 0 w).level lv) fin (g_emit n (op.Nil s) 0 w lv (fin_back code f r L n v (nils_written (s + 1) m v) fin (k_nils v v (s + 1) m (kept_self 0 v))) tt g)

  pub g_on : (n : ℕ) (p : Operand) (w : Writer) (go : ℕ → Writer) → F n (on_slot p w go) → ((x : ℕ) → F n (go x) → G (go x)) → G w → G (on_slot p w go)
  g_on n (Slot x) w go fin h g = h x fin
  g_on n (Held i) w go fin h g = g_same w (lost_if true w) refl refl g

  short_asks : (o : Binary) (s x y k : ℕ) → Asks code r L k (or_else (short_op o s x y) (op.Binary o s x y))
  short_asks binary.Add s x y k = tt
  short_asks binary.Sub s x y k = tt
  short_asks binary.Mul s x y k = tt
  short_asks o s x y k = tt

  g_two : (n : ℕ) (b : Bool) (o : Binary) (s x y line : ℕ) (w : Writer) → Level w → F n (if b then emit (or_else (short_op o s x y) (op.Binary o s x y)) line w else emit (op.Binary o s x y) line w) → G w
      → G (if b then emit (or_else (short_op o s x y) (op.Binary o s x y)) line w else emit (op.Binary o s x y) line w)
  g_two n true o s x y line w lv fin g = g_emit n (or_else (short_op o s x y) (op.Binary o s x y)) line w lv fin (short_asks o s x y w.at) g
  g_two n false o s x y line w lv fin g = g_emit n (op.Binary o s x y) line w lv fin tt g

  int_asks : (o : Binary) (s x : ℕ) (m : ℤ) (k : ℕ) → Asks code r L k (int_op o s x m)
  int_asks binary.Add s x m k = tt
  int_asks binary.Sub s x m k = tt
  int_asks binary.Mul s x m k = tt
  int_asks o s x m k = tt

  pub g_binary : (n : ℕ) (o : Binary) (s : ℕ) (p q : Operand) (line : ℕ) (w : Writer) → Level w → F n (binary_written o s p q line w) → G w → G (binary_written o s p q line w)
  g_binary n o s (Slot x) (Slot y) line w lv fin g = g_two n _ o s x y line w lv fin g
  g_binary n o s (Slot x) (Held m) line w lv fin g = g_emit n (int_op o s x m) line w lv fin (int_asks o s x m w.at) g
  g_binary n o s (Held m) q line w lv fin g = g_same w (lost_if true w) refl refl g

  g_tests : (n : ℕ) (o : Binary) (p q : Operand) (pay l line : ℕ) (w : Writer) → Level w → F n (some_written (test_op o (shown_of p) (shown_of q) pay l) line w) → Ahead r L l (some_written (test_op o (shown_of p) (shown_of q) pay l) line w).at → G w
      → G (some_written (test_op o (shown_of p) (shown_of q) pay l) line w)
  g_tests n binary.Less (Slot x) (Slot y) pay l line w lv fin a g = g_emit n _ line w lv fin (omega (arith, a.0), a.1) g
  g_tests n binary.Less (Slot x) (Held m) pay l line w lv fin a g = g_emit n _ line w lv fin (omega (arith, a.0), a.1) g
  g_tests n binary.Less (Held m) (Slot y) pay l line w lv fin a g = g_emit n _ line w lv fin (omega (arith, a.0), a.1) g
  g_tests n binary.Less (Held m) (Held i) pay l line w lv fin a g = g_same w (lost_if true w) refl refl g
  g_tests n binary.LessEqual (Slot x) (Slot y) pay l line w lv fin a g = g_emit n _ line w lv fin (omega (arith, a.0), a.1) g
  g_tests n binary.LessEqual (Slot x) (Held m) pay l line w lv fin a g = g_emit n _ line w lv fin (omega (arith, a.0), a.1) g
  g_tests n binary.LessEqual (Held m) (Slot y) pay l line w lv fin a g = g_emit n _ line w lv fin (omega (arith, a.0), a.1) g
  g_tests n binary.LessEqual (Held m) (Held i) pay l line w lv fin a g = g_same w (lost_if true w) refl refl g
  g_tests n binary.Greater (Slot x) (Slot y) pay l line w lv fin a g = g_emit n _ line w lv fin (omega (arith, a.0), a.1) g
  g_tests n binary.Greater (Slot x) (Held m) pay l line w lv fin a g = g_emit n _ line w lv fin (omega (arith, a.0), a.1) g
  g_tests n binary.Greater (Held m) (Slot y) pay l line w lv fin a g = g_emit n _ line w lv fin (omega (arith, a.0), a.1) g
  g_tests n binary.Greater (Held m) (Held i) pay l line w lv fin a g = g_same w (lost_if true w) refl refl g
  g_tests n binary.GreaterEqual (Slot x) (Slot y) pay l line w lv fin a g = g_emit n _ line w lv fin (omega (arith, a.0), a.1) g
  g_tests n binary.GreaterEqual (Slot x) (Held m) pay l line w lv fin a g = g_emit n _ line w lv fin (omega (arith, a.0), a.1) g
  g_tests n binary.GreaterEqual (Held m) (Slot y) pay l line w lv fin a g = g_emit n _ line w lv fin (omega (arith, a.0), a.1) g
  g_tests n binary.GreaterEqual (Held m) (Held i) pay l line w lv fin a g = g_same w (lost_if true w) refl refl g
  g_tests n binary.Equal (Slot x) (Slot y) pay l line w lv fin a g = g_emit n _ line w lv fin (omega (arith, a.0), a.1) g
  g_tests n binary.Equal (Slot x) (Held m) pay l line w lv fin a g = g_emit n _ line w lv fin (omega (arith, a.0), a.1) g
  g_tests n binary.Equal (Held m) (Slot y) pay l line w lv fin a g = g_emit n _ line w lv fin (omega (arith, a.0), a.1) g
  g_tests n binary.Equal (Held m) (Held i) pay l line w lv fin a g = g_same w (lost_if true w) refl refl g
  g_tests n binary.NotEqual (Slot x) (Slot y) pay l line w lv fin a g = g_emit n _ line w lv fin (omega (arith, a.0), a.1) g
  g_tests n binary.NotEqual (Slot x) (Held m) pay l line w lv fin a g = g_emit n _ line w lv fin (omega (arith, a.0), a.1) g
  g_tests n binary.NotEqual (Held m) (Slot y) pay l line w lv fin a g = g_emit n _ line w lv fin (omega (arith, a.0), a.1) g
  g_tests n binary.NotEqual (Held m) (Held i) pay l line w lv fin a g = g_same w (lost_if true w) refl refl g
  g_tests n o p q pay l line w lv fin a g = g_same w (lost_if true w) refl refl g

  pub g_test : (n : ℕ) (o : Binary) (p q : Operand) (aim : Aim) (line : ℕ) (w : Writer) → Level w → F n (test_written o p q aim line w) → Aimed r L aim (test_written o p q aim line w).at → G w → G (test_written o p q aim line w)
  g_test n o p q (Unless l pay) line w lv fin a g = g_tests n o p q pay l line w lv fin a g
  g_test n o p q (Into s) line w lv fin a g = g_same w (lost_if true w) refl refl g
  g_test n o p q (Anywhere room) line w lv fin a g = g_same w (lost_if true w) refl refl g

  pub g_unary : (n x d : ℕ) (u : Unary) (aim : Aim) (line : ℕ) (w : Writer) → Level w → F n (unary_slot u x d aim line w) → Aimed r L aim (unary_slot u x d aim line w).at → G w → G (unary_slot u x d aim line w)
  g_unary n x d unary.Not (Unless l pay) line w lv fin a g = g_tested n pay l (op.TestNot x l) w lv fin a (λ h. h) g
  g_unary n x d unary.Not (Into s) line w lv fin a g = g_emit n (op.Unary unary.Not s x) line w lv fin tt g
  g_unary n x d unary.Not (Anywhere room) line w lv fin a g = g_emit n (op.Unary unary.Not d x) line w lv fin tt g
  g_unary n x d u aim line w lv fin a g = g_put_in n d aim (op.Unary u (register aim d) x) line w lv fin a tt g

  pub g_last : (n : ℕ) (os : Operands) (aim : Aim) (d s : ℕ) (v : Writer) → Level v → F n (last_settled os aim d s v) → Aimed r L aim (last_settled os aim d s v).at → G v → G (last_settled os aim d s v)
  g_last n NoOperand aim d s v lv fin a g =
      let x = lost_if (differ (register aim d) s) v in g_settled n aim s x (record { ops = lv.ops; lines = lv.lines }) fin a (g_same v x refl refl g)
  g_last n (MoreOperands o line e os) aim d s v lv fin a g = g

  pub g_called : (n : ℕ) (a : Want) (d k line : ℕ) (w : Writer) → Level w → F n (called a d k line w) → G w → G (called a d k line w)
  g_called n (want.Count m) d k line w lv fin g = g_emit n (op.Call d k m) line w lv fin tt g
  g_called n want.AsList d k line w lv fin g = g_emit n (op.CallAll d k) line w lv fin tt g
  g_called n want.AsResult d k line w lv fin g =
      let v = emit (op.TailCall d k) line w in
      g_emit n op.ReturnList 0 v ((kept_emit 0 (op.TailCall d k) line w).level lv) fin tt (g_emit n (op.TailCall d k) line w lv (fin_back code f r L n v (put op.ReturnList v) fin (k_put v v op.ReturnList (kept_self 0 v))) tt g)

  pub g_called_list : (n : ℕ) (a : Want) (d line : ℕ) (w : Writer) → Level w → F n (called_list a d line w) → G w → G (called_list a d line w)
  g_called_list n (want.Count m) d line w lv fin g =
      let v = emit (op.CallList d) line w in
      g_emit n (op.Spread d m) 0 v ((kept_emit 0 (op.CallList d) line w).level lv) fin tt (g_emit n (op.CallList d) line w lv (fin_back code f r L n v (put (op.Spread d m) v) fin (k_put v v (op.Spread d m) (kept_self 0 v))) tt g)
  g_called_list n want.AsList d line w lv fin g = g_emit n (op.CallList d) line w lv fin tt g
  g_called_list n want.AsResult d line w lv fin g =
      let v = emit (op.TailCallList d) line w in
      g_emit n op.ReturnList 0 v ((kept_emit 0 (op.TailCallList d) line w).level lv) fin tt (g_emit n (op.TailCallList d) line w lv (fin_back code f r L n v (put op.ReturnList v) fin (k_put v v op.ReturnList (kept_self 0 v))) tt g)

  g_wanted : (n : ℕ) (a : Want) (d : ℕ) (w : Writer) → Level w → F n (wanted_written a d w) → G w → G (wanted_written a d w)
  g_wanted n (want.Count zero) d w lv fin g = g
  g_wanted n (want.Count (suc m)) d w lv fin g = g_nils n (d + 1) m w lv fin g
  g_wanted n want.AsList d w lv fin g =
      let v = put op.Begin w in
      g_emit n (op.Push d) 0 v ((kept_emit 0 op.Begin 0 w).level lv) fin tt (g_emit n op.Begin 0 w lv (fin_back code f r L n v (put (op.Push d) v) fin (k_put v v (op.Push d) (kept_self 0 v))) tt g)
  g_wanted n want.AsResult d w lv fin g = g_emit n (op.Return d 1) 0 w lv fin tt g

  pub g_none : (n : ℕ) (ss : Suffixes) (a : Want) (d : ℕ) (w : Writer) → Level w → F n (where_none ss a d w) → G w → G (where_none ss a d w)
  g_none n NoSuffix a d w lv fin g = g_wanted n a d w lv fin g
  g_none n (MoreSuffixes x ss) a d w lv fin g = g

  pub g_ticked : (n k : ℕ) (w : Writer) → Level w → F n (ticked k w) → G w → G (ticked k w)
  g_ticked n zero w lv fin g = g_emit n (op.Tick 1) 0 w lv fin tt g
  g_ticked n (suc zero) w lv fin g = g
  g_ticked n (suc (suc k)) w lv fin g = g_same w (lost_if true w) refl refl g

  pub g_ticked_more : (n k m : ℕ) (w : Writer) → Level w → F n (ticked_more k m w) → G w → G (ticked_more k m w)
  g_ticked_more n zero m w lv fin g = g_emit n (op.Tick (suc m)) 0 w lv fin tt g
  g_ticked_more n (suc k) m w lv fin g = g

  pub g_ticked_twice : (n k m : ℕ) (w : Writer) → Level w → F n (ticked_twice k m w) → G w → G (ticked_twice k m w)
  g_ticked_twice n zero m w lv fin g = g_emit n (op.Tick (suc (suc m))) 0 w lv fin tt g
  g_ticked_twice n (suc zero) m w lv fin g = g_emit n (op.Tick (suc m)) 0 w lv fin tt g
  g_ticked_twice n (suc (suc k)) m w lv fin g = g_same w (lost_if true w) refl refl g

  pub g_jumped : (n : ℕ) (o : Option ℕ) (v : Writer) → Level v → F n (jumped o v) → Leaves r L o (jumped o v).at → G v → G (jumped o v)
  g_jumped n None v lv fin a g = g_same v (lost_if true v) refl refl g
  g_jumped n (Some l) v lv fin a g = g_emit n (op.Jump l) 0 v lv fin (omega (arith, a.0), a.1) g

  pub g_where_else : (n : ℕ) (b : Branches) (l : ℕ) (v : Writer) → Level v → F n (where_else b l v) → Ahead r L l (where_else b l v).at → G v → G (where_else b l v)
  g_where_else n NoElse l v lv fin a g = g
  g_where_else n (Else p) l v lv fin a g = g_emit n (op.Jump l) 0 v lv fin (omega (arith, a.0), a.1) g
  g_where_else n (Elseif c p b) l v lv fin a g = g_emit n (op.Jump l) 0 v lv fin (omega (arith, a.0), a.1) g

  -- ---- locals
  declare_at : (n : ℕ) (b : Bool) (x : Text) (xs : List Text) (sc : Scope) (w : Writer) → Level w
      → F n (declare_all xs (if b then past 1 (in_cell x sc) else in_slot x sc) (counted (if b then put (op.NewCell sc.cells sc.free) w else w))) → Sees r sc.names → G w
      → ((sc' : Scope) (v : Writer) → Level v → F n (declare_all xs sc' v) → Sees r sc'.names → G v → G (declare_all xs sc' v) × Sees r (all_known xs sc' v.flags v.locals).names)
      → G (declare_all xs (if b then past 1 (in_cell x sc) else in_slot x sc) (counted (if b then put (op.NewCell sc.cells sc.free) w else w)))
      × Sees r (all_known xs (if b then past 1 (in_cell x sc) else in_slot x sc) (counted (if b then put (op.NewCell sc.cells sc.free) w else w)).flags (counted (if b then put (op.NewCell sc.cells sc.free) w else w)).locals).names
  declare_at n true x xs sc w lv fin s g rec =
      let o = op.NewCell sc.cells sc.free in
      let u = put o w in
      let v = counted u in
      let l = (kept_emit 0 o 0 w).level lv in
      let whole = fin_back code f r L n v (declare_all xs (past 1 (in_cell x sc)) v) fin (k_declare_all v v xs (past 1 (in_cell x sc)) (kept_self 0 v)) in
      let fin_u : F n u = record {
        final = record { ops = whole.final.ops; lines = whole.final.lines; constants = whole.final.constants; made = whole.final.made; labels = whole.final.labels; found = whole.final.found };
        slots = whole.slots;
        cells = whole.cells;
        at = whole.at;
        constants = whole.constants;
      } in
      let c : sc.cells < r.shape.cells = (let x = le-max_right w.draft.shape.cells (sc.cells + 1) in omega (arith, fin_u.cells)) in
      rec (past 1 (in_cell x sc)) v (record { ops = l.ops; lines = l.lines }) fin (c, s) (g_same u v refl refl (g_emit n o 0 w lv fin_u tt g))
  declare_at n false x xs sc w lv fin s g rec = rec (in_slot x sc) (counted w) (record { ops = lv.ops; lines = lv.lines }) fin (tt, s) (g_same w (counted w) refl refl g)

  known_as : (b : Bool) (x : Text) (xs : List Text) (sc : Scope) (w : Writer)
      → Sees r (all_known xs (if b then past 1 (in_cell x sc) else in_slot x sc) (counted (if b then put (op.NewCell sc.cells sc.free) w else w)).flags (counted (if b then put (op.NewCell sc.cells sc.free) w else w)).locals).names
      → Sees r (all_known xs (if b then past 1 (in_cell x sc) else in_slot x sc) w.flags (w.locals + 1)).names
  known_as true x xs sc w h = h
  known_as false x xs sc w h = h

  pub g_declare : (n : ℕ) (xs : List Text) (sc : Scope) (w : Writer) → Level w → F n (declare_all xs sc w) → Sees r sc.names → G w → G (declare_all xs sc w) × Sees r (all_known xs sc w.flags w.locals).names
  g_declare n [] sc w lv fin s g = (g, s)
  g_declare n (x ∷ xs) sc w lv fin s g =
      let h = declare_at n (flag w.flags w.locals) x xs sc w lv fin s g (λ sc' v. g_declare n xs sc' v) in
      (h.0, known_as (flag w.flags w.locals) x xs sc w h.1)
