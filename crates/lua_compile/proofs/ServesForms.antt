-- The forms of code serve what they are written for.
use Rattle.std.proofs.Common.{◌≡◌, ℕ, zero, suc, ◌+◌, inl, inr, refl, subst, List, length, Option, Some, None, Bool, true, false}
use Rattle.std.specs.Prelude.{if◌then◌else◌, ℤ, ◌⊎◌}
use Rattle.lua_code.specs.declared.function.Constant.TheVariants as constant
use Rattle.lua_code.specs.declared.op.Op.{Op}
use Rattle.lua_code.specs.declared.op.Op.TheVariants as op
use Rattle.lua_steps.specs.declared.scope.Place.{Place}
use Rattle.lua_steps.specs.declared.scope.Place.TheVariants.{InSlot, InCell, InUp, Hidden}
use Rattle.lua_steps.specs.Machine.{Code}
use Rattle.lua_steps.specs.Stand.{At, AtLine, Shown, Reg, Imm, WhereAnywhere, WhereInSlot, IsGet, IsPut, IsInt}
use Rattle.lua_compile.specs.declared.aim.Aim.{Aim}
use Rattle.lua_compile.specs.declared.aim.Aim.TheVariants.{Into, Anywhere, Unless}
use Rattle.lua_compile.specs.declared.aim.Room.{Room}
use Rattle.lua_compile.specs.declared.aim.Room.TheVariants.{Word}
use Rattle.lua_compile.specs.declared.aim.Operand.TheVariants.{Slot, Constant as Held}
use Rattle.lua_compile.specs.Writer.{Writer, emit, put, with_constant, placed}
use Rattle.lua_compile.specs.Forms.{register, target_of, paid_here, settled, int_written, int_shown, int_aimed, has_room, name_shown, slot_written, name_written, stored, shown_of}
use Rattle.lua_compile.proofs.Kept.{Level, kept_self, kept_emit}
use Rattle.lua_compile.proofs.KeptForms.{k_put, k_paid, k_settled}
use Rattle.lua_compile.proofs.Final.{Final, back, at_op, at_line, at_constant, never_lost, Pays, Given}

module _ (code : Code) (f : ℕ) (L : List ℕ) where
  pub paid_stands : (n pay : ℕ) (v : Writer) → Level v → Final code f L n (paid_here pay v) → Pays code f pay v.at (paid_here pay v).at
  paid_stands n zero v lv fin = refl
  paid_stands n (suc k) v lv fin = (at_op code f L n (op.Tick (suc k)) 0 v lv fin, refl)

  -- a test, and the ticks after it
  pub test_pays : (n pay : ℕ) (o : Op) (v : Writer) → Level v → Final code f L n (paid_here pay (put o v)) → At code f v.at (placed L o) × Pays code f pay (v.at + 1) (paid_here pay (put o v)).at
  test_pays n pay o v lv fin =
      let u = put o v in
      (at_op code f L n o 0 v lv (back code f L n u (paid_here pay u) fin (k_paid u u pay (kept_self 0 u))), paid_stands n pay u ((kept_emit 0 o 0 v).level lv) fin)

  -- a value in a slot, looked at where only its truth is asked
  pub settled_in : (n d : ℕ) (aim : Aim) (v : Writer) (R : ℕ → Shown → Type 0) → Level v → Final code f L n (settled aim (register aim d) v)
      → Given code f L aim (Slot (register aim d)) R (settled aim (register aim d) v).at → R v.at (Reg (register aim d))
  settled_in n d (Into r) v R lv fin g = g
  settled_in n d (Anywhere room) v R lv fin g = g
  settled_in n d (Unless l pay) v R lv fin g = (let t = test_pays n pay (op.Test d l) v lv fin in g.test v.at d t.1 t.0)

  pub unsettled : (n r : ℕ) (aim : Aim) (v : Writer) → Final code f L n (settled aim r v) → Final code f L n v
  unsettled n r aim v fin = back code f L n v (settled aim r v) fin (k_settled v v aim r (kept_self 0 v))

  -- the same for a value in the first free slot
  pub settled_free : (n d : ℕ) (aim : Aim) (v : Writer) (R : ℕ → Shown → Type 0) → Level v → register aim d ≡ d → Final code f L n (settled aim d v)
      → Given code f L aim (Slot (register aim d)) R (settled aim d v).at → R v.at (Reg d)
  settled_free n d (Into r) v R lv e fin g = subst (λ i. R v.at (Reg i)) e g
  settled_free n d (Anywhere room) v R lv e fin g = g
  settled_free n d (Unless l pay) v R lv e fin g = (let t = test_pays n pay (op.Test d l) v lv fin in g.test v.at d t.1 t.0)

  -- ---- constants and names
  pub int_stands : (n r : ℕ) (m : ℤ) (b : Bool) (w : Writer) → Level w
      → Final code f L n (if b then put (op.Int r m) w else put (op.Constant r (length w.draft.constants)) (with_constant (constant.Int m) w))
      → IsInt code f w.at r m × ((if b then put (op.Int r m) w else put (op.Constant r (length w.draft.constants)) (with_constant (constant.Int m) w)).at ≡ w.at + 1)
  int_stands n r m true w lv fin = (inl (at_op code f L n (op.Int r m) 0 w lv fin), refl)
  int_stands n r m false w lv fin =
      let v = with_constant (constant.Int m) w in
      let o = op.Constant r (length w.draft.constants) in (
        inr (
          length w.draft.constants,
          at_op code f L n o 0 v (record { ops = lv.ops; lines = lv.lines }) fin,
          at_constant code f L n (constant.Int m) w (back code f L n v (put o v) fin (k_put v v o (kept_self 0 v))),
        ),
        refl,
      )

  -- what an integer asks of the relation
  abbrev pub IntServes : ℕ → ℤ → ℕ → Aim → (ℕ → Shown → Type 0) → Type 0
  IntServes a m d aim R =
      (IsInt code f a (register aim d) m × R (a + 1) (Reg (register aim d))) ⊎ WhereAnywhere (target_of aim) (R a (Imm m))

  int_there : (n : ℕ) (m : ℤ) (d : ℕ) (room : Room) (b : Bool) (w : Writer) (R : ℕ → Shown → Type 0) → Level w
      → Final code f L n (if b then w else int_written d m w) → R (if b then w else int_written d m w).at (shown_of (if b then Held m else Slot d)) → IntServes w.at m d (Anywhere room) R
  int_there n m d room true w R lv fin g = inr g
  int_there n m d room false w R lv fin g =
      let s = int_stands n d m (has_room Word m) w lv fin in inl (s.0, subst (λ a. R a (Reg d)) s.1 g)

  pub int_serves : (n : ℕ) (m : ℤ) (d : ℕ) (aim : Aim) (w : Writer) (R : ℕ → Shown → Type 0) → Level w → Final code f L n (int_aimed m d aim w)
      → Given code f L aim (int_shown m d aim) R (int_aimed m d aim w).at → IntServes w.at m d aim R
  int_serves n m d (Into r) w R lv fin g = (let s = int_stands n r m (has_room Word m) w lv fin in inl (s.0, subst (λ a. R a (Reg r)) s.1 g))
  int_serves n m d (Anywhere room) w R lv fin g = int_there n m d room (has_room room m) w R lv fin g
  int_serves n m d (Unless l pay) w R lv fin g = inr (g.int m w.at (paid_stands n pay w lv fin))

  abbrev pub NameServes : ℕ → Option Place → ℕ → Aim → (ℕ → Shown → Type 0) → Type 0
  NameServes a o d aim R =
      (IsGet code f a (register aim d) o × R (a + 1) (Reg (register aim d))) ⊎ WhereAnywhere (target_of aim) (WhereInSlot o (λ s. R a (Reg s)))

  slot_serves : (n s d : ℕ) (aim : Aim) (w : Writer) (R : ℕ → Shown → Type 0) → Level w → Final code f L n (slot_written s d aim w)
      → Given code f L aim (name_shown (Some (InSlot s)) d aim) R (slot_written s d aim w).at → NameServes w.at (Some (InSlot s)) d aim R
  slot_serves n s d (Into r) w R lv fin g = inl (at_op code f L n (op.Move r s) 0 w lv fin, g)
  slot_serves n s d (Anywhere room) w R lv fin g = inr g
  slot_serves n s d (Unless l pay) w R lv fin g = (let t = test_pays n pay (op.Test s l) w lv fin in inr (g.test w.at s t.1 t.0))

  -- a value that an operation puts into its slot
  pub put_in : (n d : ℕ) (aim : Aim) (o : Op) (line : ℕ) (w : Writer) (R : ℕ → Shown → Type 0) → Level w → Final code f L n (settled aim (register aim d) (emit o line w))
      → Given code f L aim (Slot (register aim d)) R (settled aim (register aim d) (emit o line w)).at → AtLine code f w.at (placed L o) line × R (w.at + 1) (Reg (register aim d))
  put_in n d aim o line w R lv fin g =
      (at_line code f L n o line w lv (unsettled n (register aim d) aim (emit o line w) fin), settled_in n d aim (emit o line w) R ((kept_emit 0 o line w).level lv) fin g)

  shown_cell : (c d : ℕ) (aim : Aim) → name_shown (Some (InCell c)) d aim ≡ Slot (register aim d)
  shown_cell c d (Into r) = refl
  shown_cell c d (Anywhere room) = refl
  shown_cell c d (Unless l pay) = refl

  shown_up : (u d : ℕ) (aim : Aim) → name_shown (Some (InUp u)) d aim ≡ Slot (register aim d)
  shown_up u d (Into r) = refl
  shown_up u d (Anywhere room) = refl
  shown_up u d (Unless l pay) = refl

  pub name_serves : (n : ℕ) (o : Option Place) (d : ℕ) (aim : Aim) (w : Writer) (R : ℕ → Shown → Type 0) → Level w → Final code f L n (name_written o d aim w)
      → Given code f L aim (name_shown o d aim) R (name_written o d aim w).at → NameServes w.at o d aim R
  name_serves n (Some (InSlot s)) d aim w R lv fin g = slot_serves n s d aim w R lv fin g
  name_serves n (Some (InCell c)) d aim w R lv fin g =
      let o = op.GetCell (register aim d) c in
      let x = put_in n d aim o 0 w R lv fin (subst (λ p. Given code f L aim p R (settled aim (register aim d) (put o w)).at) (shown_cell c d aim) g) in
      inl (x.0.0, x.1)
  name_serves n (Some (InUp u)) d aim w R lv fin g =
      let o = op.GetUp (register aim d) u in
      let x = put_in n d aim o 0 w R lv fin (subst (λ p. Given code f L aim p R (settled aim (register aim d) (put o w)).at) (shown_up u d aim) g) in
      inl (x.0.0, x.1)
  name_serves n (Some Hidden) d aim w R lv fin g = absurd (never_lost code f L n w fin)
  name_serves n None d aim w R lv fin g = absurd (never_lost code f L n w fin)

  pub stored_stands : (n r : ℕ) (o : Option Place) (w : Writer) → Level w → Final code f L n (stored o r w) → IsPut code f w.at r o × ((stored o r w).at ≡ w.at + 1)
  stored_stands n r (Some (InSlot s)) w lv fin = (at_op code f L n (op.Move s r) 0 w lv fin, refl)
  stored_stands n r (Some (InCell c)) w lv fin = (at_op code f L n (op.SetCell c r) 0 w lv fin, refl)
  stored_stands n r (Some (InUp u)) w lv fin = (at_op code f L n (op.SetUp u r) 0 w lv fin, refl)
  stored_stands n r (Some Hidden) w lv fin = absurd (never_lost code f L n w fin)
  stored_stands n r None w lv fin = absurd (never_lost code f L n w fin)
