-- A writer as the final code has it.
use Rattle.std.proofs.Common.{◌≡◌, ℕ, zero, suc, ◌+◌, ◌<◌, ◌≤◌, refl, sym, ◌∙◌, subst, List, [], ◌∷◌, ◌++◌, length, Some, arith, Bool, true, false}
use Rattle.std.specs.Prelude.{slice_get, ◌||◌, not, ◌==◌, ◌&&◌, ℤ}
use Rattle.std.proofs.lemmas.Bool.Decides.{eqb_tells}
use Rattle.std.proofs.Common.{⊎_elim, ◌≢◌}
use Rattle.lua_code.specs.declared.function.Constant.{Constant}
use Rattle.lua_code.specs.declared.op.Op.{Op}
use Rattle.lua_code.specs.declared.op.Op.TheVariants as op
use Rattle.lua_code.specs.Routine.{Routine}
use Rattle.lua_steps.specs.Machine.{Code}
use Rattle.lua_steps.specs.Exec.{op_at, line_at, constant_at}
use Rattle.lua_steps.specs.Stand.{At, AtLine, Shown, Reg, Imm, Not, Holds, Fails}
use Rattle.lua_compile.specs.declared.aim.Aim.{Aim}
use Rattle.lua_compile.specs.declared.aim.Aim.TheVariants.{Into, Anywhere, Unless}
use Rattle.lua_compile.specs.declared.aim.Operand.{Operand}
use Rattle.lua_compile.specs.Writer.{Writer, emit, placed_here, with_constant, lost_if, place, placed}
use Rattle.lua_compile.specs.Forms.{differ, shown_of}
use Rattle.lua_compile.proofs.Kept.{Level, Kept, get_end, get_set}
use Rattle.lua_compile.proofs.KeptForms.{K}

-- function f of the code has what stands in w, with these places for labels; the labels of w from n on stand
pub record Final (code : Code) (f : ℕ) (L : List ℕ) (n : ℕ) (w : Writer) : Type 0 where
  pub ops : (k : ℕ) (o : Op) → slice_get w.draft.ops k ≡ Some o → op_at code f k ≡ Some (placed L o)
  pub lines : (k z : ℕ) → slice_get w.draft.lines k ≡ Some z → line_at code f k ≡ Some z
  pub constants : (k : ℕ) (c : Constant) → slice_get w.draft.constants k ≡ Some c → constant_at code f k ≡ Some c
  pub made : (k : ℕ) (r : Routine) → slice_get w.made k ≡ Some r → slice_get code k ≡ Some r
  pub labels : (k z : ℕ) → n ≤ k → slice_get w.labels k ≡ Some z → place L k ≡ z
  pub found : w.lost ≡ false

-- a part of what is final
pub part : (code : Code) (f : ℕ) (L : List ℕ) (n m p : ℕ) (w v : Writer) → Final code f L n v → Kept m w v → n ≤ p → m ≤ p → Final code f L p w
part code f L n m p w v fin k le le' =
    record {
      ops = λ i o e. fin.ops i o (k.ops i o e);
      lines = λ i z e. fin.lines i z (k.lines i z e);
      constants = λ i c e. fin.constants i c (k.constants i c e);
      made = λ i r e. fin.made i r (k.made i r e);
      labels = λ i z h e. fin.labels i z (omega arith) (k.labels i z (omega arith) e);
      found = k.found fin.found;
    }

-- the same for what keeps all labels
pub back : (code : Code) (f : ℕ) (L : List ℕ) (n : ℕ) (w v : Writer) → Final code f L n v → K w v → Final code f L n w
back code f L n w v fin k = part code f L n 0 n w v fin k (omega arith) (omega arith)

-- more labels may be open
pub later : (code : Code) (f : ℕ) (L : List ℕ) (n m : ℕ) (w : Writer) → Final code f L n w → n ≤ m → Final code f L m w
later code f L n m w fin le =
    record { ops = fin.ops; lines = fin.lines; constants = fin.constants; made = fin.made; labels = λ k z h e. fin.labels k z (omega arith) e; found = fin.found }

pub at_op : (code : Code) (f : ℕ) (L : List ℕ) (n : ℕ) (o : Op) (line : ℕ) (w : Writer) → Level w → Final code f L n (emit o line w) → At code f w.at (placed L o)
at_op code f L n o line w lv fin =
    fin.ops w.at o (subst (λ i. slice_get (w.draft.ops ++ o ∷ []) i ≡ Some o) (sym lv.ops) (get_end w.draft.ops o))

pub at_line : (code : Code) (f : ℕ) (L : List ℕ) (n : ℕ) (o : Op) (line : ℕ) (w : Writer) → Level w → Final code f L n (emit o line w) → AtLine code f w.at (placed L o) line
at_line code f L n o line w lv fin =
    (at_op code f L n o line w lv fin, fin.lines w.at line (subst (λ i. slice_get (w.draft.lines ++ line ∷ []) i ≡ Some line) (sym lv.lines) (get_end w.draft.lines line)))

pub at_constant : (code : Code) (f : ℕ) (L : List ℕ) (n : ℕ) (c : Constant) (w : Writer) → Final code f L n (with_constant c w) → constant_at code f (length w.draft.constants) ≡ Some c
at_constant code f L n c w fin = fin.constants (length w.draft.constants) c (get_end w.draft.constants c)

-- a label stands where it was placed
pub label_is : (code : Code) (f : ℕ) (L : List ℕ) (n l : ℕ) (w : Writer) → Final code f L n (placed_here l w) → n ≤ l → l < length w.labels → place L l ≡ w.at
label_is code f L n l w fin le lt = fin.labels l w.at le (get_set w.labels l w.at lt)

-- ---- what was not lost
pub or_right : (a b : Bool) → (a || b) ≡ false → b ≡ false
or_right false b e = e
or_right true b e = absurd (cc)

pub not_lost : (code : Code) (f : ℕ) (L : List ℕ) (n : ℕ) (b : Bool) (w : Writer) → Final code f L n (lost_if b w) → b ≡ false
not_lost code f L n b w fin = or_right w.lost b fin.found

pub never_lost : (code : Code) (f : ℕ) (L : List ℕ) (n : ℕ) (w : Writer) → Final code f L n (lost_if true w) → ⊥
never_lost code f L n w fin = (let e : true ≡ false = not_lost code f L n true w fin in cc)

pub not_false : (b : Bool) → not b ≡ false → b ≡ true
not_false true e = refl
not_false false e = absurd (cc)

pub same_nat : (a b : ℕ) → (a == b) ≡ true → a ≡ b
same_nat a b e =
    ⊎_elim (λ (s : ((a == b) ≡ true) × (a ≡ b)). s.1) (λ (d : ((a == b) ≡ false) × (a ≢ b)). (let x : true ≡ false = sym e ∙ d.0 in absurd (cc))) (eqb_tells a b)

pub no_difference : (a b : ℕ) → differ a b ≡ false → a ≡ b
no_difference a b e = same_nat a b (not_false (a == b) e)

pub and_left : (a b : Bool) → (a && b) ≡ true → a ≡ true
and_left true b e = refl
and_left false b e = absurd (cc)

pub and_right : (a b : Bool) → (a && b) ≡ true → b ≡ true
and_right true b e = e
and_right false b e = absurd (cc)

-- ---- what follows an expression
-- so many ticks are paid from b to c
abbrev pub Pays : Code → ℕ → ℕ → ℕ → ℕ → Type 0
Pays code f zero b c = b ≡ c
Pays code f (suc k) b c = At code f b (op.Tick (suc k)) × (b + 1 ≡ c)

-- the code goes on at c where it is true, and so many ticks are paid there; at the label where it is false
pub record Jumps (code : Code) (f : ℕ) (L : List ℕ) (l pay : ℕ) (R : ℕ → Shown → Type 0) (c : ℕ) : Type 0 where
  pub holds : R c (Holds pay)
  pub always : (b : ℕ) → Pays code f pay b c → R b (Holds 0)
  pub int : (n : ℤ) (b : ℕ) → Pays code f pay b c → R b (Imm n)
  pub fails : R (place L l) Fails
  pub test : (b r : ℕ) → Pays code f pay (b + 1) c → At code f b (op.Test r (place L l)) → R b (Reg r)
  pub test_not : (b r : ℕ) → Pays code f pay (b + 1) c → At code f b (op.TestNot r (place L l)) → R b (Not r)

abbrev pub Given : Code → ℕ → List ℕ → Aim → Operand → (ℕ → Shown → Type 0) → ℕ → Type 0
Given code f L (Into r) p R c = R c (Reg r)
Given code f L (Anywhere room) p R c = R c (shown_of p)
Given code f L (Unless l pay) p R c = Jumps code f L l pay R c
