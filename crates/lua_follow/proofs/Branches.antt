-- Where the truth of a value is looked at.
use Rattle.std.proofs.Common.{◌≡◌, ℕ, ◌+◌, ◌-◌, inl, inr, refl, ap, ◌∙◌, arith}
use Rattle.std.specs.Prelude.{Bool, true, false, not, if◌then◌else◌}
use Rattle.std.proofs.lemmas.Bool.{le-ltb}
use Rattle.lua_value.specs.declared.value.Value.{Value}
use Rattle.lua_value.specs.Same.{is_true}
use Rattle.lua_code.specs.declared.op.Op.TheVariants as op
use Rattle.lua_steps.specs.Machine as machine
use Rattle.lua_steps.specs.Machine.{Code, Machine, Went, On, Off}
use Rattle.lua_steps.specs.Moves.{paid, next, jump, slot}
use Rattle.lua_steps.specs.Exec.{chosen}
use Rattle.lua_steps.specs.Run.{run}
use Rattle.lua_steps.specs.Stand.{At, Shown, Reg, Imm, Not, Holds, Fails, Branch}
use Rattle.lua_follow.specs.Memory.{view}
use Rattle.lua_follow.specs.Kept.{Shows}
use Rattle.lua_follow.specs.Stands.{ahead}
use Rattle.lua_follow.proofs.Runs.{runs_op}

-- nothing is paid
pub paid_none : (m : Machine) (go : Machine → Went) → paid 0 m go ≡ go m
paid_none m go =
    let same : m.left - 0 ≡ m.left = omega arith in
    ap (λ b. if b then Off machine.Budget m else go (record m { left = m.left - 0 })) (le-ltb m.left 0 (omega arith)) ∙ ap (λ l. go (record m { left = l })) same

-- the machine at a place
abbrev pub put_at : ℕ → Machine → Machine
put_at a m = record m { top = record m.top { at = a } }

-- the machine has come to the place for a true value, or to that for a false one
pub data Branched (code : Code) (m : Machine) (p : Shown) (v : Value) (T : ℕ → ℕ → Type 0) (F : ℕ → Type 0) : Type 0 where
  holds : (n a : ℕ) → is_true v ≡ true → run n code m ≡ On (put_at a m) → T (ahead p) a → Branched code m p v T F
  fails : (n a : ℕ) → is_true v ≡ false → run n code m ≡ On (put_at a m) → ahead p ≡ 0 → F a → Branched code m p v T F

module _ (code : Code) (m : Machine) (v : Value) (T : ℕ → ℕ → Type 0) (F : ℕ → Type 0) where
  test_true : (r z : ℕ) → At code m.top.function m.top.at (op.Test r z) → is_true (slot m r) ≡ true → run 1 code m ≡ On (put_at (m.top.at + 1) m)
  test_true r z is e = runs_op code m (op.Test r z) _ is (ap (λ b. chosen b 0 z m) e ∙ paid_none m (λ t. next t))

  test_false : (r z : ℕ) → At code m.top.function m.top.at (op.Test r z) → is_true (slot m r) ≡ false → run 1 code m ≡ On (put_at z m)
  test_false r z is e = runs_op code m (op.Test r z) _ is (ap (λ b. chosen b 0 z m) e)

  not_true : (r z : ℕ) → At code m.top.function m.top.at (op.TestNot r z) → is_true (slot m r) ≡ true → run 1 code m ≡ On (put_at z m)
  not_true r z is e = runs_op code m (op.TestNot r z) _ is (ap (λ b. if b then jump z m else next m) e)

  not_false : (r z : ℕ) → At code m.top.function m.top.at (op.TestNot r z) → is_true (slot m r) ≡ false → run 1 code m ≡ On (put_at (m.top.at + 1) m)
  not_false r z is e = runs_op code m (op.TestNot r z) _ is (ap (λ b. if b then jump z m else next m) e)

  reg_branch : (r : ℕ) (b : Bool) → is_true v ≡ b → is_true (slot m r) ≡ b → Branch code m.top.function m.top.at (Reg r) T F → Branched code m (Reg r) v T F
  reg_branch r true t e (inl h) = holds 1 (m.top.at + 1) t (test_true r h.0 h.1 e) h.2
  reg_branch r true t e (inr h) = holds 1 h.0 t (not_true r h.0 h.1 e) h.3
  reg_branch r false t e (inl h) = fails 1 h.0 t (test_false r h.0 h.1 e) refl h.3
  reg_branch r false t e (inr h) = fails 1 (m.top.at + 1) t (not_false r h.0 h.1 e) refl h.2

  not_branch : (r : ℕ) (b : Bool) → is_true v ≡ not b → is_true (slot m r) ≡ b → Branch code m.top.function m.top.at (Not r) T F → Branched code m (Not r) v T F
  not_branch r true t e (inl h) = fails 1 (m.top.at + 1) t (test_true r h.0 h.1 e) refl h.2
  not_branch r true t e (inr h) = fails 1 h.0 t (not_true r h.0 h.1 e) refl h.3
  not_branch r false t e (inl h) = holds 1 h.0 t (test_false r h.0 h.1 e) h.3
  not_branch r false t e (inr h) = holds 1 (m.top.at + 1) t (not_false r h.0 h.1 e) h.2

  pub branched : (p : Shown) → Shows (view m.top) m.row p v → Branch code m.top.function m.top.at p T F → Branched code m p v T F
  branched (Reg r) shows h = reg_branch r (is_true v) refl (ap is_true shows) h
  branched (Not r) shows h = not_branch r (is_true (slot m r)) (ap is_true shows) refl h
  branched (Imm n) shows h = holds 0 m.top.at (ap is_true shows) refl h
  branched (Holds pay) shows h = holds 0 m.top.at shows refl h
  branched Fails shows h = fails 0 m.top.at shows refl refl h
