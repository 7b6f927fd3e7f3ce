-- Runs of the machine, one after another.
use Rattle.std.proofs.Common.{◌≡◌, ℕ, zero, suc, ◌+◌, refl, ap, ◌∙◌, arith, inl, inr}
use Rattle.lua_code.specs.declared.op.Op.{Op}
use Rattle.lua_code.specs.declared.op.Op.TheVariants as op
use Rattle.lua_steps.specs.Machine.{Code, Machine, Went, On, Off, Paused, Stuck}
use Rattle.lua_steps.specs.Exec.{op_at, exec, perform, perform_at}
use Rattle.lua_steps.specs.Run.{run, then_on}
use Rattle.lua_steps.specs.Stand.{At, Leads}

then_stop : (w : Went) (code : Code) → then_on w (run 0 code) ≡ w
then_stop (On m) code = refl
then_stop (Off x m) code = refl
then_stop (Paused c m) code = refl
then_stop Stuck code = refl

-- one operation
pub runs_one : (code : Code) (m : Machine) (w : Went) → exec code m ≡ w → run 1 code m ≡ w
runs_one code m w e = ap (λ x. then_on x (run 0 code)) e ∙ then_stop w code

pub runs_op : (code : Code) (m : Machine) (o : Op) (w : Went) → At code m.top.function m.top.at o → perform code o m ≡ w → run 1 code m ≡ w
runs_op code m o w h e = runs_one code m w (ap (λ x. perform_at x code m) h ∙ e)

runs_then : (code : Code) (w v : Went) (t : Machine) (n k : ℕ)
    → ((x : Machine) → w ≡ On x → run n code x ≡ On t → run (n + k) code x ≡ v) → then_on w (run n code) ≡ On t → then_on w (run (n + k) code) ≡ v
runs_then code (On x) v t n k f e = f x refl e
runs_then code (Off x m) v t n k f e = absurd (cc)
runs_then code (Paused c m) v t n k f e = absurd (cc)
runs_then code Stuck v t n k f e = absurd (cc)

-- and more after some
pub runs_more : (code : Code) (n k : ℕ) (m t : Machine) (w : Went) → run n code m ≡ On t → run k code t ≡ w → run (n + k) code m ≡ w
runs_more code zero k m t w e h =
    let same : m ≡ t = on_same m t e in
    let none : 0 + k ≡ k = omega arith in
    ap (λ i. run i code m) none ∙ ap (λ x. run k code x) same ∙ h
  where
    machine_of : Machine → Went → Machine
    machine_of d (On x) = x
    machine_of d (Off x y) = d
    machine_of d (Paused c y) = d
    machine_of d Stuck = d

    on_same : (a b : Machine) → On a ≡ On b → a ≡ b
    on_same a b e = ap (machine_of a) e
runs_more code (suc n) k m t w e h =
    let more : suc n + k ≡ suc (n + k) = omega arith in
    ap (λ i. run i code m) more ∙ runs_then code (exec code m) w t n k (λ x f g. runs_more code n k x t w g h) e

-- a place that is led to
pub record Led (code : Code) (m : Machine) (R : ℕ → Type 0) : Type 0 where
  pub n : ℕ
  pub at : ℕ
  pub runs : run n code m ≡ On (record m { top = record m.top { at = at } })
  pub holds : R at

pub leads : (code : Code) (m : Machine) (R : ℕ → Type 0) → Leads code m.top.function m.top.at R → Led code m R
leads code m R (inl h) = record { n = 0; at = m.top.at; runs = refl; holds = h }
leads code m R (inr h) = record { n = 1; at = h.0; runs = runs_op code m (op.Jump h.0) _ h.1 refl; holds = h.2 }

-- the same, for whatever else the machine has
pub record Way (code : Code) (f a : ℕ) (R : ℕ → Type 0) : Type 0 where
  pub at : ℕ
  pub holds : R at
  pub n : ℕ
  pub runs : (m : Machine) → m.top.function ≡ f → run n code (record m { top = record m.top { at = a } }) ≡ On (record m { top = record m.top { at = at } })

pub way : (code : Code) (f a : ℕ) (R : ℕ → Type 0) → Leads code f a R → Way code f a R
way code f a R (inl h) = record { at = a; holds = h; n = 0; runs = λ m e. refl }
way code f a R (inr h) =
    record {
      at = h.0;
      holds = h.2;
      n = 1;
      runs = λ m e. runs_op code (record m { top = record m.top { at = a } }) (op.Jump h.0) _ (ap (λ g. op_at code g a) e ∙ h.1) refl;
    }
