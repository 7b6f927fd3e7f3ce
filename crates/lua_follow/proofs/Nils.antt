-- Slots become nil; and lists in slots.
use Rattle.std.proofs.Common.{◌≡◌, ℕ, zero, suc, ◌+◌, ◌-◌, ◌<◌, ◌≤◌, ◌⊎◌, inl, inr, List, [], ◌∷◌, ◌++◌, length, refl, sym, ap, ◌∙◌, arith}
use Rattle.std.specs.Prelude.{slice_set, min}
use Rattle.lua_value.specs.declared.value.Value.{Value}
use Rattle.lua_value.specs.declared.value.Value.TheVariants as value
use Rattle.lua_value.specs.Lists.{value_at, adjusted}
use Rattle.lua_code.specs.declared.op.Op.TheVariants as op
use Rattle.lua_steps.specs.Machine.{Code, Machine, On}
use Rattle.lua_steps.specs.Moves.{values_from}
use Rattle.lua_steps.specs.Run.{run}
use Rattle.lua_steps.specs.Stand.{At, IsNils}
use Rattle.lua_follow.proofs.Lists.{length_set, value_set, value_other}
use Rattle.lua_follow.proofs.Runs.{runs_op, runs_more}

-- the machine with another row, at another place
abbrev pub moved : Machine → ℕ → List Value → Machine
moved m a row = record m { top = record m.top { at = a }; row = row }

-- n slots from r on are nil, and nothing else changes
pub record Nilled (code : Code) (m : Machine) (r n : ℕ) (R : ℕ → Type 0) : Type 0 where
  pub steps : ℕ
  pub at : ℕ
  pub row : List Value
  pub runs : run steps code m ≡ On (moved m at row)
  pub same : (p : ℕ) → (p < m.top.base + r) ⊎ (m.top.base + r + n ≤ p) → value_at row p ≡ value_at m.row p
  pub long : length row ≡ length m.row
  pub nils : values_from row (m.top.base + r) n ≡ adjusted n []
  pub holds : R at

pub nilled : (code : Code) (m : Machine) (r n : ℕ) (R : ℕ → Type 0) → ((i a : ℕ) → At code m.top.function a (op.Nil i) → m.top.base + i < length m.row) → IsNils code m.top.function r n m.top.at R
    → Nilled code m r n R
nilled code m r zero R long h =
    record { steps = 0; at = m.top.at; row = m.row; runs = refl; same = λ p o. refl; long = refl; nils = refl; holds = h }
nilled code m r (suc n) R long h =
    let line = slice_set m.row (m.top.base + r) value.Nil in
    let fits : length line ≡ length m.row = length_set m.row (m.top.base + r) value.Nil in
    let inside = long r m.top.at h.0 in
    let g = nilled code (moved m (m.top.at + 1) line) (r + 1) n R (λ i a e. (let lt = long i a e in omega (arith, fits, lt))) h.1 in
    let one : value_at g.row (m.top.base + r) ≡ value.Nil = g.same (m.top.base + r) (inl (omega arith)) ∙ value_set m.row (m.top.base + r) value.Nil inside in
    let place : m.top.base + (r + 1) ≡ m.top.base + r + 1 = omega arith in
    record {
      steps = 1 + g.steps;
      at = g.at;
      row = g.row;
      runs = runs_more code 1 g.steps m (moved m (m.top.at + 1) line) _ (runs_op code m (op.Nil r) _ h.0 refl) g.runs;
      same = λ p o. g.same p (further p o) ∙ value_other m.row (m.top.base + r) p value.Nil (λ e. differs p o e);
      long = g.long ∙ fits;
      nils = ap (λ v. v ∷ values_from g.row (m.top.base + r + 1) n) one ∙ ap (λ vs. value.Nil ∷ vs) (ap (λ i. values_from g.row i n) (sym place) ∙ g.nils);
      holds = g.holds;
    }
  where
    further : (p : ℕ) → (p < m.top.base + r) ⊎ (m.top.base + r + suc n ≤ p) → (p < m.top.base + (r + 1)) ⊎ (m.top.base + (r + 1) + n ≤ p)
    further p (inl lt) = inl (omega arith)
    further p (inr le) = inr (omega arith)

    differs : (p : ℕ) → (p < m.top.base + r) ⊎ (m.top.base + r + suc n ≤ p) → m.top.base + r ≡ p → ⊥
    differs p (inl lt) e = omega (arith, e)
    differs p (inr le) e = omega (arith, e)

-- ---- lists in slots
pub values_split : (row : List Value) (i a b : ℕ) → values_from row i (a + b) ≡ values_from row i a ++ values_from row (i + a) b
values_split row i zero b =
    let none : 0 + b ≡ b = omega arith in
    let here : i + 0 ≡ i = omega arith in
    ap (λ n. values_from row i n) none ∙ ap (λ j. values_from row j b) (sym here)
values_split row i (suc a) b =
    let more : suc a + b ≡ suc (a + b) = omega arith in
    let there : i + 1 + a ≡ i + suc a = omega arith in
    ap (λ n. values_from row i n) more ∙ ap (λ vs. value_at row i ∷ vs) (values_split row (i + 1) a b) ∙ ap (λ j. value_at row i ∷ (values_from row (i + 1) a ++ values_from row j b)) there

pub adjusted_split : (us vs : List Value) (n : ℕ) → adjusted n (us ++ vs) ≡ adjusted (min (length us) n) us ++ adjusted (n - length us) vs
adjusted_split [] vs n =
    let none : min 0 n ≡ 0 = omega arith in
    let all : n - 0 ≡ n = omega arith in
    sym (ap (λ i. adjusted i [] ++ adjusted (n - 0) vs) none ∙ ap (λ i. adjusted i vs) all)
adjusted_split (u ∷ us) vs zero =
    let none : min (suc (length us)) 0 ≡ 0 = omega arith in
    let left : 0 - suc (length us) ≡ 0 = omega arith in
    sym (ap (λ i. adjusted i (u ∷ us) ++ adjusted (0 - suc (length us)) vs) none ∙ ap (λ i. adjusted i vs) left)
adjusted_split (u ∷ us) vs (suc n) =
    let more : min (suc (length us)) (suc n) ≡ suc (min (length us) n) = omega arith in
    let less : suc n - suc (length us) ≡ n - length us = omega arith in
    ap (λ ws. u ∷ ws) (adjusted_split us vs n)
    ∙ sym (ap (λ i. adjusted i (u ∷ us) ++ adjusted (suc n - suc (length us)) vs) more ∙ ap (λ i. u ∷ (adjusted (min (length us) n) us ++ adjusted i vs)) less)

pub adjusted_all : (vs : List Value) → adjusted (length vs) vs ≡ vs
adjusted_all [] = refl
adjusted_all (v ∷ vs) = ap (λ ws. v ∷ ws) (adjusted_all vs)

-- the values so far, and those that come after them
pub filled : (row : List Value) (base r0 n0 : ℕ) (us vs : List Value) → values_from row (base + r0) (min (length us) n0) ≡ adjusted (min (length us) n0) us
    → values_from row (base + (r0 + min (length us) n0)) (n0 - length us) ≡ adjusted (n0 - length us) vs → values_from row (base + r0) n0 ≡ adjusted n0 (us ++ vs)
filled row base r0 n0 us vs e f =
    let all : n0 ≡ min (length us) n0 + (n0 - length us) = omega arith in
    let there : base + (r0 + min (length us) n0) ≡ base + r0 + min (length us) n0 = omega arith in
    ap (λ n. values_from row (base + r0) n) all ∙ values_split row (base + r0) (min (length us) n0) (n0 - length us)
    ∙ ap (λ ws. ws ++ values_from row (base + r0 + min (length us) n0) (n0 - length us)) e
    ∙ ap (λ ws. adjusted (min (length us) n0) us ++ ws) (ap (λ i. values_from row i (n0 - length us)) (sym there) ∙ f)
    ∙ sym (adjusted_split us vs n0)
