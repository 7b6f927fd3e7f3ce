-- Locals are made of values in slots.
use Rattle.std.proofs.Common.{◌≡◌, ℕ, suc, ◌+◌, inl, inr, List, [], ◌∷◌, ◌++◌, length, refl, ap, ◌∙◌, arith}
use Rattle.std.specs.Prelude.{drop}
use Rattle.lua_tree.specs.Source.{Text, Block}
use Rattle.lua_value.specs.declared.value.Value.{Value}
use Rattle.lua_value.specs.Lists.{value_at, adjusted, first}
use Rattle.lua_code.specs.declared.op.Op.TheVariants as op
use Rattle.lua_code.specs.Valid.{IsValid}
use Rattle.lua_meaning.specs.State.{Env, Run, Declares, State}
use Rattle.lua_meaning.specs.Moves.{bound}
use Rattle.lua_steps.specs.Machine.{Code, Machine}
use Rattle.lua_steps.specs.Moves.{values_from, next}
use Rattle.lua_steps.specs.Exec.{new_cell}
use Rattle.lua_steps.specs.Scope.{Scope, in_slot, in_cell, past}
use Rattle.lua_steps.specs.Stand.{IsDeclares}
use Rattle.lua_steps.specs.Serves.{IsBlock}
use Rattle.lua_follow.specs.Spot.{Spot, contexts}
use Rattle.lua_follow.specs.Takes.{Ends, Exits}
use Rattle.lua_follow.specs.Memory.{view}
use Rattle.lua_follow.proofs.Frames.{fits_at}
use Rattle.lua_follow.proofs.Scenes.{Scene, run_stands, scene_slot, scene_cell, boxed, adjusted_first, head_is, tail_is}
use Rattle.lua_follow.proofs.Runs.{runs_op}
use Rattle.lua_follow.proofs.Sim.{Near, quiet, near}

-- what comes after the locals
abbrev pub Then : Code → ℕ → List Spot → Block → ℕ → Scope → ℕ → Type 0
Then code f ks b k next a = IsBlock code f next b k a (Exits code f ks) (Ends code f ks)

module _ (code : Code) (valid : IsValid code) (ks : List Spot) (b : Block) (k : ℕ) where
  -- one local more
  abbrev Rest : List Text → Type 0
  Rest xs =
      (m : Machine) (s : State) (vs : List Value) (sc : Scope) (env : Env) → Scene code m s ks sc env → IsDeclares code m.top.function sc xs m.top.at (Then code m.top.function ks b k)
      → values_from m.row (m.top.base + sc.free) (length xs) ≡ adjusted (length xs) vs → Near code (suc (length xs)) m (record s { focus = Declares xs vs b env; ks = contexts ks }) k

  one_more : (x : Text) (xs : List Text) → Rest xs → Rest (x ∷ xs)
  one_more x xs rec m s vs sc env h c values =
      let both : value_at m.row (m.top.base + sc.free) ∷ values_from m.row (m.top.base + sc.free + 1) (length xs) ≡ first vs ∷ adjusted (length xs) (drop 1 vs) = values ∙ adjusted_first (length xs) vs in
      let here : value_at m.row (m.top.base + sc.free) ≡ first vs = head_is _ _ _ _ both in
      let place : m.top.base + (sc.free + 1) ≡ m.top.base + sc.free + 1 = omega arith in
      let later : values_from m.row (m.top.base + (sc.free + 1)) (length xs) ≡ adjusted (length xs) (drop 1 vs) = ap (λ i. values_from m.row i (length xs)) place ∙ tail_is _ _ _ _ both in
      by_place c here later
    where
      from : State
      from = record s { focus = Declares (x ∷ xs) vs b env; ks = contexts ks }

      to : State
      to = record s { focus = Declares xs (drop 1 vs) b (bound x (length s.store) env); ks = contexts ks; store = s.store ++ first vs ∷ [] }

      by_place : IsDeclares code m.top.function sc (x ∷ xs) m.top.at (Then code m.top.function ks b k) → value_at m.row (m.top.base + sc.free) ≡ first vs
          → values_from m.row (m.top.base + (sc.free + 1)) (length xs) ≡ adjusted (length xs) (drop 1 vs) → Near code (suc (length (x ∷ xs))) m from k
      by_place (inl c) here later =
          inr (quiet code (Near code (suc (length xs))) m m from to k 0 _ refl refl (λ lt. refl) refl refl
          (rec m (record s { store = s.store ++ first vs ∷ [] }) (drop 1 vs) (in_slot x sc) (bound x (length s.store) env) (scene_slot code valid m s ks sc env h x (first vs) here) c later))
      by_place (inr c) here later =
          let fit = fits_at code (view m.top) m.row h.room m.top.at (op.NewCell sc.cells sc.free) valid c.0 in
          let inside = h.room.cells in
          inr (quiet code (Near code (suc (length xs))) m (boxed code valid m s ks sc env h x (first vs)) from to k 1 _
          (runs_op code m (op.NewCell sc.cells sc.free) _ c.0 (ap (λ v. next (new_cell sc.cells v m)) here)) refl (λ lt. refl) refl refl
          (rec (boxed code valid m s ks sc env h x (first vs)) (record s { store = s.store ++ first vs ∷ [] }) (drop 1 vs) (past 1 (in_cell x sc)) (bound x (length s.store) env)
          (scene_cell code valid m s ks sc env h x (first vs) (omega (arith, fit.0, inside))) c.1 later))

  pub declares_near : (xs : List Text) → Rest xs
  declares_near [] m s vs sc env h c values =
      inr (quiet code (Near code 0) m m (record s { focus = Declares [] vs b env; ks = contexts ks }) (record s { focus = Run b env; ks = contexts ks }) k 0 _ refl refl (λ lt. refl) refl refl
      (near code 0 m _ k ks refl (run_stands code m s ks sc env b k h c)))
  declares_near (x ∷ xs) m s vs sc env h c values = one_more x xs (declares_near xs) m s vs sc env h c values
