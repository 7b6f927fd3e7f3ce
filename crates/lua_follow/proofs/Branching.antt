-- Rows of `if` and of `break` (manual, section 3.3.4).
use Rattle.std.proofs.Common.{◌≡◌, ℕ, inl, List, ◌∷◌, refl, sym, ap, ◌∙◌, subst}
use Rattle.lua_tree.specs.Source.{Block, Exp, Branches, NoElse, Else, Elseif}
use Rattle.lua_value.specs.declared.value.Value.{Value}
use Rattle.lua_value.specs.Same.{is_true}
use Rattle.lua_meaning.specs.State.{Env, Eval, Gives, Run, State, IfK, BlockK}
use Rattle.lua_meaning.specs.Statements.{chosen, otherwise}
use Rattle.lua_meaning.specs.Reduce.{leave}
use Rattle.lua_steps.specs.Machine.{Code, Machine, On}
use Rattle.lua_steps.specs.Run.{run}
use Rattle.lua_steps.specs.Scope.{Scope}
use Rattle.lua_steps.specs.Stand.{Leads, Decided}
use Rattle.lua_steps.specs.Serves.{IsExp, IsBlock, IsElse}
use Rattle.lua_follow.specs.Spot.{Spot, IfS, BlockS, contexts}
use Rattle.lua_follow.specs.Takes.{Takes, Ends, Exits}
use Rattle.lua_follow.specs.Stands.{Stands, ahead}
use Rattle.lua_follow.proofs.Branches.{Branched, holds, fails, branched, put_at}
use Rattle.lua_follow.proofs.RowsEval.{eval_stands}
use Rattle.lua_follow.proofs.Scenes.{Scene, run_stands}
use Rattle.lua_follow.proofs.Loops.{scene_at, scene_outside, scene_inside, steady_inside, scoped_inside, block_row}
use Rattle.lua_follow.proofs.Sim.{Row, Sim, quiet, standing}

module _ (code : Code) (m : Machine) (s : State) (ks : List Spot) (rest : Block) (env : Env) (sc : Scope) where
  abbrev After : ℕ → Type 0
  After y = IsBlock code m.top.function sc rest 0 y (Exits code m.top.function ks) (Ends code m.top.function ks)

  abbrev Goes-on : Scope → ℕ → Type 0
  Goes-on sub b = IsBlock code m.top.function sub rest 0 b (Exits code m.top.function ks) (Ends code m.top.function ks)

  -- ---- a block inside
  in_block : (b : Block) (j a l i : ℕ) → Scene code m s ks sc env → IsBlock code m.top.function sc b j a (Exits code m.top.function ks) (λ end z. Leads code m.top.function z After)
      → Sim code (record (put_at a m) { left = l }) (record s { focus = Run b env; ks = BlockK rest env ∷ contexts ks; left = i }) j
  in_block b j a l i h is =
      let g = scene_at code m s ks sc env a l i h in
      let inside = BlockS rest env sc ∷ ks in
      standing code _ _ j inside refl
      (run_stands code (record (put_at a m) { left = l }) (record s { left = i }) inside sc env b j
      (scene_inside code (record (put_at a m) { left = l }) (record s { left = i }) inside ks sc env g refl refl g.round (g.inner, g.round, g.kept) g.below refl) is)

  pub block_ends : (low : Scope) (end : Env) → Scene code m s (BlockS rest env sc ∷ ks) low end → Ends code m.top.function (BlockS rest env sc ∷ ks) low m.top.at
      → Row code (Sim code) m s 0 (leave (contexts (BlockS rest env sc ∷ ks)) end s)
  block_ends low end h leads =
      block_row code m s ks sc env rest 0 m.top.at 0 _ (scene_outside code m s (BlockS rest env sc ∷ ks) ks low sc end env h h.kept.0 h.kept.1 h.kept.2 h.below refl h.inner.slots_out) refl leads refl refl

  -- ---- `if`
  condition : (e : Exp) (p : Block) (others : Branches) (a l i : ℕ) → Scene code m s ks sc env → IsExp code m.top.function sc e a sc.free Decided (Takes code m.top.function (IfS p others rest env sc ∷ ks))
      → Sim code (record (put_at a m) { left = l }) (record s { focus = Eval e env; ks = IfK p others rest env ∷ contexts ks; left = i }) 0
  condition e p others a l i h is =
      let g = scene_at code m s ks sc env a l i h in
      let inside = IfS p others rest env sc ∷ ks in
      standing code _ _ 0 inside refl
      (eval_stands code (record (put_at a m) { left = l }) (record s { left = i }) inside e env sc
      (steady_inside code (record (put_at a m) { left = l }) (record s { left = i }) inside ks sc env g refl (g.inner, g.round, g.kept) g.below refl) is
      (scoped_inside code (record (put_at a m) { left = l }) (record s { left = i }) inside ks sc env g refl refl))

  -- the other branches
  else_row : (others : Branches) (n a : ℕ) → Scene code m s ks sc env → run n code m ≡ On (put_at a m) → IsElse code m.top.function sc others a (Exits code m.top.function ks) Goes-on
      → Row code (Sim code) m s 0 (otherwise others rest env s (contexts ks))
  else_row NoElse n a h runs is = block_row code m s ks sc env rest n a 0 _ h runs (inl is) refl refl
  else_row (Else b) n a h runs is =
      quiet code (Sim code) m (put_at a m) s (record s { focus = Run b env; ks = BlockK rest env ∷ contexts ks }) 0 n _ runs refl (λ lt. refl) refl refl (in_block b 0 a m.left s.left h is)
  else_row (Elseif e b others) n a h runs is =
      quiet code (Sim code) m (put_at a m) s (record s { focus = Eval e env; ks = IfK b others rest env ∷ contexts ks }) 0 n _ runs refl (λ lt. refl) refl refl (condition e b others a m.left s.left h is)

  by_branch : (p : Block) (others : Branches) (k : ℕ) (v : Value) → Scene code m s ks sc env → (q : _) → k ≡ ahead q
      → Branched code m q v (λ n a. IsBlock code m.top.function sc p n a (Exits code m.top.function ks) (λ end z. Leads code m.top.function z After)) (λ z. IsElse code m.top.function sc others z (Exits code m.top.function ks) Goes-on)
      → Row code (Sim code) m s k (chosen (is_true v) p others rest env s (contexts ks))
  by_branch p others k v h q same (holds n a t runs is) =
      subst (λ i. Row code (Sim code) m s i (chosen (is_true v) p others rest env s (contexts ks))) (sym same)
      (quiet code (Sim code) m (put_at a m) s (record s { focus = Run p env; ks = BlockK rest env ∷ contexts ks }) (ahead q) n _ runs refl (λ lt. refl) (ap (λ b. chosen b p others rest env s (contexts ks)) t) refl
      (in_block p (ahead q) a m.left s.left h is))
  by_branch p others k v h q same (fails n a t runs none is) =
      subst (λ i. Row code (Sim code) m s i (chosen (is_true v) p others rest env s (contexts ks))) (sym (same ∙ none))
      (subst (λ x. Row code (Sim code) m s 0 x) (sym (ap (λ b. chosen b p others rest env s (contexts ks)) t)) (else_row others n a h runs is))

  pub if_gives : (p : Block) (others : Branches) (v : Value) (k : ℕ) → Stands code m (record s { focus = Gives v; ks = contexts (IfS p others rest env sc ∷ ks) }) (IfS p others rest env sc ∷ ks) k
      → Row code (Sim code) m s k (chosen (is_true v) p others rest env s (contexts ks))
  if_gives p others v k h =
      by_branch p others k v
      (record { homes = h.homes; owners = h.owners; memory = h.here.7; inner = h.kept.0; round = h.kept.1; kept = h.kept.2; below = h.below; room = h.room; lists = h.here.6; beside = h.beside })
      h.here.0 h.here.5 (branched code m v _ _ h.here.0 h.here.2 h.here.1)
