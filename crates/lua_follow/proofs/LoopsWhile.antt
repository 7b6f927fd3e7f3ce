-- Rows of `while` (manual, section 3.3.4).
use Rattle.std.proofs.Common.{◌≡◌, ℕ, List, ◌∷◌, refl, sym, ap, ◌∙◌, subst}
use Rattle.lua_tree.specs.Source.{Block, Exp}
use Rattle.lua_value.specs.declared.value.Value.{Value}
use Rattle.lua_value.specs.Same.{is_true}
use Rattle.lua_meaning.specs.State.{Env, Eval, Gives, Run, State, Step, WhileLoopK}
use Rattle.lua_meaning.specs.Loops.{while_turn}
use Rattle.lua_meaning.specs.Reduce.{leave}
use Rattle.lua_steps.specs.Machine.{Code, Machine, On}
use Rattle.lua_steps.specs.Scope.{Scope}
use Rattle.lua_steps.specs.Stand.{Leads, Ticks, Decided}
use Rattle.lua_steps.specs.Serves.{IsExp, IsBlock}
use Rattle.lua_follow.specs.Spot.{Spot, WhileS, WhileLoopS, contexts}
use Rattle.lua_follow.specs.Takes.{Takes, Ends, Exits}
use Rattle.lua_follow.specs.Stands.{Stands, ahead}
use Rattle.lua_follow.proofs.Branches.{Branched, holds, fails, branched, put_at}
use Rattle.lua_follow.proofs.RowsEval.{eval_stands}
use Rattle.lua_follow.proofs.Runs.{way}
use Rattle.lua_follow.proofs.Scenes.{Scene, run_stands}
use Rattle.lua_follow.proofs.Prefix.{row_before}
use Rattle.lua_follow.proofs.Loops.{scene_at, scene_outside, scene_inside, steady_inside, scoped_inside, block_row}
use Rattle.lua_follow.proofs.TicksPaid.{settled_row}
use Rattle.lua_follow.proofs.Sim.{Row, Sim, quiet, standing}

module _ (code : Code) (m : Machine) (s : State) (ks : List Spot) (e : Exp) (body rest : Block) (env : Env) (sc : Scope) where
  abbrev After : ℕ → Type 0
  After y = IsBlock code m.top.function sc rest 0 y (Exits code m.top.function ks) (Ends code m.top.function ks)

  -- the condition is looked at
  condition : (c l i : ℕ) → Scene code m s ks sc env → IsExp code m.top.function sc e c sc.free Decided (Takes code m.top.function (WhileS e body rest env sc c ∷ ks))
      → Stands code (record (put_at c m) { left = l }) (record s { focus = Eval e env; ks = contexts (WhileS e body rest env sc c ∷ ks); left = i }) (WhileS e body rest env sc c ∷ ks) 0
  condition c l i h is =
      let g = scene_at code m s ks sc env c l i h in
      let inside = WhileS e body rest env sc c ∷ ks in
      eval_stands code (record (put_at c m) { left = l }) (record s { left = i }) inside e env sc
      (steady_inside code (record (put_at c m) { left = l }) (record s { left = i }) inside ks sc env g refl (g.inner, g.round, is, g.kept) g.below refl) is
      (scoped_inside code (record (put_at c m) { left = l }) (record s { left = i }) inside ks sc env g refl refl)

  -- a turn, or the end
  by_branch : (k c : ℕ) (v : Value) (r : Step) → Scene code m s ks sc env → (p : _) → k ≡ ahead p → IsExp code m.top.function sc e c sc.free Decided (Takes code m.top.function (WhileS e body rest env sc c ∷ ks))
      → r ≡ while_turn (is_true v) e body rest env s (contexts ks)
      → Branched code m p v
      (λ n j. Ticks code m.top.function n j (λ i y. IsBlock code m.top.function sc body i y (λ z. Leads code m.top.function z After) (λ end z. Leads code m.top.function z (λ y. y ≡ c))))
      (λ z. Leads code m.top.function z After)
      → Row code (Sim code) m s k r
  by_branch k c v r h p same is step (holds n a t runs ticks) =
      subst (λ i. Row code (Sim code) m s i r) (sym same)
      (subst (λ x. Row code (Sim code) m s (ahead p) x) (sym (step ∙ ap (λ b. while_turn b e body rest env s (contexts ks)) t))
      (row_before code (Sim code) m (put_at a m) s (ahead p) n _ runs refl refl
      (settled_row code (Sim code) (put_at a m) s (Run body env) (WhileLoopK e body rest env ∷ contexts ks) (ahead p) _ h.beside.heap ticks
      (λ j y block.
      record {
        n = 0;
        to = put_at y m;
        runs = λ l. refl;
        heap = refl;
        stands = λ l i.
            (let g = scene_at code m s ks sc env y l i h in
            let inside = WhileLoopS e body rest env sc c ∷ ks in
            standing code _ _ j inside refl
            (run_stands code (record (put_at y m) { left = l }) (record s { left = i }) inside sc env body j
            (scene_inside code (record (put_at y m) { left = l }) (record s { left = i }) inside ks sc env g refl refl g.round (g.inner, g.round, is, g.kept) g.below refl) block));
      }))))
  by_branch k c v r h p same is step (fails n a t runs none leads) =
      block_row code m s ks sc env rest n a k r h runs leads (same ∙ none) (step ∙ ap (λ b. while_turn b e body rest env s (contexts ks)) t)

  pub while_gives : (c : ℕ) (v : Value) (k : ℕ) → Stands code m (record s { focus = Gives v; ks = contexts (WhileS e body rest env sc c ∷ ks) }) (WhileS e body rest env sc c ∷ ks) k
      → Row code (Sim code) m s k (while_turn (is_true v) e body rest env s (contexts ks))
  while_gives c v k h =
      by_branch k c v _
      (record { homes = h.homes; owners = h.owners; memory = h.here.7; inner = h.kept.0; round = h.kept.1; kept = h.kept.3; below = h.below; room = h.room; lists = h.here.6; beside = h.beside })
      h.here.0 h.here.5 h.kept.2 refl (branched code m v _ _ h.here.0 h.here.2 h.here.1)

  -- the end of a turn
  pub while_ends : (c : ℕ) (low : Scope) (end : Env) → Scene code m s (WhileLoopS e body rest env sc c ∷ ks) low end → Ends code m.top.function (WhileLoopS e body rest env sc c ∷ ks) low m.top.at
      → Row code (Sim code) m s 0 (leave (contexts (WhileLoopS e body rest env sc c ∷ ks)) end s)
  while_ends c low end h leads =
      let w = way code m.top.function m.top.at _ leads in
      let g = scene_outside code m s (WhileLoopS e body rest env sc c ∷ ks) ks low sc end env h h.kept.0 h.kept.1 h.kept.3 h.below refl h.inner.slots_out in
      quiet code (Sim code) m (put_at c m) s (record s { focus = Eval e env; ks = contexts (WhileS e body rest env sc c ∷ ks) }) 0 w.n _ (w.runs m refl ∙ ap (λ a. On (put_at a m)) w.holds) refl (λ lt. refl) refl refl
      (standing code _ _ 0 (WhileS e body rest env sc c ∷ ks) refl (condition c m.left s.left g h.kept.2))
