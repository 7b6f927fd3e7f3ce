-- The row of `break` (manual, section 3.3.4).
use Rattle.std.proofs.Common.{◌≡◌, ℕ, zero, suc, ◌+◌, ◌⊎◌, inl, inr, List, [], ◌∷◌, Some, refl, sym, ap, subst, arith}
use Rattle.lua_tree.specs.Source as source
use Rattle.lua_tree.specs.Source.{Block}
use Rattle.lua_meaning.specs.State.{Env, Run, State}
use Rattle.lua_meaning.specs.Statements.{stat, out_of_loop, breaks}
use Rattle.lua_steps.specs.Machine.{Code, Machine}
use Rattle.lua_steps.specs.Scope.{Scope}
use Rattle.lua_steps.specs.Stand.{Leads, Tick}
use Rattle.lua_steps.specs.Serves.{IsBlock, IsStat}
use Rattle.lua_follow.specs.Spot.{Spot, BlockS, WhileLoopS, RepeatLoopS, NumericLoopS, GenericLoopS, CallS, contexts}
use Rattle.lua_follow.specs.Takes.{Ends, Exits}
use Rattle.lua_follow.proofs.Branches.{put_at}
use Rattle.lua_follow.proofs.Runs.{way, runs_more}
use Rattle.lua_follow.proofs.Scenes.{Scene, run_stands}
use Rattle.lua_follow.proofs.Loops.{scene_at, scene_outside}
use Rattle.lua_follow.proofs.TicksPaid.{settled_row}
use Rattle.lua_follow.proofs.Sim.{Row, Sim, standing}

-- what follows the innermost loop
pub record Outside (code : Code) (m : Machine) (s : State) (ks : List Spot) : Type 0 where
  pub after : Block
  pub env : Env
  pub sc : Scope
  pub spots : List Spot
  pub is : out_of_loop (contexts ks) ≡ Some (record { rest = after; env = env; ks = contexts spots })
  pub scene : Scene code m s spots sc env
  pub leads : (z : ℕ) → Exits code m.top.function ks z → Leads code m.top.function z (λ y. IsBlock code m.top.function sc after 0 y (Exits code m.top.function spots) (Ends code m.top.function spots))

module _ (code : Code) (m : Machine) (s : State) where
  abbrev Never : List Spot → Type 0
  Never ks = (z : ℕ) → Exits code m.top.function ks z → ⊥

  past_block : (after : Block) (env : Env) (sc : Scope) (ks : List Spot) → Outside code m s ks ⊎ Never ks → Outside code m s (BlockS after env sc ∷ ks) ⊎ Never (BlockS after env sc ∷ ks)
  past_block after env sc ks (inl o) = inl (record { after = o.after; env = o.env; sc = o.sc; spots = o.spots; is = o.is; scene = o.scene; leads = λ z x. o.leads z x })
  past_block after env sc ks (inr no_loop) = inr (λ z x. no_loop z x)

  outside : (ks : List Spot) (low : Scope) (end : Env) → Scene code m s ks low end → Outside code m s ks ⊎ Never ks
  outside [] low end h = absurd h.round
  outside (BlockS after env sc ∷ ks) low end h =
      past_block after env sc ks (outside ks sc env (scene_outside code m s (BlockS after env sc ∷ ks) ks low sc end env h h.kept.0 h.kept.1 h.kept.2 h.below refl h.inner.slots_out))
  outside (WhileLoopS e body after env sc c ∷ ks) low end h =
      inl (record {
        after = after;
        env = env;
        sc = sc;
        spots = ks;
        is = refl;
        scene = scene_outside code m s (WhileLoopS e body after env sc c ∷ ks) ks low sc end env h h.kept.0 h.kept.1 h.kept.3 h.below refl h.inner.slots_out;
        leads = λ z x. x;
      })
  outside (RepeatLoopS body e after env sc j b ∷ ks) low end h =
      inl (record {
        after = after;
        env = env;
        sc = sc;
        spots = ks;
        is = refl;
        scene = scene_outside code m s (RepeatLoopS body e after env sc j b ∷ ks) ks low sc end env h h.kept.0 h.kept.1 h.kept.3 h.below refl h.inner.slots_out;
        leads = λ z x. x;
      })
  outside (NumericLoopS n at step x body after env sc pay p ∷ ks) low end h =
      inl (record {
        after = after;
        env = env;
        sc = sc;
        spots = ks;
        is = refl;
        scene = scene_outside code m s (NumericLoopS n at step x body after env sc pay p ∷ ks) ks low sc end env h h.kept.0 h.kept.1 h.kept.7 h.below refl (let up = h.inner.slots_out in omega (arith, up));
        leads = λ z x. x;
      })
  outside (GenericLoopS f state control xs body line after env sc r pay b l ∷ ks) low end h =
      inl (record {
        after = after;
        env = env;
        sc = sc;
        spots = ks;
        is = refl;
        scene = scene_outside code m s (GenericLoopS f state control xs body line after env sc r pay b l ∷ ks) ks low sc end env h h.kept.0 h.kept.1 h.kept.6 h.below refl (let up = h.inner.slots_out in omega (arith, up));
        leads = λ z x. x;
      })
  outside (CallS line ∷ ks) low end h = inr (λ z x. x)
  outside (k ∷ ks) low end h = absurd h.round

  never_leads : (a : ℕ) (ks : List Spot) → Never ks → Leads code m.top.function a (Exits code m.top.function ks) → ⊥
  never_leads a ks no_loop (inl x) = no_loop a x
  never_leads a ks no_loop (inr x) = no_loop x.0 x.2

  never_ticks : (k a : ℕ) (ks : List Spot) → Never ks → Tick code m.top.function k a (λ b. Leads code m.top.function b (Exits code m.top.function ks)) → ⊥
  never_ticks (suc k) a ks no_loop c = never_leads a ks no_loop c.1
  never_ticks zero a ks no_loop (inl c) = never_leads (a + 1) ks no_loop c.2.1
  never_ticks zero a ks no_loop (inr c) = never_leads c.1 ks no_loop c.3.1

  by_loop : (k : ℕ) (ks : List Spot) (low : Scope) (end : Env) (rest : Block) → Scene code m s ks low end → Tick code m.top.function k m.top.at (λ b. Leads code m.top.function b (Exits code m.top.function ks))
      → Outside code m s ks ⊎ Never ks → Row code (Sim code) m s k (stat source.Break rest end s (contexts ks))
  by_loop k ks low end rest h c (inr no_loop) = absurd (never_ticks k m.top.at ks no_loop c)
  by_loop k ks low end rest h c (inl o) =
      subst (λ x. Row code (Sim code) m s k x) (sym (ap (λ x. breaks x s) o.is))
      (settled_row code (Sim code) m s (Run o.after o.env) (contexts o.spots) k _ h.beside.heap c
      (λ j a d.
      let w = way code m.top.function a _ d.1 in
      let v = way code m.top.function w.at _ (o.leads w.at w.holds) in
      record {
        n = w.n + v.n;
        to = put_at v.at m;
        runs = λ l. runs_more code w.n v.n (record (put_at a m) { left = l }) (record (put_at w.at m) { left = l }) _ (w.runs (record m { left = l }) refl) (v.runs (record m { left = l }) refl);
        heap = refl;
        stands = λ l i. subst (λ x. Sim code (record (put_at v.at m) { left = l }) (record s { focus = Run o.after o.env; ks = contexts o.spots; left = i }) x) (sym d.0)
            (standing code _ _ 0 o.spots refl (run_stands code (record (put_at v.at m) { left = l }) (record s { left = i }) o.spots o.sc o.env o.after 0 (scene_at code m s o.spots o.sc o.env v.at l i o.scene) v.holds));
      }))

  pub break_row : (k : ℕ) (ks : List Spot) (sc : Scope) (env : Env) (rest : Block) → Scene code m s ks sc env
      → IsStat code m.top.function sc source.Break k m.top.at (Exits code m.top.function ks) (λ next b. IsBlock code m.top.function next rest 0 b (Exits code m.top.function ks) (Ends code m.top.function ks))
      → Row code (Sim code) m s k (stat source.Break rest env s (contexts ks))
  break_row k ks sc env rest h c = by_loop k ks sc env rest h c (outside ks sc env h)
