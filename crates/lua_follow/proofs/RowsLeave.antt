-- Blocks end, and `break` and `return` leave them.
use Rattle.std.proofs.Common.{◌≡◌, ℕ, ◌+◌, ◌≤◌, ◌⊎◌, inl, inr, List, [], ◌∷◌, Option, refl, ap, arith}
use Rattle.lua_tree.specs.Source as source
use Rattle.lua_tree.specs.Source.{Text, Block, Exp, Exps, Suffixes, NoExp, MoreExps}
use Rattle.lua_code.specs.declared.op.Op.TheVariants as op
use Rattle.lua_code.specs.Valid.{IsValid}
use Rattle.lua_meaning.specs.State.{Env, Eval, Items, Lists, State, Context, Result, SuffixK, ReturnK}
use Rattle.lua_meaning.specs.Moves.{goes}
use Rattle.lua_meaning.specs.Statements.{returns}
use Rattle.lua_meaning.specs.Reduce.{leave}
use Rattle.lua_steps.specs.Machine.{Code, Machine, On}
use Rattle.lua_steps.specs.Run.{run}
use Rattle.lua_steps.specs.Scope.{Scope}
use Rattle.lua_steps.specs.Stand.{At, Anywhere, Shown, OfReg}
use Rattle.lua_steps.specs.Serves.{IsNoTail, IsOnly, IsFixed, IsList, IsTail}
use Rattle.lua_follow.specs.Spot.{Form, Exactly, OnList, Alone, Spot, SuffixS, ReturnS, TailS, CallS, contexts}
use Rattle.lua_follow.specs.Takes.{Ends}
use Rattle.lua_follow.specs.Memory.{view}
use Rattle.lua_follow.specs.Kept.{Kept}
use Rattle.lua_follow.proofs.Receives.{handed}
use Rattle.lua_follow.proofs.Branches.{put_at}
use Rattle.lua_follow.proofs.Firm.{Firm, shifted}
use Rattle.lua_follow.proofs.Scenes.{Scene}
use Rattle.lua_follow.proofs.Runs.{way, runs_op, runs_more}
use Rattle.lua_follow.proofs.RowsEval.{eval_stands}
use Rattle.lua_follow.proofs.RowsItems.{items_sim}
use Rattle.lua_follow.proofs.RowsStat.{scoped_in, none_alone, anywhere_not}
use Rattle.lua_follow.proofs.Sim.{Row, Sim, quiet, standing}

le_refl : (n : ℕ) → n ≤ n
le_refl n = omega arith

module _ (code : Code) (valid : IsValid code) (m : Machine) (s : State) (sc : Scope) (env : Env) where
  abbrev Leaves : List Spot → Type 0
  Leaves ks = Row code (Sim code) m s 0 (leave (contexts ks) env s)

  pub call_leave : (line : Option ℕ) (ks : List Spot) → Scene code m s (CallS line ∷ ks) sc env → Ends code m.top.function (CallS line ∷ ks) sc m.top.at → Leaves (CallS line ∷ ks)
  call_leave line ks h c =
      let w = way code m.top.function m.top.at _ c in
      let g = handed code (put_at w.at m) s h.homes h.owners [] (m.top.base + sc.free) (m.top.base + sc.free) h.memory (le_refl (m.top.base + sc.free)) h.beside m.top.base (CallS line ∷ ks) m.below (omega arith) tt h.below in
      quiet code (Sim code) m g.to s (record s { focus = Lists []; ks = contexts g.spots }) 0 (w.n + 1) _
      (runs_more code w.n 1 m (put_at w.at m) _ (w.runs m refl) (runs_op code (put_at w.at m) (op.Return w.holds.0 0) _ w.holds.1 g.does)) g.left (λ lt. ap (λ a. a.heap) g.aside) g.is refl
      (standing code g.to _ 0 g.spots refl g.stands)

  -- ---- `return`
  no_tail_step : (es : Exps) (u : State) (K : List Context) → IsNoTail es → returns es env u K ≡ goes u (Items es env []) (ReturnK ∷ K)
  no_tail_step NoExp u K h = refl
  no_tail_step (MoreExps (source.Suffixed e ss) NoExp) u K h = absurd h
  no_tail_step (MoreExps (source.Suffixed e ss) (MoreExps g es)) u K h = refl
  no_tail_step (MoreExps e es) u K h = refl

  module _ (ks : List Spot) (h : Scene code m s ks sc env) where
    abbrev Returned : Exps → Type 0
    Returned es = Row code (Sim code) m s 0 (returns es env s (contexts ks))

    abbrev firm : (form : Form) → Kept code h.homes h.owners (view m.top) m.row (ReturnS sc form ∷ ks) → Firm code m s (ReturnS sc form ∷ ks)
    firm form kept = record { homes = h.homes; owners = h.owners; memory = h.memory; kept = kept; below = h.below; room = h.room; beside = h.beside }

    tail_return : (es : Exps) → IsTail code m.top.function sc es m.top.at sc.free → Returned es
    tail_return NoExp c = absurd c
    tail_return (MoreExps (source.Suffixed e ss) NoExp) c =
        let js = SuffixS ss Result env sc ∷ TailS sc ∷ ks in
        quiet code (Sim code) m m s (record s { focus = Eval e env; ks = SuffixK ss Result env ∷ ReturnK ∷ contexts ks }) 0 0 _ refl refl (λ lt. refl) refl refl
        (standing code m _ 0 js refl
        (eval_stands code m s js e env sc
        (record {
          homes = h.homes;
          owners = h.owners;
          memory = h.memory;
          kept = (tt, scoped_in code m s ks sc env h, (h.inner.slots_out, h.inner.cells_out, h.round, h.kept));
          below = h.below;
          room = h.room;
          lists = h.lists;
          beside = h.beside;
        }) c (scoped_in code m s ks sc env h)))
    tail_return es c = absurd c

    only_no_tail : (es : Exps) (R : ℕ → Shown → Type 0) → IsOnly code m.top.function sc es m.top.at sc.free Anywhere R → IsNoTail es
    only_no_tail NoExp R c = absurd c
    only_no_tail (MoreExps (source.Suffixed e ss) NoExp) R c = absurd c.0
    only_no_tail (MoreExps e NoExp) R c = tt
    only_no_tail (MoreExps e (MoreExps g es)) R c = absurd c

    fixed_no_tail : (es : Exps) (K : ℕ → ℕ → Type 0) → IsFixed code m.top.function sc es m.top.at sc.free K → IsNoTail es
    fixed_no_tail NoExp K c = tt
    fixed_no_tail (MoreExps (source.Suffixed e ss) NoExp) K c = absurd c.0
    fixed_no_tail (MoreExps (source.Suffixed e ss) (MoreExps g es)) K c = tt
    fixed_no_tail (MoreExps e es) K c = tt

    on_items : (es : Exps) (form : Form) (n : ℕ) (to : Machine) → IsNoTail es → run n code m ≡ On to → to.left ≡ m.left → to.aside ≡ m.aside → Sim code to (record s { focus = Items es env []; ks = contexts (ReturnS sc form ∷ ks) }) 0 → Returned es
    on_items es form n to plain runs left same sim =
        quiet code (Sim code) m to s (record s { focus = Items es env []; ks = contexts (ReturnS sc form ∷ ks) }) 0 n _ runs left (λ lt. ap (λ a. a.heap) same) (no_tail_step es s (contexts ks) plain) refl sim

    pub return_stat : (es : Exps)
        → IsTail code m.top.function sc es m.top.at sc.free
        ⊎ IsOnly code m.top.function sc es m.top.at sc.free Anywhere (λ b p. OfReg p (λ r. At code m.top.function b (op.Return r 1)))
        ⊎ IsFixed code m.top.function sc es m.top.at sc.free (λ b j. (n : ℕ) × (j ≡ sc.free + n) × At code m.top.function b (op.Return sc.free n))
        ⊎ (IsNoTail es × At code m.top.function m.top.at op.Begin × IsList code m.top.function sc es (m.top.at + 1) sc.free (λ b. At code m.top.function b op.ReturnList)) → Returned es
    return_stat es (inl c) = tail_return es c
    return_stat es (inr (inl c)) =
        on_items es (Alone Anywhere sc.free) 0 m (only_no_tail es _ c) refl refl refl
        (items_sim code valid m s (ReturnS sc (Alone Anywhere sc.free) ∷ ks) (firm (Alone Anywhere sc.free) (h.inner.slots_out, h.inner.cells_out, h.round, refl, h.kept)) env sc (scoped_in code m s ks sc env h) [] refl es
        (Alone Anywhere sc.free) (none_alone m Anywhere sc.free anywhere_not) (le_refl sc.free) h.lists c)
    return_stat es (inr (inr (inl c))) =
        on_items es (Exactly sc.free) 0 m (fixed_no_tail es _ c) refl refl refl
        (items_sim code valid m s (ReturnS sc (Exactly sc.free) ∷ ks) (firm (Exactly sc.free) (h.inner.slots_out, h.inner.cells_out, h.round, refl, h.kept)) env sc (scoped_in code m s ks sc env h) [] refl es
        (Exactly sc.free) (omega arith, refl) (le_refl sc.free) h.lists c)
    return_stat es (inr (inr (inr c))) =
        let to = shifted m (m.top.at + 1) ([] ∷ m.top.lists) m.row in
        on_items es (OnList sc.free) 1 to c.0 (runs_op code m op.Begin _ c.1 refl) refl refl
        (items_sim code valid to s (ReturnS sc (OnList sc.free) ∷ ks)
        (record { homes = h.homes; owners = h.owners; memory = h.memory; kept = (h.inner.slots_out, h.inner.cells_out, h.round, refl, h.kept); below = h.below; room = h.room; beside = h.beside }) env sc (scoped_in code m s ks sc env h) [] refl es
        (OnList sc.free) refl (le_refl sc.free) (ap (λ ls. [] ∷ ls) h.lists) c.2)
