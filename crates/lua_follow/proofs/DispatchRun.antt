-- Expressions and blocks, whichever they are.
use Rattle.std.proofs.Common.{ℕ, List, [], ◌∷◌, sym, subst}
use Rattle.lua_tree.specs.Source as source
use Rattle.lua_tree.specs.Source.{Block, Plain, Returns, NoStat, MoreStats, Stat, Exp}
use Rattle.lua_code.specs.Valid.{IsValid}
use Rattle.lua_meaning.specs.State.{Env, Eval, Run, State}
use Rattle.lua_meaning.specs.Statements.{stat, returns}
use Rattle.lua_meaning.specs.Reduce.{reduce, leave, run}
use Rattle.lua_steps.specs.Machine.{Code, Machine}
use Rattle.lua_steps.specs.Scope.{Scope}
use Rattle.lua_steps.specs.Serves.{IsExp, IsBlock, IsStat}
use Rattle.lua_follow.specs.Spot.{Spot, BlockS, WhileLoopS, RepeatLoopS, NumericLoopS, GenericLoopS, CallS, contexts, free, target}
use Rattle.lua_follow.specs.Takes.{Takes, Ends, Exits}
use Rattle.lua_follow.specs.Memory.{view}
use Rattle.lua_follow.specs.Kept.{Scoped, floor, cells_in}
use Rattle.lua_follow.specs.Stands.{Stands}
use Rattle.lua_follow.proofs.Gives.{Steady}
use Rattle.lua_follow.proofs.Scenes.{Scene}
use Rattle.lua_follow.proofs.RowsEval.{nil_row, false_row, true_row, int_row, text_row, dots_row, name_row, paren_row, suffixed_row, unary_row, chain_row}
use Rattle.lua_follow.proofs.RowsClose.{function_row, local_function_stat}
use Rattle.lua_follow.proofs.RowsStat.{if_row, numeric_row, numeric_by_row, while_row, do_row, local_stat, generic_stat, assign_stat, invoke_stat}
use Rattle.lua_follow.proofs.RowsLeave.{call_leave, return_stat}
use Rattle.lua_follow.proofs.Branching.{block_ends}
use Rattle.lua_follow.proofs.LoopsWhile.{while_ends}
use Rattle.lua_follow.proofs.LoopsRepeat.{repeat_row, repeat_ends}
use Rattle.lua_follow.proofs.LoopsBreak.{break_row}
use Rattle.lua_follow.proofs.LoopsNumeric.{numeric_ends}
use Rattle.lua_follow.proofs.LoopsGeneric.{generic_ends}
use Rattle.lua_follow.proofs.Sim.{Row, Sim}

-- ---- expressions
module _ (code : Code) (valid : IsValid code) (m : Machine) (s : State) (ks : List Spot) (env : Env) (sc : Scope) (h : Steady code m s ks) (scoped : Scoped h.homes h.owners (view m.top) sc env (floor ks) (cells_in ks)) where
  abbrev Evaluated : Exp → State
  Evaluated e = record s { focus = Eval e env; ks = contexts ks }

  exp_row : (e : Exp) → IsExp code m.top.function sc e m.top.at (free ks) (target ks) (Takes code m.top.function ks) → Row code (Sim code) m (Evaluated e) 0 (reduce (Evaluated e))
  exp_row source.Nil c = nil_row code valid m s ks env sc h scoped c
  exp_row source.False c = false_row code valid m s ks env sc h scoped c
  exp_row source.True c = true_row code valid m s ks env sc h scoped c
  exp_row (source.Int n) c = int_row code valid m s ks env sc h scoped n c
  exp_row (source.Str bytes) c = text_row code valid m s ks env sc h scoped bytes c
  exp_row source.Dots c = dots_row code valid m s ks env sc h scoped c
  exp_row (source.Function p) c = function_row code valid m s ks env sc h scoped p c.0 c.1 c.2 c.3
  exp_row (source.Name x) c = name_row code valid m s ks env sc h scoped x c
  exp_row (source.Paren e) c = paren_row code valid m s ks env sc h scoped e c
  exp_row (source.Table fs) c = absurd c
  exp_row (source.Suffixed e ss) c = suffixed_row code valid m s ks env sc h scoped e ss c
  exp_row (source.Unary u line e) c = unary_row code valid m s ks env sc h scoped u line e c
  exp_row (source.Chain e os) c = chain_row code valid m s ks env sc h scoped e os c

pub eval_row : (code : Code) (valid : IsValid code) (m : Machine) (s : State) (k : ℕ) (ks : List Spot) (e : Exp) (env : Env) → Stands code m (record s { focus = Eval e env; ks = contexts ks }) ks k
    → Row code (Sim code) m (record s { focus = Eval e env; ks = contexts ks }) k (reduce (record s { focus = Eval e env; ks = contexts ks }))
eval_row code valid m s k ks e env h =
    let S : State = record s { focus = Eval e env; ks = contexts ks } in
    let g : Steady code m s ks = record { homes = h.homes; owners = h.owners; memory = h.here.5; kept = h.kept; below = h.below; room = h.room; lists = h.here.4; beside = h.beside } in
    subst (λ i. Row code (Sim code) m S i (reduce S)) (sym h.here.0) (exp_row code valid m s ks env h.here.1 g h.here.3 e h.here.2)

-- ---- blocks
module _ (code : Code) (valid : IsValid code) (m : Machine) (s : State) (sc : Scope) (env : Env) where
  -- a block has ended
  leave_row : (ks : List Spot) → Scene code m s ks sc env → Ends code m.top.function ks sc m.top.at → Row code (Sim code) m s 0 (leave (contexts ks) env s)
  leave_row [] h c = absurd h.round
  leave_row (BlockS rest outside out ∷ ks) h c = block_ends code m s ks rest outside out sc env h c
  leave_row (WhileLoopS e body rest outside out a ∷ ks) h c = while_ends code m s ks e body rest outside out a sc env h c
  leave_row (RepeatLoopS body e rest outside out j b ∷ ks) h c = repeat_ends code m s ks body e rest outside out j b sc env h c
  leave_row (NumericLoopS n at step x body rest outside out pay p ∷ ks) h c = numeric_ends code valid ks x body rest outside out m s n at step pay p sc env h c
  leave_row (GenericLoopS f state control xs body line rest outside out r pay b l ∷ ks) h c = generic_ends code valid ks xs body line rest outside out m s f state control r pay b l sc env h c
  leave_row (CallS line ∷ ks) h c = call_leave code valid m s sc env line ks h c
  leave_row (k ∷ ks) h c = absurd h.round

  abbrev Code-of : List Spot → Block → Stat → ℕ → Type 0
  Code-of ks rest t k = IsStat code m.top.function sc t k m.top.at (Exits code m.top.function ks) (λ next b. IsBlock code m.top.function next rest 0 b (Exits code m.top.function ks) (Ends code m.top.function ks))

  stat_row : (ks : List Spot) (rest : Block) (t : Stat) (k : ℕ) → Scene code m s ks sc env → Code-of ks rest t k → Row code (Sim code) m s k (stat t rest env s (contexts ks))
  stat_row ks rest (source.Assign ts es) k h c = assign_stat code valid m s ks sc env h rest ts es k c
  stat_row ks rest (source.Invoke e) k h c = invoke_stat code valid m s ks sc env h rest e k c
  stat_row ks rest source.Break k h c = break_row code m s k ks sc env rest h c
  stat_row ks rest (source.Do p) k h c = do_row code valid m s ks sc env h rest p k c
  stat_row ks rest (source.While e p) k h c = while_row code valid m s ks sc env h rest e p k c
  stat_row ks rest (source.Repeat p e) k h c = repeat_row code m s ks p e rest env sc k h c
  stat_row ks rest (source.If e p others) k h c = if_row code valid m s ks sc env h rest e p others k c
  stat_row ks rest (source.Numeric x first limit p line) k h c = numeric_row code valid m s ks sc env h rest x first limit p line k c
  stat_row ks rest (source.NumericBy x first limit step p line) k h c = numeric_by_row code valid m s ks sc env h rest x first limit step p line k c
  stat_row ks rest (source.Generic xs es p line) k h c = generic_stat code valid m s ks sc env h rest xs es p line k c
  stat_row ks rest (source.Local xs es) k h c = local_stat code valid m s ks sc env h rest xs es k c
  stat_row ks rest (source.LocalFunction x p) k h c = local_function_stat code valid m s ks sc env h rest x p k c

  block_row : (ks : List Spot) (b : Block) (k : ℕ) → Scene code m s ks sc env → IsBlock code m.top.function sc b k m.top.at (Exits code m.top.function ks) (Ends code m.top.function ks)
      → Row code (Sim code) m s k (run b env s (contexts ks))
  block_row ks (Plain NoStat) k h c = subst (λ i. Row code (Sim code) m s i (leave (contexts ks) env s)) (sym c.0) (leave_row ks h c.1)
  block_row ks (Plain (MoreStats t ts)) k h c = stat_row ks (Plain ts) t k h c
  block_row ks (Returns NoStat es) k h c = subst (λ i. Row code (Sim code) m s i (returns es env s (contexts ks))) (sym c.0) (return_stat code valid m s sc env ks h es c.1)
  block_row ks (Returns (MoreStats t ts) es) k h c = stat_row ks (Returns ts es) t k h c

pub run_row : (code : Code) (valid : IsValid code) (m : Machine) (s : State) (k : ℕ) (ks : List Spot) (b : Block) (env : Env) → Stands code m (record s { focus = Run b env; ks = contexts ks }) ks k
    → Row code (Sim code) m (record s { focus = Run b env; ks = contexts ks }) k (reduce (record s { focus = Run b env; ks = contexts ks }))
run_row code valid m s k ks b env h =
    block_row code valid m (record s { focus = Run b env; ks = contexts ks }) h.here.0 env ks b k
    (record { homes = h.homes; owners = h.owners; memory = h.here.5; inner = h.here.2; round = h.here.3; kept = h.kept; below = h.below; room = h.room; lists = h.here.4; beside = h.beside }) h.here.1
