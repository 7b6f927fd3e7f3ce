-- Chains of operators.
use Rattle.std.proofs.Common.{◌≡◌, ℕ, ◌+◌, ◌⊎◌, inl, inr, List, ◌∷◌, refl, sym, ap, ◌∙◌, subst}
use Rattle.std.specs.Prelude.{true, false, if◌then◌else◌}
use Rattle.lua_tree.specs.Source.{Exp, Operands, NoOperand, MoreOperands}
use Rattle.lua_value.specs.declared.value.Value.{Value}
use Rattle.lua_value.specs.Same.{is_true}
use Rattle.lua_model.specs.declared.operator.Binary.{Binary}
use Rattle.lua_code.specs.Valid.{IsValid}
use Rattle.lua_meaning.specs.State.{Env, Eval, Gives, State, Step, Next, ChainK}
use Rattle.lua_meaning.specs.Moves as meaning_moves
use Rattle.lua_meaning.specs.Values.{Link, Both, Either, Strict, link_of, chained, linked}
use Rattle.lua_steps.specs.Machine.{Code, Machine, On}
use Rattle.lua_steps.specs.Exec.{line}
use Rattle.lua_steps.specs.Run.{run}
use Rattle.lua_steps.specs.Scope.{Scope}
use Rattle.lua_steps.specs.Stand.{AtSome, Leads, Target, Into, Anywhere, Decided, Shown, Reg, Imm, Not, Holds, Fails, register, IsThere, WhereDecided, Branch, IsOperand, IsBinary, test_op, linked_as, so_far}
use Rattle.lua_steps.specs.Serves.{IsExp, IsOperands}
use Rattle.lua_follow.specs.Spot.{Spot, ChainS, OperandS, contexts, free, target}
use Rattle.lua_follow.specs.Takes.{Takes}
use Rattle.lua_follow.specs.Memory.{view}
use Rattle.lua_follow.specs.Kept.{Shows, Under, Scoped, floor, cells_in}
use Rattle.lua_follow.specs.Stands.{ahead}
use Rattle.lua_follow.proofs.Gives.{Steady, shown_stands, there_decided}
use Rattle.lua_follow.proofs.Branches.{Branched, holds, fails, branched, put_at}
use Rattle.lua_follow.proofs.RowsEval.{eval_stands}
use Rattle.lua_follow.proofs.Sim.{Row, Sim, quiet, standing}

-- the machine is at another place, with other ticks
abbrev pub steady_at : (code : Code) (m : Machine) (s : State) (ks : List Spot) (a l : ℕ) → Steady code m s ks → Steady code (record m { top = record m.top { at = a }; left = l }) s ks
steady_at code m s ks a l h =
    record { homes = h.homes; owners = h.owners; memory = h.memory; kept = h.kept; below = h.below; room = h.room; lists = h.lists; beside = h.beside }

-- the machine goes to a place, and an expression is worked on
pub eval_there : (code : Code) (m : Machine) (s : State) (ks : List Spot) (n a : ℕ) (e : Exp) (env : Env) (sc : Scope) (k : ℕ) (r : Step) → (h : Steady code m s ks) → run n code m ≡ On (put_at a m)
    → IsExp code m.top.function sc e a (free ks) (target ks) (Takes code m.top.function ks) → Scoped h.homes h.owners (view m.top) sc env (floor ks) (cells_in ks) → k ≡ 0
    → r ≡ Next (record s { focus = Eval e env; ks = contexts ks }) → Row code (Sim code) m s k r
eval_there code m s ks n a e env sc k r h runs is scoped none step =
    subst (λ i. Row code (Sim code) m s i r) (sym none)
    (quiet code (Sim code) m (put_at a m) s (record s { focus = Eval e env; ks = contexts ks }) 0 n r runs refl (λ lt. refl) step refl
    (standing code _ _ 0 ks refl (eval_stands code (put_at a m) s ks e env sc (steady_at code m s ks a m.left h) is scoped)))

-- or a value is there
pub gives_there : (code : Code) (m : Machine) (s : State) (ks : List Spot) (n a : ℕ) (p : Shown) (v : Value) (k : ℕ) (r : Step) → Steady code m s ks → run n code m ≡ On (put_at a m) → Takes code m.top.function ks a p
    → Shows (view m.top) m.row p v → IsThere (target ks) p → Under (free ks + 1) p → k ≡ ahead p → r ≡ Next (record s { focus = Gives v; ks = contexts ks }) → Row code (Sim code) m s k r
gives_there code m s ks n a p v k r h runs takes shows there under same step =
    subst (λ i. Row code (Sim code) m s i r) (sym same)
    (quiet code (Sim code) m (put_at a m) s (record s { focus = Gives v; ks = contexts ks }) (ahead p) n r runs refl (λ lt. refl) step refl
    (standing code _ _ (ahead p) ks refl (shown_stands code (put_at a m) s ks p v (steady_at code m s ks a m.left h) takes shows there under)))

module _ (code : Code) (valid : IsValid code) (m : Machine) (s : State) (ks : List Spot) (h : Steady code m s ks) (env : Env) (sc : Scope) (scoped : Scoped h.homes h.owners (view m.top) sc env (floor ks) (cells_in ks)) where
  abbrev d : ℕ
  d = free ks

  abbrev Ops : Operands → ℕ → Shown → Type 0
  Ops os a p = IsOperands code m.top.function sc os a d p (target ks) (Takes code m.top.function ks)

  -- the chain goes on
  abbrev on_chain : (os : Operands) (how : Target) → register how d ≡ d → Steady code m s (ChainS os env sc how ∷ ks)
  on_chain os how same =
      record { homes = h.homes; owners = h.owners; memory = h.memory; kept = (same, scoped, h.kept); below = h.below; room = h.room; lists = h.lists; beside = h.beside }

  -- the next operand
  operand : (e : Exp) (os : Operands) (how : Target) (n a k : ℕ) (r : Step) → register how d ≡ d → run n code m ≡ On (put_at a m) → k ≡ 0 → IsExp code m.top.function sc e a d how (λ c q. Ops os c q)
      → r ≡ Next (record s { focus = Eval e env; ks = ChainK os env ∷ contexts ks }) → Row code (Sim code) m s k r
  operand e os how n a k r same runs none is step = eval_there code m s (ChainS os env sc how ∷ ks) n a e env sc k r (on_chain os how same) runs is scoped none step

  so_far_there : (os : Operands) (n a : ℕ) (p : Shown) (v : Value) (k : ℕ) (r : Step) → run n code m ≡ On (put_at a m) → Ops os a p → Shows (view m.top) m.row p v → Under (d + 1) p → k ≡ ahead p
      → r ≡ Next (record s { focus = Gives v; ks = ChainK os env ∷ contexts ks }) → Row code (Sim code) m s k r
  so_far_there os n a p v k r runs is shows under same step = gives_there code m s (ChainS os env sc Decided ∷ ks) n a p v k r (on_chain os Decided refl) runs is shows tt under same step

  both_row : (line : ℕ) (e : Exp) (os : Operands) (p : Shown) (v : Value) (how : Target) (x : Shown) → register how d ≡ d → Under (d + 1) x → (is_true v ≡ false → Shows (view m.top) m.row x v) → ahead x ≡ 0
      → Branched code m p v (λ k b. (k ≡ 0) × IsExp code m.top.function sc e b d how (λ c q. Ops os c q)) (λ b. Ops os b x) → Row code (Sim code) m s (ahead p) (linked Both line e os env v s (contexts ks))
  both_row line e os p v how x same under shows none (holds n a t runs is) =
      operand e os how n a (ahead p) _ same runs is.0 is.1 (ap (λ b. if b then meaning_moves.goes s (Eval e env) (ChainK os env ∷ contexts ks) else meaning_moves.goes s (Gives v) (ChainK os env ∷ contexts ks)) t)
  both_row line e os p v how x same under shows none (fails n a t runs zeros is) =
      so_far_there os n a x v (ahead p) _ runs is (shows t) under (zeros ∙ sym none) (ap (λ b. if b then meaning_moves.goes s (Eval e env) (ChainK os env ∷ contexts ks) else meaning_moves.goes s (Gives v) (ChainK os env ∷ contexts ks)) t)

  either_row : (line : ℕ) (e : Exp) (os : Operands) (p : Shown) (v : Value) (how : Target) (x : ℕ → Shown) → register how d ≡ d → ((k : ℕ) → Under (d + 1) (x k)) → (is_true v ≡ true → (k : ℕ) → Shows (view m.top) m.row (x k) v)
      → ahead p ≡ ahead (x (ahead p)) → Branched code m p v (λ k b. Ops os b (x k)) (λ b. IsExp code m.top.function sc e b d how (λ c q. Ops os c q)) → Row code (Sim code) m s (ahead p) (linked Either line e os env v s (contexts ks))
  either_row line e os p v how x same under shows none (holds n a t runs is) =
      so_far_there os n a (x (ahead p)) v (ahead p) _ runs is (shows t (ahead p)) (under (ahead p)) none
      (ap (λ b. if b then meaning_moves.goes s (Gives v) (ChainK os env ∷ contexts ks) else meaning_moves.goes s (Eval e env) (ChainK os env ∷ contexts ks)) t)
  either_row line e os p v how x same under shows none (fails n a t runs zeros is) =
      operand e os how n a (ahead p) _ same runs zeros is
      (ap (λ b. if b then meaning_moves.goes s (Gives v) (ChainK os env ∷ contexts ks) else meaning_moves.goes s (Eval e env) (ChainK os env ∷ contexts ks)) t)

  abbrev BothCode : Exp → Operands → ℕ → Shown → Type 0
  BothCode e os a p =
      ((p ≡ Reg d) × Branch code m.top.function a p
      (λ k b. (k ≡ 0) × IsExp code m.top.function sc e b d (Into d) (λ c q. Ops os c q))
      (λ b. Ops os b p))
      ⊎ WhereDecided (target ks) (Branch code m.top.function a p
      (λ k b. (k ≡ 0) × IsExp code m.top.function sc e b d Decided (λ c q. Ops os c q))
      (λ b. Ops os b Fails))

  abbrev EitherCode : Exp → Operands → ℕ → Shown → Type 0
  EitherCode e os a p =
      ((p ≡ Reg d) × Branch code m.top.function a p
      (λ k b. Ops os b p)
      (λ b. IsExp code m.top.function sc e b d (Into d) (λ c q. Ops os c q)))
      ⊎ WhereDecided (target ks) (Branch code m.top.function a p
      (λ k b. Ops os b (Holds k))
      (λ b. IsExp code m.top.function sc e b d Decided (λ c q. Ops os c q)))

  abbrev StrictCode : ℕ → Exp → Operands → ℕ → Shown → Binary → Type 0
  StrictCode line e os a p u =
      IsOperand p × IsExp code m.top.function sc e a (d + 1) Anywhere (λ b q.
      (IsBinary code m.top.function b u (so_far os (target ks) d) p q line × Ops os (b + 1) (Reg (so_far os (target ks) d)))
      ⊎ WhereDecided (target ks) ((pay z : ℕ) × AtSome code m.top.function b (test_op u p q pay z) line
      × Leads code m.top.function (b + 1) (λ j. Ops os j (Holds pay))
      × Leads code m.top.function z (λ j. Ops os j Fails)))

  operand_none : (p : Shown) → IsOperand p → ahead p ≡ 0
  operand_none (Reg r) h = refl
  operand_none (Imm n) h = refl
  operand_none (Not r) h = absurd h
  operand_none (Holds pay) h = absurd h
  operand_none Fails h = absurd h

  link_row : (l : Link) (line : ℕ) (e : Exp) (os : Operands) (p : Shown) (v : Value) → Shows (view m.top) m.row p v → Under (d + 1) p
      → linked_as l (BothCode e os m.top.at p) (EitherCode e os m.top.at p) (StrictCode line e os m.top.at p) → Row code (Sim code) m s (ahead p) (linked l line e os env v s (contexts ks))
  link_row Both line e os p v shows under (inl c) =
      both_row line e os p v (Into d) p refl under (λ f. shows) (ap ahead c.0) (branched code m v _ _ p shows c.1)
  link_row Both line e os p v shows under (inr c) =
      both_row line e os p v Decided Fails refl tt (λ f. f) refl (branched code m v _ _ p shows ((there_decided (target ks) _ Fails c).1))
  link_row Either line e os p v shows under (inl c) =
      either_row line e os p v (Into d) (λ k. p) refl (λ k. under) (λ t k. shows) refl (branched code m v _ _ p shows c.1)
  link_row Either line e os p v shows under (inr c) =
      either_row line e os p v Decided Holds refl (λ k. tt) (λ t k. t) refl (branched code m v _ _ p shows ((there_decided (target ks) _ Fails c).1))
  link_row (Strict u) line e os p v shows under c =
      eval_there code m s (OperandS u line v os env sc p ∷ ks) 0 m.top.at e env sc (ahead p) _
      (record { homes = h.homes; owners = h.owners; memory = h.memory; kept = (shows, under, scoped, h.kept); below = h.below; room = h.room; lists = h.lists; beside = h.beside })
      refl c.1 scoped (operand_none p c.0) refl

  pub chain_gives : (os : Operands) (p : Shown) (v : Value) → Ops os m.top.at p → Shows (view m.top) m.row p v → Under (d + 1) p → Row code (Sim code) m s (ahead p) (chained os env v s (contexts ks))
  chain_gives NoOperand p v c shows under = gives_there code m s ks 0 m.top.at p v (ahead p) _ h refl c.1 shows c.0 under refl refl
  chain_gives (MoreOperands o line e os) p v c shows under = link_row (link_of o) line e os p v shows under c
