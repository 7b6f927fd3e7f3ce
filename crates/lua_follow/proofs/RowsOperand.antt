-- The right operand of an operator has come.
use Rattle.std.proofs.Common.{◌≡◌, ℕ, ◌+◌, ◌<◌, ◌⊎◌, inl, inr, List, ◌∷◌, length, Some, refl, sym, ap, ◌∙◌, subst, arith}
use Rattle.std.specs.Prelude.{Bool, true, false}
use Rattle.lua_tree.specs.Source.{Operands, NoOperand, MoreOperands}
use Rattle.lua_value.specs.declared.value.Value.{Value}
use Rattle.lua_value.specs.Same.{is_true}
use Rattle.lua_model.specs.declared.operator.Binary.{Binary}
use Rattle.lua_model.specs.declared.operator.Binary.TheVariants as binary_op
use Rattle.lua_model.specs.Answer as answer
use Rattle.lua_model.specs.Answer.{Answer}
use Rattle.lua_model.specs.Operators.{binary}
use Rattle.lua_code.specs.Valid.{IsValid}
use Rattle.lua_meaning.specs.State.{Env, Gives, State, Step, Next, ChainK}
use Rattle.lua_meaning.specs.Moves as meaning_moves
use Rattle.lua_steps.specs.Machine.{Code, Machine}
use Rattle.lua_steps.specs.Moves as moves
use Rattle.lua_steps.specs.Moves.{next, jump, with_slot}
use Rattle.lua_steps.specs.Exec.{line, unless, chosen}
use Rattle.lua_steps.specs.Run.{run}
use Rattle.lua_steps.specs.Scope.{Scope}
use Rattle.lua_steps.specs.Stand.{AtSome, Leads, Target, Anywhere, Decided, Shown, Reg, Imm, Not, Holds, Fails, register, WhereDecided, IsBinary, test_op, so_far}
use Rattle.lua_steps.specs.Serves.{IsOperands}
use Rattle.lua_follow.specs.Spot.{Spot, ChainS, contexts, free, target}
use Rattle.lua_follow.specs.Takes.{Takes}
use Rattle.lua_follow.specs.Memory.{view}
use Rattle.lua_follow.specs.Kept.{Shows, Scoped, floor, cells_in}
use Rattle.lua_follow.specs.Stands.{ahead}
use Rattle.lua_follow.proofs.Frames.{fits_at, slot_in}
use Rattle.lua_follow.proofs.Gives.{Steady, steady_beside, reg_stands, shown_stands, there_decided}
use Rattle.lua_follow.proofs.Runs.{Way, way, runs_op, runs_more}
use Rattle.lua_follow.proofs.Branches.{put_at}
use Rattle.lua_follow.proofs.Operators.{Answers, Tests, binary_does, test_does, test_old, is_test, IsOld}
use Rattle.lua_follow.proofs.Comes.{acts, answered_into, answered_comes, refused_comes, pays_ahead}
use Rattle.lua_follow.proofs.RowsOperator.{line_is}
use Rattle.lua_follow.proofs.RowsChain.{steady_at}
use Rattle.lua_follow.proofs.Sim.{Row, Near, Sim, Outcome, outcome_map, quiet, near, standing}

-- ---- an operator takes no value of which ticks were paid in advance
binary_plain : (code : Code) (f a : ℕ) (o : Binary) (r : ℕ) (p q : Shown) (line : ℕ) → IsBinary code f a o r p q line → ahead q ≡ 0
binary_plain code f a o r p (Reg y) line h = refl
binary_plain code f a o r p (Imm n) line h = refl
binary_plain code f a o r p (Not y) line h = refl
binary_plain code f a o r p Fails line h = refl
binary_plain code f a o r (Reg x) (Holds pay) line h = absurd h
binary_plain code f a o r (Imm n) (Holds pay) line h = absurd h
binary_plain code f a o r (Not x) (Holds pay) line h = absurd h
binary_plain code f a o r (Holds x) (Holds pay) line h = absurd h
binary_plain code f a o r Fails (Holds pay) line h = absurd h

no_test : (code : Code) (f a : ℕ) (o : Binary) (p : Shown) (k pay z line : ℕ) → AtSome code f a (test_op o p (Holds k) pay z) line → ⊥
no_test code f a binary_op.Less (Reg x) k pay z line h = h
no_test code f a binary_op.Less (Imm n) k pay z line h = h
no_test code f a binary_op.LessEqual (Reg x) k pay z line h = h
no_test code f a binary_op.LessEqual (Imm n) k pay z line h = h
no_test code f a binary_op.Greater (Reg x) k pay z line h = h
no_test code f a binary_op.Greater (Imm n) k pay z line h = h
no_test code f a binary_op.GreaterEqual (Reg x) k pay z line h = h
no_test code f a binary_op.GreaterEqual (Imm n) k pay z line h = h
no_test code f a binary_op.Equal (Reg x) k pay z line h = h
no_test code f a binary_op.Equal (Imm n) k pay z line h = h
no_test code f a binary_op.NotEqual (Reg x) k pay z line h = h
no_test code f a binary_op.NotEqual (Imm n) k pay z line h = h
no_test code f a o p k pay z line h = h

test_plain : (code : Code) (f a : ℕ) (o : Binary) (p q : Shown) (pay z line : ℕ) → AtSome code f a (test_op o p q pay z) line → ahead q ≡ 0
test_plain code f a o p (Reg y) pay z line h = refl
test_plain code f a o p (Imm n) pay z line h = refl
test_plain code f a o p (Not y) pay z line h = refl
test_plain code f a o p Fails pay z line h = refl
test_plain code f a o p (Holds k) pay z line h = absurd (no_test code f a o p k pay z line h)

module _ (code : Code) (valid : IsValid code) (m : Machine) (s : State) (ks : List Spot) (h : Steady code m s ks) (env : Env) (sc : Scope) (scoped : Scoped h.homes h.owners (view m.top) sc env (floor ks) (cells_in ks)) where
  abbrev d : ℕ
  d = free ks

  abbrev Ops : Operands → ℕ → Shown → Type 0
  Ops os a p = IsOperands code m.top.function sc os a d p (target ks) (Takes code m.top.function ks)

  abbrev chain : (os : Operands) (how : Target) → register how d ≡ d → Steady code m s (ChainS os env sc how ∷ ks)
  chain os how same =
      record { homes = h.homes; owners = h.owners; memory = h.memory; kept = (same, scoped, h.kept); below = h.below; room = h.room; lists = h.lists; beside = h.beside }

  abbrev After : Operands → Binary → Value → Value → ℕ → Step
  After os o u v at = meaning_moves.answered (binary s.aside.heap.texts o u v) at s (ChainK os env ∷ contexts ks)

  -- ---- the value in a slot
  ran : (o : Binary) (r : ℕ) (u v : Value) (at : ℕ) → Answers code m o r u v at → run 1 code m ≡ moves.answered (binary s.aside.heap.texts o u v) r at m
  ran o r u v at x =
      runs_op code m x.op _ x.is.0
      (x.does ∙ ap (λ a. moves.answered a r (line code m) m) (x.same ∙ ap (λ b. binary b.texts o u v) h.beside.heap) ∙ ap (λ i. moves.answered (binary s.aside.heap.texts o u v) r i m) (line_is code m at x.is.1))

  inside : (o : Binary) (r : ℕ) (u v : Value) (at : ℕ) → Answers code m o r u v at → m.top.base + r < length m.row
  inside o r u v at x = slot_in code (view m.top) m.row h.room r (x.fits h.room.routine (fits_at code (view m.top) m.row h.room m.top.at x.op valid x.is.0))

  last_after : (o : Binary) (u v : Value) (at : ℕ) → Answers code m o (register (target ks) d) u v at → Takes code m.top.function ks (m.top.at + 1) (Reg (register (target ks) d)) → s.left ≡ m.left
      → Outcome code (Near code 1) m (After NoOperand o u v at)
  last_after o u v at x takes left =
      answered_into code (Near code 1) m s ks (register (target ks) d) (ChainK NoOperand env ∷ contexts ks) (binary s.aside.heap.texts o u v) at left h
      (λ w a b l e. inr (quiet code (Near code 0)
      (record (with_slot (register (target ks) d) w m) { top = record m.top { at = m.top.at + 1 }; left = l; aside = record m.aside { heap = a } })
      (record (with_slot (register (target ks) d) w m) { top = record m.top { at = m.top.at + 1 }; left = l; aside = record m.aside { heap = a } })
      (record s { focus = Gives w; ks = ChainK NoOperand env ∷ contexts ks; left = l; aside = record s.aside { heap = b } })
      (record s { focus = Gives w; ks = contexts ks; left = l; aside = record s.aside { heap = b } }) 0 0 _ refl refl (λ lt. refl) refl refl
      (near code 0 _ _ 0 ks refl
      (reg_stands code (record m { left = l; aside = record m.aside { heap = a } }) (record s { left = l; aside = record s.aside { heap = b } }) ks (m.top.at + 1) (register (target ks) d) w refl
      (inside o (register (target ks) d) u v at x)
      (steady_beside code m s ks (record m.aside { heap = a }) (record s.aside { heap = b }) l l
      (record { name = h.beside.name; heap = e; alone = h.beside.alone; lone = h.beside.lone }) h) takes))))
      1 (ran o (register (target ks) d) u v at x)

  value_row : (os : Operands) (o : Binary) (u v : Value) (at : ℕ) → Answers code m o (so_far os (target ks) d) u v at → Ops os (m.top.at + 1) (Reg (so_far os (target ks) d)) → Row code (Sim code) m s 0 (After os o u v at)
  value_row NoOperand o u v at x c =
      acts code (Sim code) m s _ (λ left. outcome_map code (Near code 1) (Sim code) m _ (λ t w k g. (1, g)) (last_after o u v at x c.1 left))
  value_row (MoreOperands q line e os) o u v at x c =
      acts code (Sim code) m s _ (λ left.
      answered_comes code m s (ChainS (MoreOperands q line e os) env sc Anywhere ∷ ks) (binary s.aside.heap.texts o u v) at left (chain (MoreOperands q line e os) Anywhere refl) (inside o d u v at x) c 1 (ran o d u v at x))

  -- ---- a comparison that jumps by itself
  abbrev tested : Operands → Value → State
  tested os w = record s { focus = Gives w; ks = ChainK os env ∷ contexts ks }

  on_true : (os : Operands) (w : Value) (pay z : ℕ) → is_true w ≡ true → run 1 code m ≡ chosen (is_true w) pay z m → (y : Way code m.top.function (m.top.at + 1) (λ j. Ops os j (Holds pay))) → s.left ≡ m.left
      → Outcome code (Sim code) m (Next (tested os w))
  on_true os w pay z t runs y left =
      pays_ahead code (Sim code) m m (put_at y.at m) (tested os w) pay 1 (λ x. next x) (runs ∙ ap (λ b. chosen b pay z m) t) left refl
      (λ l. (y.n, put_at (m.top.at + 1) (record m { left = l }), refl, y.runs (record m { left = l }) refl))
      (λ l. standing code _ _ pay (ChainS os env sc Decided ∷ ks) refl
      (shown_stands code (record (put_at y.at m) { left = l }) s (ChainS os env sc Decided ∷ ks) (Holds pay) w (steady_at code m s (ChainS os env sc Decided ∷ ks) y.at l (chain os Decided refl)) y.holds t tt tt))

  on_false : (os : Operands) (w : Value) (pay z : ℕ) → is_true w ≡ false → run 1 code m ≡ chosen (is_true w) pay z m → (y : Way code m.top.function z (λ j. Ops os j Fails)) → s.left ≡ m.left
      → Outcome code (Sim code) m (Next (tested os w))
  on_false os w pay z t runs y left =
      inl (
        1 + y.n,
        put_at y.at m,
        0,
        runs_more code 1 y.n m (put_at z m) _ (runs ∙ ap (λ b. chosen b pay z m) t) (y.runs m refl),
        omega (arith, left),
        standing code _ _ 0 (ChainS os env sc Decided ∷ ks) refl
            (shown_stands code (put_at y.at m) s (ChainS os env sc Decided ∷ ks) Fails w (steady_at code m s (ChainS os env sc Decided ∷ ks) y.at m.left (chain os Decided refl)) y.holds t tt tt),
      )

  by_truth : (os : Operands) (w : Value) (pay z : ℕ) (b : Bool) → is_true w ≡ b → run 1 code m ≡ chosen (is_true w) pay z m → Way code m.top.function (m.top.at + 1) (λ j. Ops os j (Holds pay)) → Way code m.top.function z (λ j. Ops os j Fails)
      → s.left ≡ m.left → Outcome code (Sim code) m (Next (tested os w))
  by_truth os w pay z true t runs yes_way no_way left = on_true os w pay z t runs yes_way left
  by_truth os w pay z false t runs yes_way no_way left = on_false os w pay z t runs no_way left

  by_answer : (os : Operands) (a : Answer) (pay z at : ℕ) → IsOld a → run 1 code m ≡ unless a at pay z m → Way code m.top.function (m.top.at + 1) (λ j. Ops os j (Holds pay)) → Way code m.top.function z (λ j. Ops os j Fails)
      → s.left ≡ m.left → Outcome code (Sim code) m (meaning_moves.answered a at s (ChainK os env ∷ contexts ks))
  by_answer os (answer.Plain w) pay z at old runs yes_way no_way left = by_truth os w pay z (is_true w) refl runs yes_way no_way left
  by_answer os (answer.Fresh bytes) pay z at old runs yes_way no_way left = absurd old
  by_answer os (answer.Refused why) pay z at old runs yes_way no_way left = refused_comes code (Sim code) m m s ks (Some at) why (ChainK os env ∷ contexts ks) left h 1 runs

  test_row : (os : Operands) (o : Binary) (u v : Value) (pay z at : ℕ) → Tests code m o u v pay z at → IsOld (binary s.aside.heap.texts o u v) → Leads code m.top.function (m.top.at + 1) (λ j. Ops os j (Holds pay))
      → Leads code m.top.function z (λ j. Ops os j Fails) → Row code (Sim code) m s 0 (After os o u v at)
  test_row os o u v pay z at x old t f =
      acts code (Sim code) m s _ (λ left.
      by_answer os (binary s.aside.heap.texts o u v) pay z at old
      (runs_op code m x.op _ x.is.0
      (x.does ∙ ap (λ a. unless a (line code m) pay z m) (x.same ∙ ap (λ b. binary b.texts o u v) h.beside.heap) ∙ ap (λ i. unless (binary s.aside.heap.texts o u v) i pay z m) (line_is code m at x.is.1)))
      (way code m.top.function (m.top.at + 1) _ t) (way code m.top.function z _ f) left)

  pub operand_gives : (o : Binary) (at : ℕ) (u v : Value) (os : Operands) (p q : Shown) → Shows (view m.top) m.row p u → Shows (view m.top) m.row q v
      → (IsBinary code m.top.function m.top.at o (so_far os (target ks) d) p q at × Ops os (m.top.at + 1) (Reg (so_far os (target ks) d)))
      ⊎ WhereDecided (target ks) ((pay z : ℕ) × AtSome code m.top.function m.top.at (test_op o p q pay z) at
      × Leads code m.top.function (m.top.at + 1) (λ j. Ops os j (Holds pay))
      × Leads code m.top.function z (λ j. Ops os j Fails))
      → Row code (Sim code) m s (ahead q) (After os o u v at)
  operand_gives o at u v os p q left right (inl c) =
      subst (λ k. Row code (Sim code) m s k (After os o u v at)) (sym (binary_plain code m.top.function m.top.at o (so_far os (target ks) d) p q at c.0))
      (value_row os o u v at (binary_does code m o (so_far os (target ks) d) p q u v at c.0 left right) c.1)
  operand_gives o at u v os p q left right (inr c) =
      let t = (there_decided (target ks) _ Fails c).1 in
      subst (λ k. Row code (Sim code) m s k (After os o u v at)) (sym (test_plain code m.top.function m.top.at o p q t.0 t.1 at t.2))
      (test_row os o u v t.0 t.1 at (test_does code m o p q u v t.0 t.1 at t.2 left right) (test_old s.aside.heap.texts o u v (is_test code m.top.function m.top.at o p q t.0 t.1 at t.2)) t.3 t.4)
